-- What the layout comes to, field by field.
-- Assumes nothing.
use Rattle.std.specs.Prelude.{Ok, Err}
use Prim.Native.Nat.{ℕ, ◌+◌, ◌-◌, ◌≤◌, ◌<◌}
use mathlib.Core.Path.{◌≡◌, refl, sym, ◌∙◌}
use mathlib.Core.Bool.{Bool, true, false}
use mathlib.Core.List.{List}
use native.Mathlib.Omega.{arith}
use borrow.Author.Tests.{eqb-true, le-leb, lt-leb}
use lib.Dec.{eqb, leb}
use lib.ListN.{length, take, drop}
use lib.Seq.{length-take-le}
use Rattle.octets.specs.Each.{Octets}
use Rattle.octets.specs.Places.{octet_at, span_at}
use Rattle.octets.specs.declared.Place.{Place}
use Rattle.octets.specs.declared.Refusal.TheVariants.{OctetsEnd, WrongMessageType, HeaderNotWhole, HeaderPassesCount}
use Rattle.octets.proofs.Places.{octet_read, span_there, span_part, start}
use Rattle.octets.proofs.Table.{below}
use Rattle.coding.specs.Coding.{coding_of, data_octets}
use Rattle.coding.specs.declared.UserDataCoding.{UserDataCoding}
use Rattle.coding.proofs.Laws.{data_at_most}
use Rattle.user_data_header.specs.Header.{in_count}
use Rattle.address.specs.Address.{address_size, canonical_address}
use Rattle.address.specs.Internal.{address_span}
use Rattle.layout.specs.Layout.{Format, any, up_to, address, user_data, is_set, field, require, done, cut, kept, message_type, Reached, reached, halted, read_from}
use Rattle.layout.proofs.Steps.{message_goes_on, message_differs, message_ends, octet_goes_on, octet_ends, span_goes_on, span_ends, address_goes_on, address_ends, require_holds, require_fails, done_reached, address_inside, address_starts}
use Rattle.validity_period.specs.Validity.{period_size}
use Rattle.submit.specs.Layout.{Fields, format_in, header_size, bits, fields}
use Rattle.submit.specs.Internal.{after_coding, after_first}

-- ---- after TP-DCS

-- the header of data that are there, as the code cuts them out
pub header_is : (s : List ℕ) (p : Place) (n : ℕ) {a h : ℕ} {q : Place} (udhi : Bool) → span_at s p n ≡ Ok (a, q) → h ≡ header_size udhi (take (q.at - a) (drop a s)) → h ≡ header_size udhi (take n (drop a s))
header_is s p n udhi e is = let (fits, from, next) = span_there s p n e in is ∙ rw (span_part s p n e, from)

module _ (s : List ℕ) (f mr : ℕ) (da : List ℕ) (pid dcs : ℕ) (p : Place) {size : ℕ} (size_is : size ≡ period_size (format_in f)) where
  abbrev rest : Reached Fields
  rest = read_from (after_coding f mr da pid dcs) s p.at

  pub no_period : span_at s p size ≡ Err OctetsEnd → halted OctetsEnd ≡ rest
  unfolding after_coding
  no_period e = sym (rw (← size_is) (span_ends s p size e any _))

  module _ {vp : ℕ} {p₂ : Place} (e₁ : span_at s p size ≡ Ok (vp, p₂)) where
    pub no_udl : octet_at s p₂ ≡ Err OctetsEnd → halted OctetsEnd ≡ rest
    unfolding after_coding
    no_udl e = sym (rw (← size_is) (span_goes_on s p size e₁ any _ ∙ octet_ends s p₂ e _))

    module _ {udl : ℕ} {p₃ : Place} (e₂ : octet_at s p₂ ≡ Ok (udl, p₃)) {n : ℕ} (n-is : n ≡ data_octets (coding_of dcs) udl) where
      -- the fields with these data, and the header that must fit
      abbrev with_data : List ℕ → Fields
      with_data ud = record { first = f; mr = mr; da = da; pid = pid; dcs = dcs; vp = take size (drop vp s); udl = udl; ud = ud }

      abbrev fitting : ℕ → List ℕ → Format Fields
      fitting h ud = require HeaderNotWhole (leb h (length ud)) (require HeaderPassesCount (in_count (coding_of dcs) udl h) (done (with_data ud)))

      two : rest ≡ read_from (field (user_data n) λ ud. fitting (header_size (is_set 6 f) ud) ud) s p₃.at
      unfolding after_coding
      two = rw ((span_there s p size e₁).1, ← size_is, n-is) (span_goes_on s p size e₁ any _ ∙ octet_goes_on s p₂ e₂ _)

      pub no_data : span_at s p₃ n ≡ Err OctetsEnd → halted OctetsEnd ≡ rest
      no_data e = sym (two ∙ span_ends s p₃ n e (up_to 140) _)

      module _ {ud : ℕ} {p₄ : Place} (e₃ : span_at s p₃ n ≡ Ok (ud, p₄)) {h : ℕ} (h-is : h ≡ header_size (is_set 6 f) (take (p₄.at - ud) (drop ud s))) where
        abbrev those : List ℕ
        those = take n (drop ud s)

        three : rest ≡ read_from (require HeaderNotWhole (leb h n) (require HeaderPassesCount (in_count (coding_of dcs) udl h) (done (with_data those)))) s p₄.at
        three =
            let (fits, from, next) = span_there s p₃ n e₃ in
            let size : length those ≡ n = rw from (length-take-le n (drop p₃.at s) fits) in
            two ∙ span_goes_on s p₃ n e₃ (up_to 140) _ ∙ rw (← from, ← header_is s p₃ n (is_set 6 f) e₃ h-is, size)

        pub not_whole_lem : n < h → halted HeaderNotWhole ≡ rest
        not_whole_lem l = sym (three ∙ require_fails s p₄.at (lt-leb h n l) HeaderNotWhole _)

        module _ (fits : h ≤ n) where
          pub passes_count : in_count (coding_of dcs) udl h ≡ false → halted HeaderPassesCount ≡ rest
          passes_count c = sym (three ∙ require_holds s p₄.at (le-leb h n fits) HeaderNotWhole _ ∙ require_fails s p₄.at c HeaderPassesCount _)

          pub all_there : in_count (coding_of dcs) udl h ≡ true → reached (with_data those) (ud + n) ≡ rest
          all_there c =
              let (room, from, next) = span_there s p₃ n e₃ in
              let end : ud + n ≡ p₄.at = omega arith in
              rw end (sym (three ∙ require_holds s p₄.at (le-leb h n fits) HeaderNotWhole _ ∙ require_holds s p₄.at c HeaderPassesCount _ ∙ done_reached s _ _))

-- a UDL counts at most 255 octets
pub data_few : (s : List ℕ) → Octets s → (p : Place) {udl n : ℕ} {q : Place} → octet_at s p ≡ Ok (udl, q) → (coding : UserDataCoding) → n ≡ data_octets coding udl → n ≤ 255
data_few s o p {udl} e coding size = omega (arith, o p.at, octet_read s p e, data_at_most coding udl)

-- ---- the first octet to TP-DCS

-- the layout names every bit of the first octet
pub kept_whole : (x : ℕ) → x < 256 → kept bits x ≡ x
unfolding kept
kept_whole x h = eqb-true _ _ (below (λ y. eqb (kept bits y) y) 256 refl x h)

module _ (s : List ℕ) where
  pub no_first : octet_at s start ≡ Err OctetsEnd → halted OctetsEnd ≡ read_from fields s 0
  unfolding fields after_first after_coding
  no_first e = sym (message_ends s start e 1 bits after_first)

  module _ {b : ℕ} {p : Place} (e₁ : octet_at s start ≡ Ok (b, p)) where
    pub other_type : (message_type b ≡ 1 → ⊥) → halted WrongMessageType ≡ read_from fields s 0
    unfolding fields after_first after_coding
    other_type d = sym (message_differs s start e₁ 1 bits refl after_first d)

    module _ (m : message_type b ≡ 1) where
      to_first : read_from fields s 0 ≡ read_from (after_first (kept bits b)) s p.at
      unfolding fields after_first after_coding
      to_first = message_goes_on s start e₁ 1 bits refl after_first m

      pub no_mr : octet_at s p ≡ Err OctetsEnd → halted OctetsEnd ≡ read_from fields s 0
      unfolding after_first
      no_mr e = sym (to_first ∙ octet_ends s p e _)

      module _ {mr : ℕ} {p₂ : Place} (e₂ : octet_at s p ≡ Ok (mr, p₂)) where
        pub no_address : address_span s p₂ ≡ Err OctetsEnd → halted OctetsEnd ≡ read_from fields s 0
        unfolding after_first
        no_address e = sym (to_first ∙ octet_goes_on s p e₂ _ ∙ address_ends s p₂ e _)

        module _ {da : ℕ} {p₃ : Place} (e₃ : address_span s p₂ ≡ Ok (da, p₃)) where
          pub no_pid : octet_at s p₃ ≡ Err OctetsEnd → halted OctetsEnd ≡ read_from fields s 0
          unfolding after_first
          no_pid e = sym (to_first ∙ octet_goes_on s p e₂ _ ∙ address_goes_on s p₂ e₃ _ ∙ octet_ends s p₃ e _)

          module _ {pid : ℕ} {p₄ : Place} (e₄ : octet_at s p₃ ≡ Ok (pid, p₄)) where
            pub no_dcs : octet_at s p₄ ≡ Err OctetsEnd → halted OctetsEnd ≡ read_from fields s 0
            unfolding after_first
            no_dcs e = sym (to_first ∙ octet_goes_on s p e₂ _ ∙ address_goes_on s p₂ e₃ _ ∙ octet_goes_on s p₃ e₄ _ ∙ octet_ends s p₄ e _)

            module _ {dcs : ℕ} {p₅ : Place} (e₅ : octet_at s p₄ ≡ Ok (dcs, p₅)) where
              pub to_dcs : Octets s → read_from (after_coding b mr (canonical_address (cut address (drop da s))) pid dcs) s p₅.at ≡ read_from fields s 0
              unfolding after_first
              to_dcs o =
                  let whole : kept bits b ≡ b = kept_whole b (rw (octet_read s start e₁).1 (o 0)) in
                  sym (to_first ∙ octet_goes_on s p e₂ _ ∙ address_goes_on s p₂ e₃ _ ∙ octet_goes_on s p₃ e₄ _ ∙ octet_goes_on s p₄ e₅ _ ∙ rw whole)

              -- the address and the place lie in the string
              pub room : (da + address_size (drop da s) ≤ length s) × (p₅.at ≤ length s)
              room = ((address_inside s p₂ e₃ (omega (arith, octet_read s p e₂))).0, omega (arith, octet_read s p₄ e₅))

          -- the address stands after first octet and reference
          pub address_third : da ≡ 2
          address_third = omega (arith, octet_read s start e₁, octet_read s p e₂, address_starts s p₂ e₃)
