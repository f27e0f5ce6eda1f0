-- What the layout comes to, field by field.
-- Assumes nothing.
use Rattle.std.specs.Prelude.{Ok, Err}
use Prim.Native.Nat.{ℕ, ◌+◌, ◌≤◌}
use mathlib.Core.Path.{◌≡◌, refl, sym, ◌∙◌}
use mathlib.Core.List.{List}
use native.Mathlib.Omega.{arith}
use lib.ListN.{length, take, drop}
use Rattle.octets.specs.Each.{Octets}
use Rattle.octets.specs.Places.{octet_at, span_at}
use Rattle.octets.specs.declared.Place.{Place}
use Rattle.octets.specs.declared.Refusal.TheVariants.{OctetsEnd, WrongMessageType}
use Rattle.octets.proofs.Places.{octet_read, span_there, span_inside, start}
use Rattle.coding.specs.Coding.{coding_of, data_octets}
use Rattle.coding.proofs.Laws.{data_at_most}
use Rattle.address.specs.Address.{address_size, canonical_address}
use Rattle.address.specs.Internal.{address_span}
use Rattle.layout.specs.Layout.{Format, any, up_to, address, field, cut, kept, message_type, Reached, reached, halted, read_from}
use Rattle.layout.proofs.Steps.{message_goes_on, message_differs, message_ends, octet_goes_on, octet_ends, span_goes_on, span_ends, address_goes_on, address_ends, done_reached, address_inside, address_starts}
use Rattle.deliver.specs.Layout.{Fields, bits, fields}
use Rattle.deliver.specs.Internal.{after_coding, after_address}

-- ---- after TP-DCS

module _ (s : List ℕ) (f : ℕ) (oa : List ℕ) (pid dcs : ℕ) (p : Place) where
  abbrev after_dcs : Reached Fields
  after_dcs = read_from (after_coding f oa pid dcs) s p.at

  pub no_time : span_at s p 7 ≡ Err OctetsEnd → halted OctetsEnd ≡ after_dcs
  unfolding after_coding
  no_time e = sym (span_ends s p 7 e any _)

  module _ {scts : ℕ} {p₂ : Place} (e₁ : span_at s p 7 ≡ Ok (scts, p₂)) where
    pub no_udl : octet_at s p₂ ≡ Err OctetsEnd → halted OctetsEnd ≡ after_dcs
    unfolding after_coding
    no_udl e = sym (span_goes_on s p 7 e₁ any _ ∙ octet_ends s p₂ e _)

    module _ {udl : ℕ} {p₃ : Place} (e₂ : octet_at s p₂ ≡ Ok (udl, p₃)) {n : ℕ} (size : n ≡ data_octets (coding_of dcs) udl) where
      pub no_data : span_at s p₃ n ≡ Err OctetsEnd → halted OctetsEnd ≡ after_dcs
      unfolding after_coding
      no_data e = sym (span_goes_on s p 7 e₁ any _ ∙ octet_goes_on s p₂ e₂ _ ∙ rw (← size) (span_ends s p₃ n e (up_to 140) _))

      module _ {ud : ℕ} {p₄ : Place} (e₃ : span_at s p₃ n ≡ Ok (ud, p₄)) where
        pub all_there : reached (record { first = f; oa = oa; pid = pid; dcs = dcs; scts = take 7 (drop scts s); udl = udl; ud = take n (drop ud s) }) (ud + n) ≡ after_dcs
        unfolding after_coding
        all_there =
            sym (span_goes_on s p 7 e₁ any _ ∙ octet_goes_on s p₂ e₂ _ ∙ rw (← size) (span_goes_on s p₃ n e₃ (up_to 140) _ ∙ done_reached s _ _
            ∙ rw ((span_there s p 7 e₁).1, (span_there s p₃ n e₃).1, (span_there s p₃ n e₃).2)))

        pub all_inside : Octets s → p.at ≤ length s → (scts + 7 ≤ length s) × (ud + n ≤ length s) × (n ≤ 255)
        all_inside o h =
            let (there, beyond) = span_inside s p 7 e₁ h in
            let (within, is, next) = octet_read s p₂ e₂ in
            (there, (span_inside s p₃ n e₃ (omega arith)).0, omega (arith, o p₂.at, data_at_most (coding_of dcs) udl))

-- ---- PID and DCS

module _ (s : List ℕ) (f : ℕ) (oa : List ℕ) (p : Place) where
  abbrev after_oa : Reached Fields
  after_oa = read_from (after_address f oa) s p.at

  pub no_pid : octet_at s p ≡ Err OctetsEnd → halted OctetsEnd ≡ after_oa
  unfolding after_address
  no_pid e = sym (octet_ends s p e _)

  module _ {pid : ℕ} {p₂ : Place} (e₁ : octet_at s p ≡ Ok (pid, p₂)) where
    pub no_dcs : octet_at s p₂ ≡ Err OctetsEnd → halted OctetsEnd ≡ after_oa
    unfolding after_address
    no_dcs e = sym (octet_goes_on s p e₁ _ ∙ octet_ends s p₂ e _)

    pub to_coding : {dcs : ℕ} {p₃ : Place} → octet_at s p₂ ≡ Ok (dcs, p₃) → read_from (after_coding f oa pid dcs) s p₃.at ≡ after_oa
    unfolding after_address
    to_coding e = sym (octet_goes_on s p e₁ _ ∙ octet_goes_on s p₂ e _)

-- ---- the first octet and the address

module _ (s : List ℕ) where
  abbrev after_first : ℕ → Format Fields
  after_first f = field address λ oa. after_address f oa

  pub no_first : octet_at s start ≡ Err OctetsEnd → halted OctetsEnd ≡ read_from fields s 0
  unfolding fields after_address after_coding
  no_first e = sym (message_ends s start e 0 bits after_first)

  module _ {b : ℕ} {p : Place} (e : octet_at s start ≡ Ok (b, p)) where
    pub other_type : (message_type b ≡ 0 → ⊥) → halted WrongMessageType ≡ read_from fields s 0
    unfolding fields after_address after_coding
    other_type d = sym (message_differs s start e 0 bits refl after_first d)

    module _ (m : message_type b ≡ 0) where
      pub no_address : address_span s p ≡ Err OctetsEnd → halted OctetsEnd ≡ read_from fields s 0
      unfolding fields after_address after_coding
      no_address d = sym (message_goes_on s start e 0 bits refl after_first m ∙ address_ends s p d (after_address (kept bits b)))

      pub to_address_lem : {oa : ℕ} {q : Place} → address_span s p ≡ Ok (oa, q)
          → (oa + address_size (drop oa s) ≤ length s) × (read_from (after_address (kept bits b) (canonical_address (cut address (drop oa s)))) s q.at ≡ read_from fields s 0) × (oa ≡ 1)
      unfolding fields after_address after_coding
      to_address_lem d = (
        (address_inside s p d (omega (arith, octet_read s start e))).0,
        sym (message_goes_on s start e 0 bits refl after_first m ∙ address_goes_on s p d (after_address (kept bits b))),
        omega (arith, octet_read s start e, address_starts s p d),
      )
