-- What the layout comes to, field by field.
-- Assumes nothing.
use Rattle.std.specs.Prelude.{Ok, Err, Some, None, Option}
use Prim.Native.Nat.{ℕ, ◌+◌, ◌-◌, ◌≤◌, ◌<◌}
use mathlib.Core.Path.{◌≡◌, refl, sym, ◌∙◌}
use mathlib.Core.List.{List}
use native.Mathlib.Nat.{add-zero}
use native.Mathlib.Omega.{arith}
use lib.ListN.{length, take, drop}
use Rattle.octets.specs.Places.{octet_at, span_at}
use Rattle.octets.specs.declared.Place.{Place}
use Rattle.octets.specs.declared.Refusal.TheVariants.{OctetsEnd, WrongMessageType}
use Rattle.octets.proofs.Places.{octet_read, span_there, start}
use Rattle.address.specs.Address.{address_size, canonical_address}
use Rattle.address.specs.Internal.{address_span}
use Rattle.layout.specs.Layout.{Format, any, address, field, one, cut, kept, message_type, Reached, reached, halted, read_from}
use Rattle.layout.specs.Internal.{indicator_at, placed}
use Rattle.layout.proofs.Steps.{message_goes_on, message_differs, message_ends, octet_goes_on, octet_ends, span_goes_on, span_ends, address_goes_on, address_ends, indicator_goes_on, indicator_ends, end_reached, end_not_reached, then_goes_on, then_ends, done_reached, address_inside, address_starts}
use Rattle.parameters.specs.Parameters.{Parameters}
use Rattle.parameters.specs.Layout.{parameters}
use Rattle.parameters.specs.Internal.{counted}
use Rattle.parameters.proofs.StepsOfReader.{Found, parameters_halted}
use Rattle.status_report.specs.Layout.{Fields, bits, fields}
use Rattle.status_report.specs.Internal.{fields_with, after_status, after_address}

-- ---- after status

module _ (s : List ℕ) (make : Option ℕ → Parameters → Fields) (p : Place) where
  abbrev tail : Reached Fields
  tail = read_from (after_status make) s p.at

  pub ended : length s ≤ p.at → reached (make None (record { pid = None; dcs = None; udl = None; ud = take 0 (drop p.at s) })) (p.at + 0) ≡ tail
  unfolding after_status
  ended h = sym (end_reached s p.at _ _ h ∙ done_reached s _ _ ∙ rw add-zero)

  module _ (h : p.at < length s) where
    pub no_indicator : indicator_at s p ≡ Err OctetsEnd → halted OctetsEnd ≡ tail
    unfolding after_status
    no_indicator e = sym (end_not_reached s p.at _ _ h ∙ indicator_ends s p e _)

    module _ {pi : ℕ} {q : Place} (r : indicator_at s p ≡ Ok (pi, q)) where
      pub no_parameters_lem : counted (placed (read_from (parameters pi) s q.at)) ≡ Err OctetsEnd → halted OctetsEnd ≡ tail
      unfolding after_status
      no_parameters_lem e = sym (end_not_reached s p.at _ _ h ∙ indicator_goes_on s p r _ ∙ then_ends s (parameters pi) q.at (parameters_halted s q.at pi e) _)

      pub whole : {pid dcs udl : Option ℕ} {size : ℕ} {t : Place} → Found s q.at pi pid dcs udl size t
          → reached (make (Some pi) (record { pid = pid; dcs = dcs; udl = udl; ud = take size (drop (t.at - size) s) })) (t.at - size + size) ≡ tail
      unfolding after_status
      whole {size = size} {t} found = let back : t.at - size + size ≡ t.at = omega (arith, found.start) in rw back (sym (end_not_reached s p.at _ _ h ∙ indicator_goes_on s p r _ ∙ then_goes_on s (parameters pi) q.at found.is _ ∙ done_reached s _ _))

-- ---- the fields after the address

module _ (s : List ℕ) (f mr : ℕ) (ra : List ℕ) (p : Place) where
  abbrev rest : Reached Fields
  rest = read_from (after_address f mr ra) s p.at

  pub no_time : span_at s p 7 ≡ Err OctetsEnd → halted OctetsEnd ≡ rest
  unfolding after_address
  no_time e = sym (span_ends s p 7 e any _)

  module _ {scts : ℕ} {p₂ : Place} (e₁ : span_at s p 7 ≡ Ok (scts, p₂)) where
    pub no_discharge : span_at s p₂ 7 ≡ Err OctetsEnd → halted OctetsEnd ≡ rest
    unfolding after_address
    no_discharge e = sym (span_goes_on s p 7 e₁ any _ ∙ span_ends s p₂ 7 e any _)

    module _ {dt : ℕ} {p₃ : Place} (e₂ : span_at s p₂ 7 ≡ Ok (dt, p₃)) where
      pub no_status : octet_at s p₃ ≡ Err OctetsEnd → halted OctetsEnd ≡ rest
      unfolding after_address
      no_status e = sym (span_goes_on s p 7 e₁ any _ ∙ span_goes_on s p₂ 7 e₂ any _ ∙ octet_ends s p₃ e _)

      pub to_status_lem : {st : ℕ} {p₄ : Place} → octet_at s p₃ ≡ Ok (st, p₄) → read_from (after_status (fields_with f mr ra (take 7 (drop scts s)) (take 7 (drop dt s)) st)) s p₄.at ≡ rest
      unfolding after_address
      to_status_lem e =
          rw ((span_there s p 7 e₁).1, (span_there s p₂ 7 e₂).1)
          (sym (span_goes_on s p 7 e₁ any _ ∙ span_goes_on s p₂ 7 e₂ any _ ∙ octet_goes_on s p₃ e _))

-- ---- the first octet, the reference and the address

module _ (s : List ℕ) where
  abbrev after_first : ℕ → Format Fields
  after_first f = one λ mr. field address λ ra. after_address f mr ra

  pub no_first : octet_at s start ≡ Err OctetsEnd → halted OctetsEnd ≡ read_from fields s 0
  unfolding fields after_address after_status
  no_first e = sym (message_ends s start e 2 bits after_first)

  module _ {b : ℕ} {p : Place} (e : octet_at s start ≡ Ok (b, p)) where
    pub other_type : (message_type b ≡ 2 → ⊥) → halted WrongMessageType ≡ read_from fields s 0
    unfolding fields after_address after_status
    other_type d = sym (message_differs s start e 2 bits refl after_first d)

    module _ (m : message_type b ≡ 2) where
      pub no_reference : octet_at s p ≡ Err OctetsEnd → halted OctetsEnd ≡ read_from fields s 0
      unfolding fields after_address after_status
      no_reference d = sym (message_goes_on s start e 2 bits refl after_first m ∙ octet_ends s p d _)

      module _ {mr : ℕ} {p₂ : Place} (e₂ : octet_at s p ≡ Ok (mr, p₂)) where
        pub no_address : address_span s p₂ ≡ Err OctetsEnd → halted OctetsEnd ≡ read_from fields s 0
        unfolding fields after_address after_status
        no_address d = sym (message_goes_on s start e 2 bits refl after_first m ∙ octet_goes_on s p e₂ _ ∙ address_ends s p₂ d (after_address (kept bits b) mr))

        pub to_address_lem : {ra : ℕ} {q : Place} → address_span s p₂ ≡ Ok (ra, q)
            → (ra + address_size (drop ra s) ≤ length s) × (q.at ≤ length s) × (read_from (after_address (kept bits b) mr (canonical_address (cut address (drop ra s)))) s q.at ≡ read_from fields s 0) × (ra ≡ 2)
        unfolding fields after_address after_status
        to_address_lem d =
            let (room, past) = address_inside s p₂ d (omega (arith, octet_read s p e₂)) in
            (room, past, sym (message_goes_on s start e 2 bits refl after_first m ∙ octet_goes_on s p e₂ _ ∙ address_goes_on s p₂ d (after_address (kept bits b) mr)), omega (arith, octet_read s start e, octet_read s p e₂, address_starts s p₂ d))
