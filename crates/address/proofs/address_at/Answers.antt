-- `address::address_at` meets its contract: length octet, type octet, value.
use Prim.Native.Nat.{ℕ, suc, ◌+◌, ◌-◌, ◌/◌, ◌≤◌, ◌<◌}
use mathlib.Core.Path.{◌≡◌, refl, ap, ◌∙◌}
use mathlib.Core.List.{List, [], ◌∷◌}
use native.Mathlib.Omega.{arith}
use native.Mathlib.Nat.{add-zero}
use lib.ListN.{length, get_or, take, drop, replicate}
use lib.Seq.{get_or-drop, get_or-take, drop-drop, take-nil}
use Rattle.octets.specs.Each.{Octets}
use Rattle.octets.specs.Lent.{Wrote}
use Rattle.octets.proofs.Holding.{stored}
use Rattle.octets.proofs.Laws.{part_is, part_size}
use Rattle.octets.proofs.Each.{octets_take, octets_drop}
use Rattle.address.specs.declared.SMSAddress.{SMSAddress}
use Rattle.address.specs.Address.{type_of_number, plan_of, value_text, value_septets, address_with, text_in, address_in, septets_read, address_size}
use Rattle.gsm7.specs.Reading.{replaced_in}
use Rattle.address.proofs.Shapes.{read_fits}
use Rattle.address.proofs.address_at.Goals as goal

drop_two : (k : ℕ) (s : List ℕ) → drop 2 (take (2 + k) s) ≡ take k (drop 2 s)
drop_two k [] = let e : 2 + k ≡ suc (suc k) = omega arith in rw (e, take-nil)
drop_two k (a ∷ []) = let e : 2 + k ≡ suc (suc k) = omega arith in rw (e, take-nil)
drop_two k (a ∷ x ∷ s) = let e : 2 + k ≡ suc (suc k) = omega arith in rw e

-- the field at a place, octet by octet
module _ (d : List ℕ) (at : ℕ) where
  abbrev field : List ℕ
  field = take (address_size (drop at d)) (drop at d)

  at_zero : get_or (drop at d) 0 0 ≡ get_or d at 0
  at_zero = get_or-drop at d 0 0 ∙ ap (λ (i : ℕ). get_or d i 0) (add-zero at)

  length_octet : get_or field 0 0 ≡ get_or d at 0
  length_octet = get_or-take (address_size (drop at d)) (drop at d) 0 0 (omega arith) ∙ at_zero

  type_octet : get_or field 1 0 ≡ get_or d (at + 1) 0
  type_octet = get_or-take (address_size (drop at d)) (drop at d) 1 0 (omega arith) ∙ get_or-drop at d 1 0

  value_octets_lem : drop 2 field ≡ take ((get_or d at 0 + 1) / 2) (drop (at + 2) d)
  value_octets_lem = drop_two ((get_or (drop at d) 0 0 + 1) / 2) (drop at d) ∙ rw (at_zero, drop-drop)

  -- what is read of it, stored in the array of a record
  whole : (address : List ℕ) (n : ℕ) (value : List ℕ) → get_or d at 0 < 256 → Octets value → value ≡ take ((get_or d at 0 + 1) / 2) (drop (at + 2) d)
      → let ton = type_of_number (get_or d (at + 1) 0) in Wrote 0 (value_text ton (get_or d at 0) value) (replicate 290 0) n address
      → ◌≡◌ {A = SMSAddress} (record { ton = ton; npi = plan_of (get_or d (at + 1) 0); address = record { octets = address; length = n } }) (address_in field)
  unfolding address_in address_with text_in
  whole address n value small octets value_is w =
      let ton = type_of_number (get_or d (at + 1) 0) in
      let fits = (read_fits ton 0 (get_or d at 0) value small octets).3 in
      rw (type_octet, length_octet, value_octets_lem, ← value_is, stored 290 (value_text ton (get_or d at 0) value) fits w)

  septets_are : (value : List ℕ) → value ≡ take ((get_or d at 0 + 1) / 2) (drop (at + 2) d) → value_septets (type_of_number (get_or d (at + 1) 0)) (get_or d at 0) value ≡ septets_read field
  unfolding septets_read
  septets_are value value_is = rw (type_octet, length_octet, value_octets_lem, ← value_is)

-- a part of octets is octets
cut_octets : (d : List ℕ) → Octets d → (n k : ℕ) → Octets (take n (drop k d))
cut_octets d o n k = octets_take n (drop k d) (octets_drop k d o)

-- the value as the code cuts it out
part_long : (d : List ℕ) (at x : ℕ) → at + 2 + x ≤ length d → x ≤ length (take (at + 2 + x - (at + 2)) (drop (at + 2) d))
part_long d at x h = rw (part_is (at + 2) x d, part_size (at + 2) x d h) (omega arith)

pub overflow_cast-count : goal.overflow_cast-count
overflow_cast-count c = omega (arith, c.type_inv.«data» c.args.at)

pub overflow_add-end : goal.overflow_add-end
overflow_add-end c = omega (arith, c.shared_slice_known-2-1.given c.args.at)

pub overflow_add-end-2 : goal.overflow_add-end-2
overflow_add-end-2 c = omega (arith, at_zero c.args.«data».now c.args.at)

pub slice_bounds-value_text-end : goal.slice_bounds-value_text-end
slice_bounds-value_text-end c = omega (arith, at_zero c.args.«data».now c.args.at)

pub value_text-put-requires : goal.value_text-put-requires
value_text-put-requires c =
    let a = c.args in
    let d = a.«data».now in
    (omega (arith, c.shared_slice_known-2-1.given a.at), part_long d a.at ((get_or d a.at 0 + 1) / 2) (omega (arith, at_zero d a.at, c.requires)), refl)

pub returns : goal.returns
returns c =
    let a = c.args in
    let d = a.«data».now in
    let known = c.shared_slice_known-2-1.given in
    let x = (get_or d a.at 0 + 1) / 2 in
    let value_is = part_is (a.at + 2) x d in
    let w = c.value_text-put.ensures in
    (whole d a.at c.value_text-put.new.text c.value_text-put.result.end _ (known a.at).fits (cut_octets d (λ i. (known i).fits) (a.at + 2 + x - (a.at + 2)) (a.at + 2)) value_is w.0, w.1 ∙ ap replaced_in (septets_are d a.at _ value_is))
