-- `address::writing::put_digits` meets its contract: the octets that are left, stored too, still give the whole.
use Prim.Native.Nat.{◌≤◌}
use mathlib.Core.Path.{refl, ◌∙◌}
use mathlib.Core.List.{map}
use native.Mathlib.Omega.{arith}
use native.Mathlib.Nat.{add-zero, add_assoc}
use lib.ListN.{length, length-map, length-set, drop_of_length-le}
use Rattle.octets.proofs.Laws.{left_start, left_step, left_end, wrote_one}
use Rattle.address.specs.Writing.{digit_value}
use Rattle.address.proofs.DigitCharacters.{pairs_next, digits_size}
use Rattle.address.proofs.writing.put_digits.Invariants.{octets_of}
use Rattle.address.proofs.writing.put_digits.Goals as goal

pub loop-j-init : goal.loop-j-init
loop-j-init c = (omega arith, refl, rw add-zero (left_start _ _ _))

pub loop-j-preserved : goal.loop-j-preserved
loop-j-preserved c =
    let text = c.args.text.now in
    let l = c.loop-j in
    let e = pairs_next (map digit_value text) l.j (rw length-map (omega arith)) in (
      l.invariant.0,
      simp length-set l.invariant.1,
      rw (← add_assoc) (left_step _ l.invariant.2 (wrote_one _ _ _) (e ∙ rw (c.semi_octet_or_f-first.ensures.0, c.semi_octet_or_f-second.ensures.0))),
    )

pub shape_of-out : goal.shape_of-out
shape_of-out c = c.loop-j.invariant.1

pub returns : goal.returns
returns c =
    let a = c.args in
    let l = c.loop-j in
    let s = digits_size a.text.now in
    let h : length (octets_of a.text.now) ≤ l.j = rw s (omega arith) in
    record { place = rw s (omega arith); list = (left_end l.invariant.2 (drop_of_length-le _ h)).1 }
