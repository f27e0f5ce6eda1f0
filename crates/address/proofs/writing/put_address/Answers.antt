-- `address::writing::put_address` meets its contract: L and type octet, and behind them septets or digits.
use Prim.Native.Nat.{ℕ, ◌≤◌}
use mathlib.Core.Path.{◌≡◌, ◌∙◌}
use mathlib.Core.List.{List, []}
use mathlib.Core.Option.{Option, some}
use native.Mathlib.Omega.{arith}
use lib.ListN.{length, length-set}
use Rattle.octets.specs.Lent.{Wrote}
use Rattle.octets.proofs.Laws.{kept_by}
use Rattle.address.specs.Writing.{octets_or}
use Rattle.address.specs.Internal.{Spells}
use Rattle.address.proofs.Checks.{fine_range, fine_text, fine_digits, fine_small, septets_are, wrote_field}
use Rattle.address.proofs.writing.put_address.Goals as goal

-- the octets that are written, once the address is known
octets_are : {o : Option (List ℕ)} {xs : List ℕ} {at : ℕ} {out : List ℕ} {next : ℕ} {after : List ℕ} → o ≡ some xs → Wrote at xs out next after → Wrote at (octets_or [] o) out next after
octets_are e w = rw e w

spells : (o : Option (List ℕ)) (ss : List ℕ) → o ≡ some ss → length ss ≤ 11 → Spells o 11
spells o ss e h = rw e h

pub overflow_cast-out : goal.overflow_cast-out
overflow_cast-out c = let p = c.requires.0 in omega (arith, fine_small _ _ _ _ p)

pub overflow_mul-out : goal.overflow_mul-out
overflow_mul-out c = let p = c.requires.0 in omega (arith, fine_range _ _ _ _ p)

pub overflow_add-out : goal.overflow_add-out
overflow_add-out c = let p = c.requires.0 in omega (arith, fine_range _ _ _ _ p)

pub overflow_add-out-2 : goal.overflow_add-out-2
overflow_add-out-2 c = let p = c.requires.0 in omega (arith, fine_range _ _ _ _ p)

pub bounds-out-at-2 : goal.bounds-out-at-2
bounds-out-at-2 c = simp length-set (omega arith)

pub put_septets-requires : goal.put_septets-requires
put_septets-requires c =
    let f = fine_text _ _ _ _ c.requires.0 c.if-number-eq-TYPE_OF_NUMBER_ALPHANUMERIC.true in
    (spells _ f.0 f.1 f.2, rw (septets_are _ f.0 f.1) (simp length-set (omega (arith, f.2, f.3, c.requires.1))))

pub shape_of-out-then-number-eq-TYPE_OF_NUMBER_ALPHANUMERIC : goal.shape_of-out-then-number-eq-TYPE_OF_NUMBER_ALPHANUMERIC
shape_of-out-then-number-eq-TYPE_OF_NUMBER_ALPHANUMERIC c = kept_by c.put_septets.ensures ∙ simp length-set

pub returns-then-number-eq-TYPE_OF_NUMBER_ALPHANUMERIC : goal.returns-then-number-eq-TYPE_OF_NUMBER_ALPHANUMERIC
returns-then-number-eq-TYPE_OF_NUMBER_ALPHANUMERIC c =
    let a = c.args in
    let f = fine_text _ _ _ _ c.requires.0 c.if-number-eq-TYPE_OF_NUMBER_ALPHANUMERIC.true in
    octets_are f.4 (wrote_field a.at _ _ _ _ (rw (septets_are _ f.0 f.1) at c.put_septets.ensures))

pub put_digits-requires : goal.put_digits-requires
put_digits-requires c =
    let f = fine_digits _ _ _ _ c.requires.0 c.if-number-eq-TYPE_OF_NUMBER_ALPHANUMERIC.false in
    simp length-set (omega (arith, f.1, c.requires.1))

pub shape_of-out : goal.shape_of-out
shape_of-out c = kept_by c.put_digits.ensures ∙ simp length-set

pub returns : goal.returns
returns c =
    let a = c.args in
    let f = fine_digits _ _ _ _ c.requires.0 c.if-number-eq-TYPE_OF_NUMBER_ALPHANUMERIC.false in
    octets_are f.2 (wrote_field a.at _ _ _ _ c.put_digits.ensures)
