-- `octets::put_octets` meets its contract: what is left of the octets is stored one by one.
use mathlib.Core.Path.{refl}
use native.Mathlib.Nat.{add-zero, add_assoc}
use native.Mathlib.Numerals.{add-one}
use lib.ListN.{length-set, drop_of_length-le}
use lib.Seq.{drop-cons}
use Rattle.octets.proofs.Laws.{left_start, left_step, left_end, wrote_one}
use Rattle.octets.proofs.put_octets.Goals as goal

pub loop-i-init : goal.loop-i-init
loop-i-init c = (refl, rw add-zero (left_start _ _ _))

pub loop-i-preserved : goal.loop-i-preserved
loop-i-preserved c =
    let l = c.loop-i in
    (simp length-set l.invariant.0, rw (← add_assoc) (left_step _ l.invariant.1 (wrote_one _ _ _) (rw add-one (drop-cons _ l.i 0 c.loop-i-test.true))))

pub returns : goal.returns
returns c = record { place = refl; list = (left_end c.loop-i.invariant.1 (drop_of_length-le _ c.loop-i-test.false)).1 }
