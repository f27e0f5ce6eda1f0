-- `columns::put_numbers` meets its contract: what is left of the lengths, written too, gives the whole.
use Prim.Native.Nat.{◌+◌}
use mathlib.Core.Path.{ap}
use native.Mathlib.Omega.{arith}
use lib.ListN.{get_or, drop, drop_of_length-le}
use Rattle.octets.proofs.Laws.{left_step, left_fits, left_end}
use Rattle.columns.specs.Numbers.{groups}
use Rattle.columns.specs.Blocks.{numbers}
use Rattle.columns.proofs.Laws.{allowed_means}
use Rattle.columns.proofs.Places.{at_most_at}
use Rattle.columns.proofs.Stepwise.{numbers_next}
use Rattle.columns.proofs.put_numbers.Goals as goal

pub put_number-place-requires : goal.put_number-place-requires
put_number-place-requires c =
    let l = c.loop-n in
    let few = at_most_at 255 c.args.lengths.each.now ((allowed_means c.args.lengths.each.now).0 c.args.lengths.few).1 l.n-index in
    (omega (arith, few), left_fits (groups (get_or c.args.lengths.each.now l.n-index 0)) (numbers (drop (l.n-index + 1) c.args.lengths.each.now)) l.invariant (numbers_next _ l.n-index c.loop-n-test.true) (omega (arith, c.requires)))

pub loop-n-preserved : goal.loop-n-preserved
loop-n-preserved c =
    let l = c.loop-n in
    left_step _ l.invariant c.put_number-place.ensures (numbers_next _ l.n-index c.loop-n-test.true)

pub returns : goal.returns
unfolding numbers
returns c =
    let l = c.loop-n in
    let e = left_end l.invariant (ap numbers (drop_of_length-le _ c.loop-n-test.false)) in
    record { place = e.0; list = e.1 }
