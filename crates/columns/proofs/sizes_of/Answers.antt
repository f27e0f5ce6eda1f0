-- `columns::sizes_of` meets its contract: what is counted, with the lengths that are left, is all.
use native.Mathlib.Omega.{arith}
use lib.ListN.{get_or}
use Rattle.columns.proofs.Numbers.{groups_few}
use Rattle.columns.proofs.Stepwise.{sizing_start, sizing_next, sizing_large, sizing_end, too_many_strings}
use Rattle.columns.proofs.sizes_of.Goals as goal

pub returns-then-lengths-gt1000 : goal.returns-then-lengths-gt1000
returns-then-lengths-gt1000 c = too_many_strings _ c.if-lengths-gt1000.true

pub loop-n-init : goal.loop-n-init
loop-n-init c = sizing_start _ (omega arith)

pub returns-then-n-gt255 : goal.returns-then-n-gt255
returns-then-n-gt255 c = sizing_large c.loop-n.invariant c.loop-n-test.true c.if-n-gt255.true

pub overflow_add-taken : goal.overflow_add-taken
overflow_add-taken c =
    let l = c.loop-n in
    omega (arith, l.invariant.taken_small, l.invariant.few, c.groups_of-taken.ensures, groups_few (get_or c.args.lengths.now l.n-index 0) (omega (arith, c.if-n-gt255.false)))

pub loop-n-preserved : goal.loop-n-preserved
loop-n-preserved c = sizing_next c.loop-n.invariant c.loop-n-test.true c.if-n-gt255.false c.groups_of-taken.ensures

pub returns : goal.returns
returns c = sizing_end c.loop-n.invariant c.loop-n-test.false
