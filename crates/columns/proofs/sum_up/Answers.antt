-- `columns::sum_up` meets its contract: what the counts passed come to stands in their places.
use native.Mathlib.Omega.{arith}
use borrow.Author.Rules.{rules}
use Rattle.columns.proofs.Stepwise.{summing_start, summing_within, summing_next}
use Rattle.columns.proofs.sum_up.Goals as goal

pub loop-start-init : goal.loop-start-init
loop-start-init c = summing_start _ _ (search rules)

pub overflow_add-place : goal.overflow_add-place
overflow_add-place c = omega (arith, summing_within c.loop-start.invariant, c.requires)

pub loop-start-preserved : goal.loop-start-preserved
loop-start-preserved c = summing_next c.loop-start.invariant c.loop-start-test.true
