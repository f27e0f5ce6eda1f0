-- `header_elements::sum_up` meets its contract: what the counts passed come to stands in their places.
use native.Mathlib.Omega.{arith}
use Rattle.header_elements.proofs.Writing.{summing_start, summing_within, summing_next}
use Rattle.header_elements.proofs.sum_up.Goals as goal

pub loop-start-init : goal.loop-start-init
loop-start-init c = summing_start _ c.requires.0

pub overflow_add-place : goal.overflow_add-place
overflow_add-place c = omega (arith, summing_within c.loop-start.invariant c.requires.0 c.loop-start-test.true, c.requires.1)

pub loop-start-preserved : goal.loop-start-preserved
loop-start-preserved c = summing_next c.loop-start.invariant c.requires.0 c.loop-start-test.true
