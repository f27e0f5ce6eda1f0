-- `header_elements::count_octets` meets its contract: the octets of the elements that are left are still to be counted.
use Rattle.std.specs.Prelude.{◌+◌, ◌≤◌, get_or}
use mathlib.Core.Logic.{⊎_elim}
use native.Mathlib.Omega.{arith}
use borrow.Author.Rules.{rules}
use Rattle.header_elements.proofs.Writing.{counting_start, count_inside, counting_step, counting_end}
use Rattle.header_elements.proofs.count_octets.Goals as goal
use Rattle.header_elements.proofs.count_octets.Goals.{In-Some}

pub loop-identifier-init : goal.loop-identifier-init
loop-identifier-init c = counting_start (search rules) (search rules) c.requires.0 (λ i. (c.type_inv.identifiers i).fits)

-- one more is counted
inside : (c : In-Some) → get_or c.loop-identifier.octets c.in-Some.field-0-0.now 0 + (c.in-Some.field-0-1.now + 2) ≤ 255
inside c = omega (arith, count_inside c.loop-identifier.invariant c.in-Some.ensures.steps.0 c.in-Some.ensures.steps.1, c.requires.1)

pub overflow_add-octets : goal.overflow_add-octets
overflow_add-octets c = omega (arith, inside (goal.at.overflow_add-octets c).In-Some)

pub overflow_add-octets-in-loop-identifier : goal.overflow_add-octets-in-loop-identifier
overflow_add-octets-in-loop-identifier c = omega (arith, inside (goal.at.overflow_add-octets-in-loop-identifier c).In-Some)

pub loop-identifier-preserved : goal.loop-identifier-preserved
loop-identifier-preserved c = counting_step c.loop-identifier.invariant c.in-Some.ensures.steps.0 c.in-Some.ensures.steps.1

pub returns : goal.returns
returns c = counting_end c.loop-identifier.invariant (⊎_elim (λ w. w.1.0) (λ w. omega (arith, w.1.0, c.loop-identifier.invariant.same)) c.in-None.ensures.steps)
