-- `header_elements::read_elements` meets its contract: the elements that are left, stored after those that are read already, make the answer.
use Rattle.std.specs.Prelude.{◌+◌, ◌*◌, ◌≤◌, ◌≡◌, length, Ok, Err}
use native.Mathlib.Omega.{arith}
use Rattle.std.proofs.lemmas.Result.{err_from_is_err_and}
use Rattle.header_elements.specs.InOctets.{octets_left, element_then}
use Rattle.header_elements.proofs.Storing.{so_far_start, so_far_step, size, so_far_refused, so_far_done}
use Rattle.header_elements.proofs.read_elements.Goals as goal
use Rattle.header_elements.proofs.read_elements.Goals.{In_ok-identifier}

-- the element that came, and what is left after it
came : (c : In_ok-identifier) → octets_left c.loop-element.element-iterator ≡ element_then c.in_ok-identifier.field-0 (octets_left c.next.new.self)
came c =
    let is : c.in-Some.element ≡ Ok c.in_ok-identifier.field-0 = c.in_ok-identifier.was in
    rw is at c.in-Some.ensures.steps

-- it fits
fits : (c : In_ok-identifier) → let l = c.loop-element in let n = length c.in_ok-identifier.field-0.value.now in (2 * l.count + l.filled + 2 + n ≤ 255) × (length l.values ≡ 253)
fits c = (omega (arith, size c.loop-element.invariant _ _ _ (came c), c.loop-element.invariant.few), c.loop-element.invariant.room)

pub loop-element-init : goal.loop-element-init
loop-element-init c = so_far_start _ _ c.requires (rw c.into_iter-element-iterator.ensures.into_iter_gives c.of-element-items.ensures)

pub returns-in_err-identifier : goal.returns-in_err-identifier
returns-in_err-identifier c =
    let p = err_from_is_err_and c.from_residual.result c.from_residual.ensures.1 in
    let is : c.in-Some.element ≡ Err c.in_err-identifier.field-0.0 = c.in_err-identifier.was in
    let refused = rw is at c.in-Some.ensures.steps in
    rw (p.1, p.2) (so_far_refused c.loop-element.invariant refused.0)

pub bounds-identifiers-count : goal.bounds-identifiers-count
bounds-identifiers-count c = omega (arith, fits (goal.at.bounds-identifiers-count c).In_ok-identifier)

pub overflow_cast-lengths : goal.overflow_cast-lengths
overflow_cast-lengths c = omega (arith, fits (goal.at.overflow_cast-lengths c).In_ok-identifier)

pub bounds-lengths-count : goal.bounds-lengths-count
bounds-lengths-count c = omega (arith, fits (goal.at.bounds-lengths-count c).In_ok-identifier)

pub put_octets-filled-requires : goal.put_octets-filled-requires
put_octets-filled-requires c = omega (arith, fits (goal.at.put_octets-filled-requires c).In_ok-identifier)

pub overflow_add-count : goal.overflow_add-count
overflow_add-count c = omega (arith, fits (goal.at.overflow_add-count c).In_ok-identifier)

pub loop-element-preserved : goal.loop-element-preserved
loop-element-preserved c = so_far_step c.loop-element.invariant _ _ _ (came (goal.at.loop-element-preserved c).In_ok-identifier) c.put_octets-filled.ensures

pub returns : goal.returns
returns c = so_far_done c.loop-element.invariant c.in-None.ensures.steps.0
