-- `header_elements::put_elements` meets its contract: each element goes where those of its identifier go on.
use Rattle.std.specs.Prelude.{◌+◌, ◌≤◌, length, get_or}
use mathlib.Core.Logic.{⊎_elim}
use native.Mathlib.Omega.{arith}
use borrow.Author.Rules.{rules}
use Rattle.header_elements.proofs.Writing.{sum_is, putting_start, value_inside, value_size, room, putting_step, putting_end}
use Rattle.header_elements.proofs.put_elements.Goals as goal
use Rattle.header_elements.proofs.put_elements.Goals.{In-Some}

pub sum_up-requires : goal.sum_up-requires
sum_up-requires c =
    let (same, few, inside, small, long) = c.requires in
    (c.count_octets-places.ensures.size, omega (arith, sum_is c.args.values.now same inside c.count_octets-places.ensures))

pub loop-identifier-init : goal.loop-identifier-init
loop-identifier-init c =
    let (same, few, inside, small, long) = c.requires in
    putting_start (search rules) (search rules) same (λ i. (c.type_inv.identifiers i).fits) inside long c.count_octets-places.ensures c.sum_up.ensures

-- the value is there, and room for the element
fits : (c : In-Some) → let l = c.loop-identifier in let n = c.in-Some.field-0-1.now in
    (n ≤ length l.rest.now) × (get_or l.places c.in-Some.field-0-0.now 0 + 2 + n ≤ length l.out) × (length l.out ≤ 255)
fits c =
    let p = c.loop-identifier.invariant in
    let (e, f) = c.in-Some.ensures.steps in
    (value_inside p e f, omega (arith, room p e f, value_size p e f), omega (arith, p.kept, c.requires))

pub split_at-requires : goal.split_at-requires
split_at-requires c = (fits (goal.at.split_at-requires c).In-Some).0

pub put_element-requires : goal.put_element-requires
put_element-requires c = let h = fits (goal.at.put_element-requires c).In-Some in (omega (arith, h, c.split_at.ensures.front_len), omega (arith, h, c.split_at.ensures.front_len))

pub overflow_cast-places-in-loop-identifier : goal.overflow_cast-places-in-loop-identifier
overflow_cast-places-in-loop-identifier c = omega (arith, fits (goal.at.overflow_cast-places-in-loop-identifier c).In-Some, c.put_element.ensures.place, c.split_at.ensures.front_len)

pub loop-identifier-preserved : goal.loop-identifier-preserved
loop-identifier-preserved c =
    let at = c.split_at.ensures in
    rw at.back (putting_step c.loop-identifier.invariant c.in-Some.ensures.steps.0 c.in-Some.ensures.steps.1 (rw at.front at c.put_element.ensures))

pub returns : goal.returns
returns c =
    let l = c.loop-identifier in
    putting_end l.invariant (⊎_elim (λ w. w.1.0) (λ w. omega (arith, w.1.0, l.invariant.same)) c.in-None.ensures.steps)
