-- `layout::first_octet` meets its contract: each flag at its bit.
use native.Mathlib.Omega.{arith}
use Rattle.layout.specs.Layout.{first_octet}
use Rattle.layout.proofs.first_octet.Goals as goal

pub overflow_add-result : goal.overflow_add-result
overflow_add-result c = omega (arith, c.flag.ensures.1, c.requires)

pub overflow_add-result-2 : goal.overflow_add-result-2
overflow_add-result-2 c = omega (arith, c.flag-2.ensures.1, c.flag.ensures.1, c.requires)

pub overflow_add-result-3 : goal.overflow_add-result-3
overflow_add-result-3 c = omega (arith, c.flag-3.ensures.1, c.flag-2.ensures.1, c.flag.ensures.1, c.requires)

pub overflow_add-result-4 : goal.overflow_add-result-4
overflow_add-result-4 c = omega (arith, c.flag-4.ensures.1, c.flag-3.ensures.1, c.flag-2.ensures.1, c.flag.ensures.1, c.requires)

pub overflow_add-result-5 : goal.overflow_add-result-5
overflow_add-result-5 c = omega (arith, c.flag-5.ensures.1, c.flag-4.ensures.1, c.flag-3.ensures.1, c.flag-2.ensures.1, c.flag.ensures.1, c.requires)

pub overflow_add-result-6 : goal.overflow_add-result-6
overflow_add-result-6 c = let c2 = c.before.before.before.before in
    omega (arith, c.flag-6.ensures.1, c.flag-5.ensures.1, c.flag-4.ensures.1, c.flag-3.ensures.1, c2.flag-2.ensures.1, c2.flag.ensures.1, c2.requires)

pub returns : goal.returns
unfolding first_octet
returns c =
    let c5 = c.before in
    let c4 = c5.before in
    let c3 = c4.before in
    let c2 = c3.before in
    let c1 = c2.before in
    omega (arith, c.flag-6.ensures.0, c5.flag-5.ensures.0, c4.flag-4.ensures.0, c3.flag-3.ensures.0, c2.flag-2.ensures.0, c1.flag.ensures.0)
