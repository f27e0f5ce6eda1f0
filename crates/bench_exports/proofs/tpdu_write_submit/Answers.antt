-- The writer's answer, and its number.
use mathlib.Core.Path.{ap}
use Rattle.octets.specs.Arrays.{pad}
use Rattle.octets.specs.Held.{holding}
use Rattle.bench_exports.specs.Numbers.{lent_number}
use Rattle.bench_exports.proofs.tpdu_write_submit.Goals as goal

pub returns : goal.returns
unfolding pad holding
returns c =
    rw c.written.ensures
    (rw (c.address_of.ensures, c.default.ensures, c.held.ensures, c.then_some.ensures, c.held-2.ensures, c.held-3.ensures) at (ap lent_number c.encode.ensures))
