-- `validity_period::enhanced_in` meets its contract: the octets in the enhanced format, else zeros.
use mathlib.Core.Path.{◌≡◌, ◌∙◌}
use native.Mathlib.Omega.{arith}
use borrow.Author.Tests.{ne_eqb}
use lib.ListN.{length}
use Rattle.octets.specs.Arrays.{pad}
use Rattle.octets.proofs.Laws.{sets_zeros}
use Rattle.validity_period.specs.Validity.{period_size}
use Rattle.validity_period.proofs.enhanced_in.Goals as goal

pub put_octets-requires : goal.put_octets-requires
unfolding period_size
put_octets-requires c = let p = rw c.if-format-eq-VALIDITY_PERIOD_FORMAT_ENHANCED.true at c.requires in omega arith

pub returns-then-format-eq-VALIDITY_PERIOD_FORMAT_ENHANCED : goal.returns-then-format-eq-VALIDITY_PERIOD_FORMAT_ENHANCED
unfolding period_size
returns-then-format-eq-VALIDITY_PERIOD_FORMAT_ENHANCED c =
    let e = c.if-format-eq-VALIDITY_PERIOD_FORMAT_ENHANCED.true in
    let p : length c.args.octets.now ≡ 7 = rw e at c.requires in
    rw e (c.put_octets.ensures.list ∙ sets_zeros 7 c.args.octets.now (omega arith))

pub returns-else-format-eq-VALIDITY_PERIOD_FORMAT_ENHANCED : goal.returns-else-format-eq-VALIDITY_PERIOD_FORMAT_ENHANCED
unfolding pad
returns-else-format-eq-VALIDITY_PERIOD_FORMAT_ENHANCED c = rw (ne_eqb _ 1 c.if-format-eq-VALIDITY_PERIOD_FORMAT_ENHANCED.false)
