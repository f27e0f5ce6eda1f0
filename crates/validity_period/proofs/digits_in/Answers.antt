-- `validity_period::digits_in` meets its contract: a time in the absolute format, else none.
use mathlib.Core.Path.{◌≡◌, ◌∙◌}
use native.Mathlib.Omega.{arith}
use borrow.Author.Tests.{ne_eqb}
use lib.ListN.{length}
use lib.Seq.{take_all}
use Rattle.time.specs.Time.{time_digits}
use Rattle.validity_period.specs.Validity.{period_size}
use Rattle.validity_period.proofs.digits_in.Goals as goal

pub returns-then-format-ne-VALIDITY_PERIOD_FORMAT_ABSOLUTE : goal.returns-then-format-ne-VALIDITY_PERIOD_FORMAT_ABSOLUTE
unfolding time_digits
returns-then-format-ne-VALIDITY_PERIOD_FORMAT_ABSOLUTE c = rw (ne_eqb _ 3 c.if-format-ne-VALIDITY_PERIOD_FORMAT_ABSOLUTE.true) c.default.ensures

pub time_at-requires : goal.time_at-requires
unfolding period_size
time_at-requires c = let p = rw c.if-format-ne-VALIDITY_PERIOD_FORMAT_ABSOLUTE.false at c.requires in omega arith

pub returns : goal.returns
unfolding period_size
returns c =
    let os = c.args.octets.now in
    let p : length os ≡ 7 = rw c.if-format-ne-VALIDITY_PERIOD_FORMAT_ABSOLUTE.false at c.requires in
    rw c.if-format-ne-VALIDITY_PERIOD_FORMAT_ABSOLUTE.false (c.time_at.ensures ∙ rw (take_all 7 os (omega arith)))
