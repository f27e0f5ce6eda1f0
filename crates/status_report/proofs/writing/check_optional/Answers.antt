-- `status_report::writing::check_optional` meets its contract: with an indicator its checks, without one nothing may be held.
use mathlib.Core.Path.{sym, ◌∙◌}
use Rattle.std.proofs.lemmas.Result.{err_from_is_err_and}
use Rattle.status_report.proofs.CheckByCheck.{none_against, none_fine, indicator_against, indicator_fine}
use Rattle.status_report.proofs.writing.check_optional.Goals as goal

pub returns-then-size-ne0 : goal.returns-then-size-ne0
returns-then-size-ne0 c = rw c.in_default.is (none_against _ _ c.size.ensures c.if-size-ne0.true)

pub returns-in_default : goal.returns-in_default
returns-in_default c = rw c.in_default.is (none_fine _ _ c.size.ensures c.if-size-ne0.false)

pub returns-in_err-check_parameter_indicator : goal.returns-in_err-check_parameter_indicator
returns-in_err-check_parameter_indicator c =
    let p = err_from_is_err_and c.from_residual.result c.from_residual.ensures.1 in
    rw (p.1, p.2, c.in-Some.is) (indicator_against _ _ _ (sym c.in_err-check_parameter_indicator.ensures))

pub returns : goal.returns
returns c = c.check_data.ensures ∙ rw c.in-Some.is (indicator_fine _ _ _ (sym c.in_ok-check_parameter_indicator.ensures))
