-- `shift_page::check_reports` meets its contract: the records that are left decide.
use Rattle.std.proofs.Common.{sym, ◌∙◌}
use Rattle.std.proofs.lemmas.Result.{err_from_is_err_and}
use Rattle.shift_page.proofs.Checks.{report_passed, report_against, reports_end}
use Rattle.shift_page.proofs.check_reports.Goals as goal

pub returns-in_err-check_report : goal.returns-in_err-check_report
returns-in_err-check_report c =
    let p = err_from_is_err_and c.from_residual.result c.from_residual.ensures.1 in
    rw (p.1, p.2) (sym (c.loop-report.invariant ∙ report_against _ _ c.loop-report-test.true (sym c.in_err-check_report.ensures)))

pub loop-report-preserved : goal.loop-report-preserved
loop-report-preserved c = c.loop-report.invariant ∙ report_passed _ _ c.loop-report-test.true (sym c.in_ok-check_report.ensures)

pub returns : goal.returns
returns c = sym (c.loop-report.invariant ∙ reports_end _ _ c.loop-report-test.false)
