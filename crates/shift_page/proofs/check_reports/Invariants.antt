use Rattle.std.proofs.Common.{◌≡◌, drop}
use Rattle.octets.specs.Checks.{found}
use Rattle.shift_page.specs.ShiftPage.{reports_checks}
use Rattle.shift_page.proofs.check_reports.Given as goal

abbrev pub invariant-loop-report : goal.invariant-loop-report
invariant-loop-report l = found (reports_checks l.reports) ≡ found (reports_checks (drop l.report-index l.reports))
