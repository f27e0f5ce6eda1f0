use Rattle.std.proofs.Common.{◌≡◌, ◌+◌, ◌*◌, ◌-◌, ◌≤◌, map, length, drop}
use lib.Seq.{sets}
use Rattle.octets.specs.Answers.{fine}
use Rattle.octets.specs.Checks.{found}
use Rattle.octets.proofs.Laws.{Left}
use Rattle.shift_page.specs.ShiftPage.{report_line, ended, reports_checks}
use Rattle.shift_page.proofs.put_reports.Given as goal

abbrev pub invariant-loop-report : goal.invariant-loop-report
invariant-loop-report l =
    (l.next + 39 * (length l.reports - l.report-index) ≤ length l.out) × (found (reports_checks (drop l.report-index l.reports)) ≡ fine)
    × Left (sets l.initial.out l.at (ended (map report_line l.reports))) (l.at + length (ended (map report_line l.reports))) l.out l.next (ended (map report_line (drop l.report-index l.reports)))
