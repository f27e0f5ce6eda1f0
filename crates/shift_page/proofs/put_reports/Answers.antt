-- `shift_page::put_reports` meets its contract: the lines of the records that are left are stored one by one.
use Rattle.std.proofs.Common.{get_or, arith}
use Rattle.octets.proofs.Laws.{left_step, left_end, kept_by}
use Rattle.shift_page.proofs.Checks.{nowhere, both_fine, next_line, no_lines}
use Rattle.shift_page.proofs.Page.{report_line_lem, lines_size, no_more, one_more}
use Rattle.shift_page.proofs.put_reports.Goals as goal

pub put_report-next-requires : goal.put_report-next-requires
put_report-next-requires c = ((both_fine _ _ c.loop-report-test.true c.loop-report.invariant.1).0, omega arith)

pub loop-report-preserved : goal.loop-report-preserved
loop-report-preserved c =
    let l = c.loop-report in
    let h = c.loop-report-test.true in
    let f = both_fine _ _ h l.invariant.1 in
    let w = c.put_report-next.ensures in
    let n = lines_size _ (one_more (report_line_lem (get_or c.args.reports.now l.report-index nowhere) f.0) no_more) in
    (omega (arith, w.place, kept_by w, n), f.1, left_step _ l.invariant.2 w (next_line _ _ h))

pub returns : goal.returns
returns c =
    let e = left_end c.loop-report.invariant.2 (no_lines _ _ c.loop-report-test.false) in
    record { place = e.0; list = e.1 }
