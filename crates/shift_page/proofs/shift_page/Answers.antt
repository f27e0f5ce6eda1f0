-- `shift_page::shift_page` meets its contract: 33, the records' checks, 23, and then the lines one after the other.
use Prim.Native.Nat.{◌≤◌}
use mathlib.Core.Path.{sym}
use native.Mathlib.Omega.{arith}
use lib.ListN.{length}
use Rattle.octets.proofs.Laws.{wrote_then, kept_by, lent_refused, lent_short, lent_written}
use Rattle.std.proofs.lemmas.Result.{err_from_is_err_and}
use Rattle.shift_page.proofs.Page.{one_refuses, page_made, page_is, page_size, reports_size, heading_size}
use Rattle.shift_page.proofs.shift_page.Goals as goal

pub returns-in_err-check_reports : goal.returns-in_err-check_reports
returns-in_err-check_reports c =
    let p = err_from_is_err_and c.from_residual.result c.from_residual.ensures.1 in
    rw (p.1, p.2) (lent_refused _ _ (one_refuses _ (omega arith) (sym c.in_err-check_reports.ensures)))

pub returns-then-out-count : goal.returns-then-out-count
returns-then-out-count c =
    let few : length c.args.reports.now ≤ 99 = omega arith in
    let f = sym c.in_ok-check_reports.ensures in
    lent_short _ (page_made _ few f) (omega (arith, page_size _ f few))

pub put_reports-last-requires : goal.put_reports-last-requires
put_reports-last-requires c =
    let w = c.put_heading-first.ensures in
    (sym c.in_ok-check_reports.ensures, omega (arith, w.place, kept_by w, heading_size))

pub put_total-requires : goal.put_total-requires
put_total-requires c =
    let v = c.put_reports-last.ensures in
    let w = c.put_heading-first.ensures in
    let m = reports_size _ (sym c.in_ok-check_reports.ensures) in
    (omega arith, omega (arith, w.place, kept_by w, heading_size, v.place, kept_by v, m))

pub returns : goal.returns
returns c =
    let few : length c.args.reports.now ≤ 99 = omega arith in
    let f = sym c.in_ok-check_reports.ensures in
    let w = wrote_then c.put_heading-first.ensures (wrote_then c.put_reports-last.ensures c.put_total.ensures) in
    lent_written _ (page_made _ few f) (omega (arith, page_size _ f few)) (rw page_is w)
