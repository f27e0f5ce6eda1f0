-- `shift_page::check_report` meets its contract: 1, 34 and 12, in this order.
use Rattle.std.proofs.Common.{◌≡◌, true, sym, ◌∙◌}
use Rattle.shift_page.specs.ShiftPage.{printable}
use Rattle.shift_page.proofs.Checks.{lengths_against, recipient_against, recipient_of, time_against, report_fine}
use Rattle.shift_page.proofs.check_report.Goals as goal

pub returns-then-not-fits : goal.returns-then-not-fits
returns-then-not-fits c = sym (lengths_against _ (sym c.fits.ensures ∙ c.if-not-fits.true))

pub returns-then-not-is_printable : goal.returns-then-not-is_printable
returns-then-not-is_printable c =
    let fit = sym c.fits.ensures ∙ c.if-not-fits.false in
    sym (recipient_against _ fit (rw (← c.as_slice.ensures) (sym c.is_printable.ensures ∙ c.if-not-is_printable.true)))

pub returns-then-not-is_time : goal.returns-then-not-is_time
returns-then-not-is_time c =
    let fit = sym c.fits.ensures ∙ c.if-not-fits.false in
    let shown : printable (recipient_of c.args.r.now) ≡ true = rw (← c.as_slice.ensures) (sym c.is_printable.ensures ∙ c.if-not-is_printable.false) in
    sym (time_against _ fit shown (rw (← c.as_slice-2.ensures) (sym c.is_time.ensures ∙ c.if-not-is_time.true)))

pub returns : goal.returns
returns c =
    let fit = sym c.fits.ensures ∙ c.if-not-fits.false in
    let shown : printable (recipient_of c.args.r.now) ≡ true = rw (← c.as_slice.ensures) (sym c.is_printable.ensures ∙ c.if-not-is_printable.false) in
    sym (report_fine _ fit shown (rw (← c.as_slice-2.ensures) (sym c.is_time.ensures ∙ c.if-not-is_time.false)))
