-- `SmsSubmitReport::encode_within` meets its contract: the lengths are looked at first, then outcome and UDHI.
use mathlib.Core.Path.{sym, ◌∙◌}
use Rattle.octets.proofs.Laws.{lent_refused}
use Rattle.submit_report.proofs.RecordWritten.{too_long, outcome_disagrees, udhi_large, by_fields}
use Rattle.submit_report.proofs.SmsSubmitReport.encode_within.Goals as goal

pub returns-then-not-fit : goal.returns-then-not-fit
returns-then-not-fit c = lent_refused _ _ (too_long _ _ (rw (← c.fits.ensures, ← c.fits-2.ensures) c.if-not-fit.true))

pub returns-then-not-outcome_agrees : goal.returns-then-not-outcome_agrees
returns-then-not-outcome_agrees c =
    let fit = rw (c.fits.ensures, c.fits-2.ensures) at c.if-not-fit.false in
    lent_refused _ _ (outcome_disagrees _ _ fit (sym c.outcome_agrees.ensures ∙ c.if-not-outcome_agrees.true))

pub returns-then-self-gt-MAX_UDHI : goal.returns-then-self-gt-MAX_UDHI
returns-then-self-gt-MAX_UDHI c =
    let fit = rw (c.fits.ensures, c.fits-2.ensures) at c.if-not-fit.false in
    lent_refused _ _ (udhi_large _ _ fit (sym c.outcome_agrees.ensures ∙ c.if-not-outcome_agrees.false) c.if-self-gt-MAX_UDHI.true)

pub returns : goal.returns
returns c =
    let fit = rw (c.fits.ensures, c.fits-2.ensures) at c.if-not-fit.false in
    rw (by_fields c.args.limit c.args.self fit (sym c.outcome_agrees.ensures ∙ c.if-not-outcome_agrees.false) c.if-self-gt-MAX_UDHI.false, ← c.as_slice.ensures, ← c.as_slice-2.ensures) c.encode_fields.ensures
