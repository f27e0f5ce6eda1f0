-- `SmsDeliverReport::encode_within` meets its contract: the length is looked at first, then the outcome.
use mathlib.Core.Path.{sym, ◌∙◌}
use Rattle.octets.proofs.Laws.{lent_refused}
use Rattle.deliver_report.proofs.RecordWritten.{too_long, outcome_disagrees, by_fields}
use Rattle.deliver_report.proofs.SmsDeliverReport.encode_within.Goals as goal

pub returns-then-not-fits : goal.returns-then-not-fits
returns-then-not-fits c = lent_refused _ _ (too_long _ _ (rw (← c.fits.ensures) c.if-not-fits.true))

pub returns-then-not-outcome_agrees : goal.returns-then-not-outcome_agrees
returns-then-not-outcome_agrees c =
    let fit = rw c.fits.ensures at c.if-not-fits.false in
    lent_refused _ _ (outcome_disagrees _ _ fit (sym c.outcome_agrees.ensures ∙ c.if-not-outcome_agrees.true))

pub returns : goal.returns
returns c =
    let fit = rw c.fits.ensures at c.if-not-fits.false in
    rw (by_fields c.args.limit c.args.self fit (sym c.outcome_agrees.ensures ∙ c.if-not-outcome_agrees.false), ← c.as_slice.ensures) c.encode_fields.ensures
