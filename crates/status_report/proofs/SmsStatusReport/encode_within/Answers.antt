-- `status_report::SmsStatusReport::encode_within` meets its contract: the lengths are looked at first.
use mathlib.Core.Path.{◌≡◌, sym, ◌∙◌}
use native.Mathlib.Omega.{arith}
use Rattle.octets.proofs.Laws.{lent_refused}
use Rattle.layout.specs.Layout.{first_octet}
use Rattle.status_report.specs.StatusReport.{flags_of}
use Rattle.status_report.proofs.RecordWritten.{too_long, by_fields}
use Rattle.status_report.proofs.SmsStatusReport.encode_within.Goals as goal

pub returns-then-not-fits : goal.returns-then-not-fits
returns-then-not-fits c = lent_refused _ _ (too_long _ _ (sym c.fits.ensures ∙ c.if-not-fits.true))

pub returns : goal.returns
unfolding first_octet
returns c =
    -- bits 7 and 4 are no flags
    let first : c.first_octet-first.result ≡ first_octet 2 (flags_of c.args.self) = omega (arith, c.first_octet-first.ensures) in
    rw (by_fields c.args.limit c.args.self (sym c.fits.ensures ∙ c.if-not-fits.false) first, ← c.number.ensures.0, ← c.number.ensures.1, ← c.number.ensures.2, ← c.as_slice.ensures, ← c.as_slice-2.ensures, ← c.as_slice-3.ensures) c.encode_fields.ensures
