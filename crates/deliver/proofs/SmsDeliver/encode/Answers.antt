-- `deliver::SmsDeliver::encode` meets its contract: the lengths are looked at first.
use mathlib.Core.Path.{◌≡◌}
use native.Mathlib.Omega.{arith}
use Rattle.octets.proofs.Laws.{lent_refused}
use Rattle.layout.specs.Layout.{first_octet}
use Rattle.deliver.specs.Deliver.{flags_of}
use Rattle.deliver.proofs.RecordWritten.{too_long, by_fields}
use Rattle.deliver.proofs.SmsDeliver.encode.Goals as goal

pub returns-then-not-fit : goal.returns-then-not-fit
returns-then-not-fit c = lent_refused _ _ (too_long _ (rw (← c.fits.ensures, ← c.fits-2.ensures, ← c.fits-3.ensures) c.if-not-fit.true))

pub returns : goal.returns
unfolding first_octet
returns c =
    -- bit 4 is no flag
    let first : c.first_octet.result ≡ first_octet 0 (flags_of c.args.self) = omega (arith, c.first_octet.ensures) in
    rw (by_fields c.args.self (rw (← c.fits.ensures, ← c.fits-2.ensures, ← c.fits-3.ensures) c.if-not-fit.false), ← first, ← c.number.ensures.0, ← c.number.ensures.1, ← c.number.ensures.2, ← c.as_slice.ensures, ← c.as_slice-2.ensures) c.encode_fields.ensures
