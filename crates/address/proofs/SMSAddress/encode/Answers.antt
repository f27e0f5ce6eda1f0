-- `address::SMSAddress::encode` meets its contract: the length is looked at first.
use mathlib.Core.Path.{sym, ◌∙◌}
use borrow.Author.Tests.{leb-true}
use Rattle.octets.proofs.Laws.{lent_refused}
use Rattle.address.proofs.RecordWritten.{encoding_long, encoding_parts}
use Rattle.address.proofs.SMSAddress.encode.Goals as goal

pub returns-then-not-fits : goal.returns-then-not-fits
returns-then-not-fits c = lent_refused _ _ (encoding_long _ (sym c.fits.ensures ∙ c.if-not-fits.true))

pub returns : goal.returns
returns c =
    let n = c.number.ensures in
    rw (encoding_parts c.args.self (leb-true _ _ (sym c.fits.ensures ∙ c.if-not-fits.false)), ← n.0, ← n.1, ← n.2) c.encode.ensures
