-- `relay_address::RelayAddress::encode` meets its contract: no address is 00; of an address the length is looked at first.
use mathlib.Core.Path.{sym, ◌∙◌}
use native.Mathlib.Omega.{arith}
use borrow.Author.Tests.{eqb-true, eqb-false, leb-true, leb-false}
use Rattle.octets.proofs.Laws.{lent_refused, lent_short, lent_written}
use Rattle.relay_address.proofs.Writing.{makes_none, makes_long, makes_checked}
use Rattle.relay_address.proofs.RelayAddress.encode.Goals as goal

pub returns-then-is_empty : goal.returns-then-is_empty
returns-then-is_empty c = rw c.in_default.is (lent_short _ makes_none (omega (arith, eqb-true _ 0 (sym c.is_empty.ensures ∙ c.if-is_empty.true))))

pub returns-in_default : goal.returns-in_default
returns-in_default c = rw c.in_default.is (lent_written _ makes_none (omega (arith, eqb-false _ 0 (sym c.is_empty.ensures ∙ c.if-is_empty.false))) c.put_octet.ensures)

pub returns-then-not-fits : goal.returns-then-not-fits
returns-then-not-fits c = rw c.in-Some.is (lent_refused _ _ (makes_long _ (leb-false _ _ (sym c.fits.ensures ∙ c.if-not-fits.true))))

pub returns : goal.returns
returns c = rw (c.in-Some.is, makes_checked c.in-Some.held (leb-true _ _ (sym c.fits.ensures ∙ c.if-not-fits.false)), ← c.as_slice.ensures) c.encode_digits.ensures
