-- `gsm7::decode::check_count` meets its contract, by the definition's two tests.
use mathlib.Core.Path.{sym}
use native.Mathlib.Omega.{arith}
use Rattle.gsm7.proofs.Reading.{counted_long, counted_few, counted_fine}
use Rattle.gsm7.proofs.decode.check_count.Goals as goal

pub returns-then-septets-gt255 : goal.returns-then-septets-gt255
returns-then-septets-gt255 c = sym (counted_long _ _ (omega (arith, c.if-septets-gt255.true)))

pub returns-then-data-octet_count : goal.returns-then-data-octet_count
returns-then-data-octet_count c = sym (counted_few _ _ (omega (arith, c.if-septets-gt255.false)) (omega (arith, c.octet_count.ensures, c.if-data-octet_count.true)))

pub returns : goal.returns
returns c = sym (counted_fine _ _ (omega (arith, c.if-septets-gt255.false)) (omega (arith, c.octet_count.ensures, c.if-data-octet_count.false)))
