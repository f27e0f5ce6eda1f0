-- `address::writing::check_text` meets its contract: eleven septets take ten octets, twelve take eleven.
use mathlib.Core.Path.{sym}
use native.Mathlib.Omega.{arith}
use lib.ListN.{replicate}
use Rattle.std.proofs.lemmas.Result.{err_from_is_err_and}
use Rattle.gsm7.specs.Writing.{septets_of}
use Rattle.gsm7.proofs.Scanning.{scanned_not, scanned_codes}
use Rattle.address.proofs.Checks.{text_none, text_long, text_fine}
use Rattle.address.proofs.writing.check_text.Goals as goal

pub returns-in_err-count : goal.returns-in_err-count
returns-in_err-count c =
    let p = err_from_is_err_and c.from_residual.result c.from_residual.ensures.1 in
    let e = scanned_not (septets_of c.args.number.text.now) (replicate 255 0) c.scan_text.new.codes c.in_err-count.ensures in
    rw (p.1, p.2, e.1) (sym (text_none 5 _ e.0))

pub returns-then-count-gt11 : goal.returns-then-count-gt11
returns-then-count-gt11 c =
    let s = scanned_codes (septets_of c.args.number.text.now) c.scan_text.new.codes c.in_ok-count.count c.in_ok-count.ensures in
    sym (text_long 5 _ s.0 s.1 (omega (arith, s.2)))

pub returns : goal.returns
returns c =
    let s = scanned_codes (septets_of c.args.number.text.now) c.scan_text.new.codes c.in_ok-count.count c.in_ok-count.ensures in
    rw s.2 (sym (text_fine 5 _ s.0 s.1 (omega (arith, s.2))))
