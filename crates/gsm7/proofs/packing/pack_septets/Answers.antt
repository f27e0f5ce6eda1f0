-- `gsm7::packing::pack_septets` meets its contract: the scan tells the septets, and those that fit the array are packed.
use mathlib.Core.Path.{sym, subst}
use native.Mathlib.Omega.{arith}
use lib.ListN.{replicate}
use lib.Seq.{length-take-le}
use Rattle.std.proofs.lemmas.Result.{err_from_is_err_and}
use Rattle.octets.proofs.Laws.{lent_refused}
use Rattle.septets.specs.Septets.{Digits}
use Rattle.gsm7.specs.Writing.{septets_of}
use Rattle.gsm7.proofs.Adequate.{septets_digits}
use Rattle.gsm7.proofs.Scanning.{scanned_not, scanned_codes, codes_long, codes_first}
use Rattle.gsm7.proofs.PackingCases.{packing_none, packing_some, packing_many}
use Rattle.gsm7.proofs.packing.pack_septets.Goals as goal

pub returns-in_err-count : goal.returns-in_err-count
returns-in_err-count c =
    let p = err_from_is_err_and c.from_residual.result c.from_residual.ensures.1 in
    let e = scanned_not (septets_of c.args.text.now) (replicate 255 0) c.scan_text.new.codes c.in_err-count.ensures in
    rw (p.1, p.2, e.1) (lent_refused _ _ (packing_none _ _ e.0))

pub returns-then-count-gt255 : goal.returns-then-count-gt255
returns-then-count-gt255 c =
    let s = scanned_codes (septets_of c.args.text.now) c.scan_text.new.codes c.in_ok-count.count c.in_ok-count.ensures in
    lent_refused _ _ (packing_many _ _ s.0 s.1 (omega (arith, s.2)))

pub slice_bounds-codes-end : goal.slice_bounds-codes-end
slice_bounds-codes-end c = omega (arith, codes_long (septets_of c.args.text.now) c.scan_text.new.codes c.in_ok-count.count c.in_ok-count.ensures)

pub slice_bounds-pack_codes-end : goal.slice_bounds-pack_codes-end
slice_bounds-pack_codes-end c = sym (length-take-le _ _ (omega (arith, codes_long (septets_of c.args.text.now) c.scan_text.new.codes c.in_ok-count.count c.in_ok-count.ensures)))

pub pack_codes-requires : goal.pack_codes-requires
pack_codes-requires c =
    let s = scanned_codes (septets_of c.args.text.now) c.scan_text.new.codes c.in_ok-count.count c.in_ok-count.ensures in
    let are = codes_first (septets_of c.args.text.now) c.scan_text.new.codes c.in_ok-count.count c.in_ok-count.ensures c.if-count-gt255.false in
    (c.requires, rw are (omega (arith, s.2)), subst (Digits 7) (sym are) (septets_digits _ s.0 s.1))

pub returns : goal.returns
returns c =
    let s = scanned_codes (septets_of c.args.text.now) c.scan_text.new.codes c.in_ok-count.count c.in_ok-count.ensures in
    rw (packing_some _ _ s.0 s.1, ← codes_first (septets_of c.args.text.now) c.scan_text.new.codes c.in_ok-count.count c.in_ok-count.ensures c.if-count-gt255.false) c.pack_codes.ensures
