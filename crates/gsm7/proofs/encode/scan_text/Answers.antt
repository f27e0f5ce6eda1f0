-- `gsm7::encode::scan_text` meets its contract: the septets of what is left of the text, stored too, still give the whole.
use mathlib.Core.Path.{sym, ◌∙◌}
use native.Mathlib.Omega.{arith}
use Rattle.octets.proofs.Laws.{kept_by}
use Rattle.std.proofs.lemmas.Result.{err_from_is_err_and}
use Rattle.gsm7.proofs.FirstCharacter.{first_one, first_refusal}
use Rattle.gsm7.proofs.Scanning.{first_width, scan_end, scan_broken, scan_absent, scan_more, added, not_added, scanned_none, scanned_done}
use Rattle.gsm7.proofs.encode.scan_text.Goals as goal

pub returns-in_err-c : goal.returns-in_err-c
returns-in_err-c c =
    let l = c.loop-i in
    let e = sym c.in_err-c.ensures in
    let p = err_from_is_err_and c.from_residual.result c.from_residual.ensures.1 in
    rw (p.1, p.2, first_refusal _ e) (scanned_none _ l.codes _ _ l.count _ (scan_broken _ l.i c.loop-i-test.true e) l.invariant.2)

pub returns-in_err-count : goal.returns-in_err-count
returns-in_err-count c =
    let l = c.loop-i in
    let p = err_from_is_err_and c.from_residual-in_err-count.result c.from_residual-in_err-count.ensures.1 in
    let e = not_added _ _ _ _ c.add_character.result c.add_character.ensures c.in_err-count.ensures.value in
    rw (p.1, p.2, e.0) (scanned_none _ l.codes _ _ l.count _ (scan_absent _ l.i c.loop-i-test.true _ _ (sym c.in_ok-c.ensures) e.1) l.invariant.2)

pub overflow_add-i-in-loop-i : goal.overflow_add-i-in-loop-i
overflow_add-i-in-loop-i c = omega (arith, first_width _ _ _ (sym c.in_ok-c.ensures))

pub loop-i-smaller : goal.loop-i-smaller
loop-i-smaller c = omega (arith, first_width _ _ _ (sym c.in_ok-c.ensures))

pub loop-i-preserved : goal.loop-i-preserved
loop-i-preserved c =
    let l = c.loop-i in
    let e = sym c.in_ok-c.ensures in
    let (ks, is, w, more, few) = added _ _ _ _ c.add_character.result c.add_character.ensures c.in_ok-count.ensures.value in (
      omega (arith, first_width _ _ _ e),
      kept_by w ∙ l.invariant.1,
      scan_more _ l.i c.loop-i-test.true _ _ e ks is w l.invariant.2,
    )

pub loop-i-preserved-in-Some : goal.loop-i-preserved-in-Some
loop-i-preserved-in-Some c =
    let l = c.loop-i in
    let w = c.add-count.ensures in (
      omega (arith, w.place, l.invariant.0),
      kept_by w ∙ l.invariant.1,
      scan_more _ l.i c.loop-i-test.true _ _ (first_one _ l.i c.if-octet-lt128.true) _ c.in-Some.ensures w l.invariant.2,
    )

pub returns : goal.returns
returns c = scanned_done _ c.loop-i.codes _ c.loop-i.count _ (scan_end _ c.loop-i.i c.loop-i-test.false) c.loop-i.invariant.2
