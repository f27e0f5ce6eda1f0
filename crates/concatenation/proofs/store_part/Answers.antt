-- `concatenation::store_part` meets its contract: as long as there is room, the characters passed are those of the part.
use mathlib.Core.Path.{sym}
use native.Mathlib.Omega.{arith}
use Rattle.std.proofs.lemmas.Result.{err_from_is_err_and}
use Rattle.octets.proofs.Laws.{wrote_one}
use Rattle.gsm7.proofs.FirstCharacter.{first_one, first_refusal}
use Rattle.gsm7.proofs.Scanning.{first_width, scan_broken, scan_absent, added, not_added}
use Rattle.concatenation.proofs.Storing.{storing_none, stores_end, stores_full, stores_more, stores_over}
use Rattle.concatenation.proofs.store_part.Goals as goal

pub returns-in_err-c : goal.returns-in_err-c
returns-in_err-c c =
    let l = c.loop-i in
    let e = sym c.in_err-c.ensures in
    let p = err_from_is_err_and c.from_residual.result c.from_residual.ensures.1 in
    rw (p.1, p.2) (storing_none _ _ _ l.i l.invariant.is (scan_broken _ l.i c.loop-i-test.true e), first_refusal _ e)

pub returns-in_err-next : goal.returns-in_err-next
returns-in_err-next c =
    let l = c.loop-i in
    let p = err_from_is_err_and c.from_residual-in_err-next.result c.from_residual-in_err-next.ensures.1 in
    let e = not_added _ _ _ _ c.add_character.result c.add_character.ensures c.in_err-next.ensures.value in
    rw (p.1, p.2) (storing_none _ _ _ l.i l.invariant.is (scan_absent _ l.i c.loop-i-test.true _ _ (sym c.in_ok-c.ensures) e.1), e.0)

pub overflow_add-i-in-loop-i : goal.overflow_add-i-in-loop-i
overflow_add-i-in-loop-i c = omega (arith, first_width _ _ _ (sym c.in_ok-c.ensures))

pub loop-i-smaller : goal.loop-i-smaller
loop-i-smaller c = omega (arith, first_width _ _ _ (sym c.in_ok-c.ensures))

pub loop-i-preserved : goal.loop-i-preserved
loop-i-preserved c =
    let (ks, is, w, more, few) = added _ _ _ _ c.add_character.result c.add_character.ensures c.in_ok-next.ensures.value in
    stores_more c.loop-i.invariant c.loop-i-test.true (sym c.in_ok-c.ensures) is w (omega arith)

pub loop-i-preserved-in-Some : goal.loop-i-preserved-in-Some
loop-i-preserved-in-Some c =
    let l = c.loop-i in
    stores_more l.invariant c.loop-i-test.true (first_one _ l.i c.if-octet-lt128.true) c.in-Some.ensures (wrote_one _ _ _) (omega arith)

pub returns-then-count-gt152 : goal.returns-then-count-gt152
returns-then-count-gt152 c =
    let l = c.loop-i in
    stores_full l.invariant c.loop-i-test.true (first_one _ l.i c.if-octet-lt128.true) c.in-Some.ensures (omega arith)

pub returns-after-loop-i : goal.returns-after-loop-i
returns-after-loop-i c = stores_end c.loop-i.invariant c.requires.0 c.loop-i-test.false

pub returns-then-next-gt153 : goal.returns-then-next-gt153
returns-then-next-gt153 c =
    let l = c.loop-i in
    let (ks, is, w, more, few) = added _ _ _ _ c.add_character.result c.add_character.ensures c.in_ok-next.ensures.value in
    stores_over l.invariant c.loop-i-test.true (sym c.in_ok-c.ensures) is w (omega arith) (omega (arith, few, l.invariant.room))
