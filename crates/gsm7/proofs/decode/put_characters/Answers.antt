-- `gsm7::decode::put_characters` meets its contract: the characters of the septets that are left, written too, still give the whole, and so do the escapes replaced in them.
use Prim.Native.Nat.{◌+◌, ◌*◌}
use mathlib.Core.Path.{◌≡◌, refl, sym, ap, ◌∙◌}
use native.Mathlib.Omega.{arith}
use native.Mathlib.Nat.{add-zero}
use borrow.Author.Tests.{leb-true}
use Rattle.octets.proofs.Choice.{and_true}
use Rattle.septets.specs.Septets.{bit_place}
use Rattle.septets.proofs.BitPlaces.{next_here, places_here}
use Rattle.gsm7.proofs.Showing.{shows_start, step_fits, step_more, shows_end, step_plain, step_four, escaped_is, replaced_is, step_escape, step_last}
use Rattle.gsm7.proofs.decode.put_characters.Goals as goal

pub loop-consumed-init : goal.loop-consumed-init
loop-consumed-init g c = shows_start _ _ _ _ _ _ c.requires.0

pub put-end-requires : goal.put-end-requires
put-end-requires g c =
    let s = c.loop-consumed.invariant in
    step_fits s (step_last s _ c.window-window.ensures c.septet_in-code.ensures c.if-consumed-septets.true c.if-code-eq-GSM7_ESCAPE.true) c.requires.2

pub put-end-requires-then-code-eq-GSM7_ESCAPE : goal.put-end-requires-then-code-eq-GSM7_ESCAPE
put-end-requires-then-code-eq-GSM7_ESCAPE g c =
    let s = c.loop-consumed.invariant in
    let t = step_escape s _ c.window-window.ensures c.septet_in-code.ensures c.septet_in-next.ensures (escaped_is _ c.escaped_character-extended.ensures c.default_character.ensures c.unwrap_or.ensures) refl c.loop-consumed-test.true c.if-consumed-septets.false c.if-code-eq-GSM7_ESCAPE.true in
    step_fits s t c.requires.2

pub loop-consumed-preserved-then-code-eq-GSM7_ESCAPE : goal.loop-consumed-preserved-then-code-eq-GSM7_ESCAPE
loop-consumed-preserved-then-code-eq-GSM7_ESCAPE g c =
    let s = c.loop-consumed.invariant in
    let t = step_escape s _ c.window-window.ensures c.septet_in-code.ensures c.septet_in-next.ensures (escaped_is _ c.escaped_character-extended.ensures c.default_character.ensures c.unwrap_or.ensures) (replaced_is _ c.escaped_character-extended.ensures _ c.is_none.ensures) c.loop-consumed-test.true c.if-consumed-septets.false c.if-code-eq-GSM7_ESCAPE.true in
    let l = c.loop-consumed in
    let two : c.args.fill + (l.consumed + 1 + 1) * 7 ≡ c.args.fill + (l.consumed + 2) * 7 = omega arith in
    step_more s t c.put-end-then-code-eq-GSM7_ESCAPE.ensures _ refl _ (next_here _ _ (next_here _ _ s.placed c.next.ensures) c.next-place.ensures ∙ ap bit_place two)

pub put_four-end-requires : goal.put_four-end-requires
put_four-end-requires g c =
    let s = c.loop-consumed.invariant in
    let both = and_true _ _ c.if-consumed-septets-2.true in
    step_fits s (step_four s _ c.window-window.ensures (leb-true _ _ both.0) (sym c.four_plain.ensures ∙ both.1)) c.requires.2

pub loop-consumed-preserved-then-consumed-septets-2 : goal.loop-consumed-preserved-then-consumed-septets-2
loop-consumed-preserved-then-consumed-septets-2 g c =
    let s = c.loop-consumed.invariant in
    let both = and_true _ _ c.if-consumed-septets-2.true in
    let t = step_four s _ c.window-window.ensures (leb-true _ _ both.0) (sym c.four_plain.ensures ∙ both.1) in
    step_more s t c.put_four-end.ensures _ (sym (add-zero _)) _ (c.after_four-place.ensures ∙ places_here _ _ s.placed 4)

pub put-end-requires-else-consumed-septets-2 : goal.put-end-requires-else-consumed-septets-2
put-end-requires-else-consumed-septets-2 g c =
    let s = c.loop-consumed.invariant in
    rw c.default_character-else-consumed-septets-2.ensures (step_fits s (step_plain s _ c.window-window.ensures c.septet_in-code.ensures c.loop-consumed-test.true c.if-code-eq-GSM7_ESCAPE.false) c.requires.2)

pub loop-consumed-preserved : goal.loop-consumed-preserved
loop-consumed-preserved g c =
    let s = c.loop-consumed.invariant in
    let t = step_plain s _ c.window-window.ensures c.septet_in-code.ensures c.loop-consumed-test.true c.if-code-eq-GSM7_ESCAPE.false in
    step_more s t (rw c.default_character-else-consumed-septets-2.ensures at c.put-end-else-consumed-septets-2.ensures) _ (sym (add-zero _)) _ (next_here _ _ s.placed c.next-place-else-consumed-septets-2.ensures)

pub returns-after-loop-consumed : goal.returns-after-loop-consumed
returns-after-loop-consumed g c = shows_end c.loop-consumed.invariant c.loop-consumed-test.false

pub returns-then-consumed-septets : goal.returns-then-consumed-septets
returns-then-consumed-septets g c =
    let s = c.loop-consumed.invariant in
    let t = step_last s _ c.window-window.ensures c.septet_in-code.ensures c.if-consumed-septets.true c.if-code-eq-GSM7_ESCAPE.true in
    shows_end (step_more s t c.put-end.ensures _ refl _ refl) (omega (arith, c.if-consumed-septets.true))
