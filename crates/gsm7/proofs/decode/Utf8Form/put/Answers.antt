-- `gsm7::decode::Utf8::put` meets its contract, by the size of the character.
use mathlib.Core.Path.{ap, ◌∙◌}
use native.Mathlib.Omega.{arith}
use lib.ListN.{length, length-set}
use Rattle.octets.proofs.Laws.{wrote_one, wrote_then, kept_by}
use Rattle.gsm7.proofs.Utf8.{utf8_one, utf8_two, utf8_three}
use Rattle.gsm7.proofs.decode.Utf8Form.put.Goals as goal

pub bounds-text-at : goal.bounds-text-at
bounds-text-at c = omega (arith, ap length (utf8_one _ c.if-c-lt128.true))

pub returns-then-c-lt128 : goal.returns-then-c-lt128
returns-then-c-lt128 c = rw (utf8_one _ c.if-c-lt128.true) (wrote_one _ _ _)

pub put_two-requires : goal.put_two-requires
put_two-requires c = omega (arith, ap length (utf8_two _ c.if-c-lt128.false c.if-c-lt2048.true))

pub shape_of-text-then-c-lt2048 : goal.shape_of-text-then-c-lt2048
shape_of-text-then-c-lt2048 c = kept_by c.put_two.ensures

pub returns-then-c-lt2048 : goal.returns-then-c-lt2048
returns-then-c-lt2048 c = rw (utf8_two _ c.if-c-lt128.false c.if-c-lt2048.true) c.put_two.ensures

pub bounds-text-at-2 : goal.bounds-text-at-2
bounds-text-at-2 c = omega (arith, ap length (utf8_three _ c.if-c-lt2048.false))

pub put_two-requires-2 : goal.put_two-requires-2
put_two-requires-2 c = simp length-set (omega (arith, ap length (utf8_three _ c.if-c-lt2048.false)))

pub shape_of-text : goal.shape_of-text
shape_of-text c = kept_by c.put_two-2.ensures ∙ simp length-set

pub returns : goal.returns
returns c = rw (utf8_three _ c.if-c-lt2048.false) (wrote_then (wrote_one _ _ _) c.put_two-2.ensures)
