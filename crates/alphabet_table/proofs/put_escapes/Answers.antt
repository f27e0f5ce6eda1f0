-- `alphabet_table::put_escapes` meets its contract: the lines of the rows that are left are stored one by one.
use native.Mathlib.Omega.{arith}
use Rattle.octets.specs.Texts.{codes}
use Rattle.octets.proofs.Laws.{left_step, left_end, wrote_then}
use Rattle.gsm7.specs.Alphabet.{extension}
use Rattle.alphabet_table.proofs.Lines.{length_line, escapes_next, escapes_end}
use Rattle.alphabet_table.proofs.put_escapes.Goals as goal

pub loop-place-preserved : goal.loop-place-preserved
unfolding codes
loop-place-preserved c =
    let l = c.loop-place in
    let v = c.put_octets-next.ensures in
    let w = c.put_line-next.ensures in
    let row = c.extension_row-row.result in
    (omega (arith, v.place, w.place, length_line row.code row.character), left_step _ l.invariant.1 (wrote_then v w) (escapes_next l.place extension c.loop-place-test.true c.extension_row-row.ensures))

pub returns : goal.returns
returns c =
    let l = c.loop-place in
    let e = left_end l.invariant.1 (escapes_end l.place extension c.loop-place-test.false) in
    record { place = e.0; list = e.1 }
