-- `alphabet_table::put_septets` meets its contract: the lines of the septets that are left are stored one by one.
use native.Mathlib.Omega.{arith}
use lib.ListN.{get_or}
use Rattle.octets.proofs.Laws.{left_step, left_end}
use Rattle.gsm7.specs.Alphabet.{alphabet}
use Rattle.alphabet_table.proofs.Lines.{length_line, septets_next, septets_end}
use Rattle.alphabet_table.proofs.put_septets.Goals as goal

pub loop-septet-preserved : goal.loop-septet-preserved
loop-septet-preserved c =
    let l = c.loop-septet in
    let w = c.put_line-at.ensures in
    (omega (arith, w.place, length_line l.septet (get_or alphabet l.septet 0)), left_step _ l.invariant.1 w (septets_next l.septet _ (omega arith)))

pub returns : goal.returns
returns c =
    let l = c.loop-septet in
    let e = left_end l.invariant.1 (septets_end l.septet _ (omega arith)) in
    record { place = e.0; list = e.1 }
