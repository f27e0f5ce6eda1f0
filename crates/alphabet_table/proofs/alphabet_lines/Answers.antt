-- `alphabet_table::alphabet_lines` meets its contract: the lines of both tables, one after the other, where they fit.
use mathlib.Core.Path.{refl}
use native.Mathlib.Omega.{arith}
use Rattle.octets.proofs.Laws.{wrote_then, kept_by, lent_short, lent_written}
use Rattle.alphabet_table.specs.AlphabetLines.{alphabet_lines}
use Rattle.alphabet_table.proofs.Lines.{length_septets, length_all}
use Rattle.alphabet_table.proofs.alphabet_lines.Goals as goal

pub returns-then-out-lt-ALPHABET_OCTETS : goal.returns-then-out-lt-ALPHABET_OCTETS
returns-then-out-lt-ALPHABET_OCTETS c = lent_short _ refl (omega (arith, length_all, c.if-out-lt-ALPHABET_OCTETS.true))

pub put_escapes-requires : goal.put_escapes-requires
put_escapes-requires c =
    let w = c.put_septets-at.ensures in
    omega (arith, w.place, length_septets, kept_by w, c.if-out-lt-ALPHABET_OCTETS.false)

pub returns : goal.returns
unfolding alphabet_lines
returns c = lent_written _ refl (omega (arith, length_all, c.if-out-lt-ALPHABET_OCTETS.false)) (wrote_then c.put_septets-at.ensures c.put_escapes.ensures)
