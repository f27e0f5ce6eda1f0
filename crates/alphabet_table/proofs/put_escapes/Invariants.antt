use Prim.Native.Nat.{◌+◌, ◌*◌}
use mathlib.Core.Path.{◌≡◌}
use lib.ListN.{length, drop}
use lib.Seq.{sets}
use Rattle.octets.proofs.Laws.{Left}
use Rattle.gsm7.specs.Alphabet.{extension}
use Rattle.alphabet_table.specs.AlphabetLines.{escape_lines}
use Rattle.alphabet_table.proofs.put_escapes.Given as goal

abbrev pub invariant-loop-place : goal.invariant-loop-place
invariant-loop-place l =
    (l.next ≡ l.at + 10 * l.place)
    × Left (sets l.initial.out l.at (escape_lines extension)) (l.at + length (escape_lines extension)) l.out l.next (escape_lines (drop l.place extension))
