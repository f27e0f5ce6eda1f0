use Prim.Native.Nat.{◌+◌, ◌*◌}
use mathlib.Core.Path.{◌≡◌}
use lib.ListN.{length, drop}
use lib.Seq.{sets}
use Rattle.octets.proofs.Laws.{Left}
use Rattle.gsm7.specs.Alphabet.{alphabet}
use Rattle.alphabet_table.specs.AlphabetLines.{septet_lines}
use Rattle.alphabet_table.proofs.put_septets.Given as goal

abbrev pub invariant-loop-septet : goal.invariant-loop-septet
invariant-loop-septet l =
    (l.at ≡ 8 * l.septet)
    × Left (sets l.initial.out 0 (septet_lines 0 alphabet)) (0 + length (septet_lines 0 alphabet)) l.out l.at (septet_lines l.septet (drop l.septet alphabet))
