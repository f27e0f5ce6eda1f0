use Prim.Native.Nat.{◌+◌, ◌*◌}
use lib.ListN.{length, drop}
use lib.Seq.{sets}
use Rattle.octets.proofs.Laws.{Left}
use Rattle.output.specs.Hexadecimal.{octets_of}
use Rattle.output.proofs.hexadecimal.put_octets_of.Given as goal

abbrev pub invariant-loop-i : goal.invariant-loop-i
invariant-loop-i l =
    Left (sets l.initial.out 0 (octets_of l.text)) (0 + length (octets_of l.text)) l.out l.i (octets_of (drop (2 * l.i) l.text))
