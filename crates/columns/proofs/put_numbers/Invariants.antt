use Prim.Native.Nat.{◌+◌}
use lib.ListN.{length, drop}
use lib.Seq.{sets}
use Rattle.octets.proofs.Laws.{Left}
use Rattle.columns.specs.Blocks.{numbers}
use Rattle.columns.proofs.put_numbers.Given as goal

abbrev pub invariant-loop-n : goal.invariant-loop-n
invariant-loop-n l = Left (sets l.initial.out l.at (numbers l.lengths.each.now)) (l.at + length (numbers l.lengths.each.now)) l.out l.place (numbers (drop l.n-index l.lengths.each.now))
