use Prim.Native.Nat.{◌+◌}
use Rattle.octets.specs.Lent.{Wrote}
use Rattle.columns.specs.Internal.{picked}
use Rattle.columns.proofs.take_string.Given as goal

abbrev pub invariant-loop-k : goal.invariant-loop-k
invariant-loop-k l = Wrote l.at (picked l.k l.places l.block) l.initial.octets (l.at + l.k) l.octets
