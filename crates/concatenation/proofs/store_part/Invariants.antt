use Prim.Native.Nat.{◌-◌}
use lib.ListN.{length}
use Rattle.concatenation.proofs.Storing.{Stores}
use Rattle.concatenation.proofs.store_part.Given as goal

abbrev pub invariant-loop-i : goal.invariant-loop-i
invariant-loop-i l = Stores l.text l.from l.codes l.count l.i

abbrev pub decreases-loop-i : goal.decreases-loop-i
decreases-loop-i l = length l.text - l.i
