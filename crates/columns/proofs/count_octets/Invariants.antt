use Prim.Native.Nat.{ℕ}
use mathlib.Core.Path.{◌≡◌}
use lib.ListN.{get_or, take}
use Rattle.columns.specs.Internal.{longer_than}
use Rattle.columns.proofs.count_octets.Given as goal

abbrev pub invariant-loop-n : goal.invariant-loop-n
invariant-loop-n l = (k : ℕ) → get_or l.counts k 0 ≡ longer_than k (take l.n-index l.lengths.each.now)
