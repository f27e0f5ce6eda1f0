use Rattle.columns.proofs.Stepwise.{Sizing}
use Rattle.columns.proofs.sizes_of.Given as goal

abbrev pub invariant-loop-n : goal.invariant-loop-n
invariant-loop-n l = Sizing l.lengths l.n-index l.octets l.taken
