use mathlib.Core.List.{◌++◌}
use lib.ListN.{drop}
use Rattle.columns.proofs.Stepwise.{Storing}
use Rattle.columns.proofs.put_lengths.Given as goal

abbrev pub invariant-loop-length : goal.invariant-loop-length
invariant-loop-length l = Storing l.block l.at l.count l.fn.lengths (l.length-items ++ drop l.count l.fn.lengths) l.place l.length-index
