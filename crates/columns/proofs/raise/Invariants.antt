use mathlib.Core.List.{◌++◌}
use lib.ListN.{drop}
use Rattle.columns.specs.Internal.{Raised}
use Rattle.columns.proofs.raise.Given as goal

abbrev pub invariant-loop-place : goal.invariant-loop-place
invariant-loop-place l = Raised l.place-index l.fn.places (l.place-items ++ drop l.n l.fn.places)
