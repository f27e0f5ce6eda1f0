use mathlib.Core.Path.{◌≡◌}
use lib.ListN.{drop}
use Rattle.columns.specs.Internal.{scattered}
use Rattle.columns.proofs.put_string.Given as goal

abbrev pub invariant-loop-k : goal.invariant-loop-k
invariant-loop-k l = l.out ≡ scattered l.k l.places (drop l.at l.octets) l.initial.out
