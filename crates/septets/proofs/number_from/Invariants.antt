use mathlib.Core.Path.{◌≡◌}
use mathlib.Core.List.{List, ◌++◌}
use Prim.Native.Nat.{ℕ}
use Rattle.std.specs.Iterator.Adapters.{rev_source}
use Rattle.std.specs.Slice.Iter.{iter_rest}
use Rattle.septets.specs.Septets.{number_of}
use Rattle.septets.proofs.number_from.Given as goal

abbrev pub invariant-loop-digit : goal.invariant-loop-digit
invariant-loop-digit l =
    (taken : List ℕ) × (iter_rest (rev_source l.digit-iterator) ++ taken ≡ l.digits) × (l.number ≡ number_of l.w taken)
