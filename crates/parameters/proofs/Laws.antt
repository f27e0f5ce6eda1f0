-- How many octets an optional octet takes.
-- Assumes nothing.
use Rattle.std.specs.Prelude.{Some, None, Option}
use Prim.Native.Nat.{ℕ, ◌≤◌}
use native.Mathlib.Omega.{arith}
use Rattle.parameters.specs.Optional.{held}

pub one_at_most : (o : Option ℕ) → held o ≤ 1
one_at_most None = omega arith
one_at_most (Some x) = omega arith
