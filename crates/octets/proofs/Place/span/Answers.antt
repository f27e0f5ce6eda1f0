-- What is left from the place on, none past the end, is the rest's length.
use Prim.Native.Nat.{◌-◌, ◌≤◌, ◌<◌}
use native.Mathlib.Omega.{arith}
use borrow.Author.Tests.{le-leb, lt-leb}
use lib.ListN.{length, length-drop}
use Rattle.octets.specs.Places.{span_at}
use Rattle.octets.proofs.Place.span.Goals as goal

pub returns-then-n-saturating_sub : goal.returns-then-n-saturating_sub
unfolding span_at
returns-then-n-saturating_sub c = let a = c.args in let h : a.n ≤ length a.«data».now - a.self.at = omega arith in rw (length-drop a.self.at a.«data».now, le-leb _ _ h)

pub returns-else-n-saturating_sub : goal.returns-else-n-saturating_sub
unfolding span_at
returns-else-n-saturating_sub c = let a = c.args in let h : length a.«data».now - a.self.at < a.n = omega arith in rw (length-drop a.self.at a.«data».now, lt-leb _ _ h)
