-- Semi-octets as the code tells them: a test that antt computes over every one, and which half of an octet it is.
-- Assumes nothing.
use Prim.Native.Nat.{ℕ, zero, suc, ◌+◌, ◌*◌, ◌/◌, ◌%◌, ◌<◌}
use mathlib.Core.Path.{◌≡◌, refl}
use mathlib.Core.Bool.{Bool}
use mathlib.Core.List.{List, [], ◌∷◌}
use native.Mathlib.Omega.{arith}
use borrow.Author.Tests.{eqb-true}
use lib.Dec.{eqb}
use lib.ListN.{get_or}
use Rattle.std.specs.Prelude.{if◌then◌else◌}
use Rattle.octets.specs.Choice.{within}
use Rattle.octets.specs.SemiOctets.{semi_octets}
use Rattle.octets.specs.Texts.{codes}
use Rattle.octets.proofs.Table.{below}
use Rattle.address.specs.Writing.{digit_characters}
use Rattle.address.specs.Address.{digit_character}

-- the character of a value by ranges
abbrev pub character_by_range : ℕ → ℕ
character_by_range v = if within 0 9 v then 48 + v else if eqb v 10 then 42 else if eqb v 11 then 35 else 85 + v

character_test : ℕ → Bool
character_test v = eqb (digit_character v) (character_by_range v)

pub character_by_range_lem : (v : ℕ) → v < 15 → digit_character v ≡ character_by_range v
unfolding character_test digit_character digit_characters codes
character_by_range_lem v h = eqb-true _ _ (below character_test 15 refl v h)

-- semi-octet i is the low half of octet i / 2, or the high half
pub semi_low : (os : List ℕ) (k : ℕ) → get_or (semi_octets os) (2 * k) 0 ≡ get_or os k 0 % 16
unfolding semi_octets
semi_low [] k = omega arith
semi_low (o ∷ os) zero = refl
semi_low (o ∷ os) (suc k) = let e : 2 * suc k ≡ suc (suc (2 * k)) = omega arith in rw e (semi_low os k)

pub semi_high : (os : List ℕ) (k : ℕ) → get_or (semi_octets os) (2 * k + 1) 0 ≡ get_or os k 0 / 16
unfolding semi_octets
semi_high [] k = omega arith
semi_high (o ∷ os) zero = refl
semi_high (o ∷ os) (suc k) = let e : 2 * suc k + 1 ≡ suc (suc (2 * k + 1)) = omega arith in rw e (semi_high os k)
