-- Semi-octets and octets: there and back, how many, and how large.
-- Assumes nothing.
use Prim.Native.Nat.{ℕ, zero, suc, ◌+◌, ◌*◌, ◌/◌, ◌%◌}
use mathlib.Core.Path.{◌≡◌, refl, ap₂}
use mathlib.Core.List.{List, [], ◌∷◌}
use native.Mathlib.Omega.{arith}
use lib.ListN.{length, take}
use Rattle.octets.specs.Each.{Octets}
use Rattle.octets.specs.SemiOctets.{semi_octets, in_pairs}
use Rattle.octets.proofs.Each.{Below}

-- semi-octets → octets → semi-octets
pub semi_pairs : (ds : List ℕ) → Below 16 ds → take (length ds) (semi_octets (in_pairs ds)) ≡ ds
unfolding semi_octets in_pairs
semi_pairs [] h = refl
semi_pairs (a ∷ []) h = let p : (a + 16 * 0xf) % 16 ≡ a = omega (arith, h 0) in rw p
semi_pairs (a ∷ b ∷ ds) h =
    let p : (a + 16 * b) % 16 ≡ a = omega (arith, h 0) in
    let q : (a + 16 * b) / 16 ≡ b = omega (arith, h 0) in
    rw (p, q, semi_pairs ds (λ i. h (suc (suc i))))

-- octets → semi-octets → octets
pub pairs_semi : (os : List ℕ) → in_pairs (semi_octets os) ≡ os
unfolding semi_octets in_pairs
pairs_semi [] = refl
pairs_semi (o ∷ os) = let e : o % 16 + 16 * (o / 16) ≡ o = omega arith in ap₂ ◌∷◌ e (pairs_semi os)

pub length_pairs : (ds : List ℕ) → length (in_pairs ds) ≡ (length ds + 1) / 2
unfolding in_pairs
length_pairs [] = refl
length_pairs (a ∷ []) = refl
length_pairs (a ∷ b ∷ ds) = omega (arith, length_pairs ds)

pub length_semi : (os : List ℕ) → length (semi_octets os) ≡ 2 * length os
unfolding semi_octets
length_semi [] = refl
length_semi (o ∷ os) = omega (arith, length_semi os)

-- the octets of semi-octets are octets
pub pairs_octets : (ds : List ℕ) → Below 16 ds → Octets (in_pairs ds)
unfolding in_pairs
pairs_octets [] h i = omega arith
pairs_octets (a ∷ []) h zero = omega (arith, h 0)
pairs_octets (a ∷ []) h (suc i) = omega arith
pairs_octets (a ∷ b ∷ ds) h zero = omega (arith, h 0, h 1)
pairs_octets (a ∷ b ∷ ds) h (suc i) = pairs_octets ds (λ j. h (suc (suc j))) i

-- and the other way
pub semi_small : (os : List ℕ) → Octets os → Below 16 (semi_octets os)
unfolding semi_octets
semi_small [] h i = omega arith
semi_small (o ∷ os) h zero = omega arith
semi_small (o ∷ os) h (suc zero) = omega (arith, h 0)
semi_small (o ∷ os) h (suc (suc i)) = semi_small os (λ j. h (suc j)) i
