-- The parts of septets, one after the other: the first is the one that can hold no more.
-- Assumes nothing.
use Prim.Native.Nat.{ℕ, zero, suc, ◌<◌, ◌≤◌}
use mathlib.Core.Path.{◌≡◌, refl, ◌∙◌, ap, ap₂}
use mathlib.Core.List.{List, [], ◌∷◌, ◌++◌, append-nil}
use native.Mathlib.Omega.{arith}
use lib.ListN.{length, take, drop, drop_of_length-le}
use lib.Seq.{take_at, drop_at, take_all}
use Rattle.concatenation.specs.Cutting.{Part, most, cut_into, parts_of}
use Rattle.concatenation.proofs.Taken.{longest, shorter}

-- enough is as good as more
cut_enough : (n m : ℕ) (ss : List ℕ) → length ss ≤ n → length ss ≤ m → cut_into n ss ≡ cut_into m ss
unfolding cut_into
cut_enough zero zero [] h k = refl
cut_enough zero (suc m) [] h k = refl
cut_enough (suc n) zero [] h k = refl
cut_enough (suc n) (suc m) [] h k = refl
cut_enough zero m (s ∷ ss) h k = absurd (omega arith)
cut_enough (suc n) zero (s ∷ ss) h k = absurd (omega arith)
cut_enough (suc n) (suc m) (s ∷ ss) h k =
    ap (λ (l : List (List ℕ)). take (most (s ∷ ss)) (s ∷ ss) ∷ l) (cut_enough n m (drop (most (s ∷ ss)) (s ∷ ss)) (shorter n s ss h) (shorter m s ss k))

parts_cons : (s : ℕ) (ss : List ℕ) → parts_of (s ∷ ss) ≡ take (most (s ∷ ss)) (s ∷ ss) ∷ parts_of (drop (most (s ∷ ss)) (s ∷ ss))
unfolding cut_into
parts_cons s ss =
    ap (λ (l : List (List ℕ)). take (most (s ∷ ss)) (s ∷ ss) ∷ l)
    (cut_enough (length ss) (length (drop (most (s ∷ ss)) (s ∷ ss))) (drop (most (s ∷ ss)) (s ∷ ss)) (shorter (length ss) s ss (omega arith)) (omega arith))

pub parts_some : (ss : List ℕ) → 0 < length ss → 0 < length (parts_of ss)
parts_some [] h = absurd (omega arith)
parts_some (s ∷ ss) h = rw (parts_cons s ss) (omega arith)

-- a part that can hold no more is the first
pub parts_next : (p rest : List ℕ) → 0 < length p → length p ≡ most (p ++ rest) → parts_of (p ++ rest) ≡ p ∷ parts_of rest
parts_next [] rest h e = absurd (omega arith)
parts_next (s ∷ p) rest h e =
    parts_cons s (p ++ rest)
    ∙ ap₂ ◌∷◌ (take_at (s ∷ p) rest (most (s ∷ (p ++ rest))) e) (ap parts_of (drop_at (s ∷ p) rest (most (s ∷ (p ++ rest))) e))

pub no_parts : parts_of [] ≡ []
unfolding cut_into
no_parts = refl

-- what one part can hold is one part
pub parts_last : (p : List ℕ) → 0 < length p → Part p → parts_of p ≡ p ∷ []
parts_last [] h w = absurd (omega arith)
parts_last (s ∷ p) h w =
    let under = rw append-nil at (longest (s ∷ p) [] w) in
    parts_cons s p
    ∙ ap₂ ◌∷◌ (take_all (most (s ∷ p)) (s ∷ p) under) (ap parts_of (drop_of_length-le (s ∷ p) {i = most (s ∷ p)} under) ∙ no_parts)
