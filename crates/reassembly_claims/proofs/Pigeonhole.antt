-- More things than places: two share a place.
-- Assumes nothing.
use Prim.Native.Nat.{ℕ, zero, suc, ◌-◌, ◌≤◌, ◌<◌}
use mathlib.Core.Path.{◌≡◌, refl}
use mathlib.Core.Bool.{Bool, true, false}
use mathlib.Core.Logic.{◌⊎◌, inl, inr}
use native.Mathlib.Omega.{arith}
use borrow.Author.Tests.{eqb-true, eqb-false, ltb-true, ltb-false}
use lib.Dec.{eqb, ltb}
use Rattle.std.specs.Prelude.{if◌then◌else◌}

-- one of the first n has the value, or none has
module _ (f : ℕ → ℕ) (v : ℕ) where
  abbrev Found : ℕ → Type 0
  Found n = ((i : ℕ) × (i < n) × (f i ≡ v)) ⊎ ((i : ℕ) → i < n → f i ≡ v → ⊥)

  look : (n : ℕ) → Found n
  look zero = inr (λ i h e. omega arith)
  look (suc n) = by_last (look n) (eqb (f n) v) refl
    where
      by_last : Found n → (t : Bool) → eqb (f n) v ≡ t → Found (suc n)
      by_last (inl (i, h, e)) t q = inl (i, omega arith, e)
      by_last (inr no_one) true q = inl (n, omega arith, eqb-true (f n) v q)
      by_last (inr no_one) false q = inr (λ i h e. by_place i h e (eqb i n) refl)
        where
          by_place : (i : ℕ) → i < suc n → f i ≡ v → (t : Bool) → eqb i n ≡ t → ⊥
          by_place i h e true r = let is = eqb-true i n r in eqb-false (f n) v q (rw is at e)
          by_place i h e false r = let ne = eqb-false i n r in no_one i (omega arith) e

  -- the values without v, moved up
  without : ℕ → ℕ
  without i = if ltb v (f i) then f i - 1 else f i

  module _ (i : ℕ) (ne : f i ≡ v → ⊥) where
    moved : ((v < f i) × (without i ≡ f i - 1)) ⊎ ((f i < v) × (without i ≡ f i))
    unfolding without
    moved = by_test (ltb v (f i)) refl
      where
        by_test : (t : Bool) → ltb v (f i) ≡ t → ((v < f i) × ((if t then f i - 1 else f i) ≡ f i - 1)) ⊎ ((f i < v) × ((if t then f i - 1 else f i) ≡ f i))
        by_test true e = inl (ltb-true v (f i) e, refl)
        by_test false e = let h = ltb-false v (f i) e in inr (omega arith, refl)

  fewer : (n i : ℕ) → f i < suc n → v < suc n → (f i ≡ v → ⊥) → without i < n
  fewer n i h l ne = by_moved (moved i ne)
    where
      by_moved : ((v < f i) × (without i ≡ f i - 1)) ⊎ ((f i < v) × (without i ≡ f i)) → without i < n
      by_moved (inl (a, e)) = omega arith
      by_moved (inr (a, e)) = omega arith

  apart : (i j : ℕ) → (f i ≡ v → ⊥) → (f j ≡ v → ⊥) → without i ≡ without j → f i ≡ f j
  apart i j ne nf e = by_moved (moved i ne) (moved j nf)
    where
      by_moved : ((v < f i) × (without i ≡ f i - 1)) ⊎ ((f i < v) × (without i ≡ f i)) → ((v < f j) × (without j ≡ f j - 1)) ⊎ ((f j < v) × (without j ≡ f j)) → f i ≡ f j
      by_moved (inl (a, p)) (inl (b, q)) = omega arith
      by_moved (inl (a, p)) (inr (b, q)) = absurd (omega arith)
      by_moved (inr (a, p)) (inl (b, q)) = absurd (omega arith)
      by_moved (inr (a, p)) (inr (b, q)) = omega arith

-- n + 1 things in n places
abbrev pub Shared : (ℕ → ℕ) → ℕ → Type 0
Shared f n = (i : ℕ) × (j : ℕ) × (i < j) × (j ≤ n) × (f i ≡ f j)

pub pigeonhole : (n : ℕ) (f : ℕ → ℕ) → ((i : ℕ) → i ≤ n → f i < n) → Shared f n
pigeonhole zero f h = let z = h 0 (omega arith) in absurd (omega arith)
pigeonhole (suc n) f h = by_look (λ no_one. pigeonhole n (without f (f (suc n))) (λ i l. fewer f (f (suc n)) n i (h i (omega arith)) (h (suc n) (omega arith)) (no_one i (omega arith)))) (look f (f (suc n)) (suc n))
  where
    by_look : (((i : ℕ) → i < suc n → f i ≡ f (suc n) → ⊥) → Shared (without f (f (suc n))) n) → Found f (f (suc n)) (suc n) → Shared f (suc n)
    by_look rest (inl (i, l, e)) = (i, suc n, l, omega arith, e)
    by_look rest (inr no_one) =
        let (i, j, l, m, e) = rest no_one in
        (i, j, l, omega arith, apart f (f (suc n)) i j (no_one i (omega arith)) (no_one j (omega arith)) e)
