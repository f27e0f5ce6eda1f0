-- The first place that passes a test.
-- Assumes nothing.
use Prim.Native.Nat.{ℕ, zero, suc, ◌+◌, ◌≤◌, ◌<◌}
use mathlib.Core.Path.{◌≡◌, refl, sym, ◌∙◌}
use mathlib.Core.Bool.{Bool, true, false}
use native.Mathlib.Nat.{add-zero}
use native.Mathlib.Omega.{arith}
use borrow.Author.Tests.{eqb-true, eqb-false}
use lib.Dec.{eqb}
use Rattle.std.specs.Prelude.{if◌then◌else◌}
use Rattle.message_store.specs.Store.{first}

-- true is not false
pub true_false : {B : Type 0} {t : Bool} → t ≡ true → t ≡ false → B
true_false p q = let z : ◌≡◌ {A = ℕ} 0 1 = cc in absurd (omega arith)

module _ (p : ℕ → Bool) where
  -- a loop goes on, or ends
  pub first_next : (n k : ℕ) → p k ≡ false → first p (suc n) k ≡ first p n (suc k)
  unfolding first
  first_next n k e = rw e

  pub first_here : (n k : ℕ) → p k ≡ true → first p (suc n) k ≡ k
  unfolding first
  first_here n k e = rw e

  -- where it is, and what holds there and before it
  pub first_bounds : (n k : ℕ) → (k ≤ first p n k) × (first p n k ≤ k + n)
  unfolding first
  first_bounds zero k = (omega arith, omega arith)
  first_bounds (suc n) k = by_test (first_bounds n (suc k)) (p k)
    where
      by_test : (suc k ≤ first p n (suc k)) × (first p n (suc k) ≤ suc k + n) → (t : Bool) → (k ≤ (if t then k else first p n (suc k))) × ((if t then k else first p n (suc k)) ≤ k + suc n)
      by_test ih true = (omega arith, omega arith)
      by_test ih false = (omega (arith, ih.0), omega (arith, ih.1))

  pub first_passes : (n k : ℕ) → first p n k < k + n → p (first p n k) ≡ true
  unfolding first
  first_passes zero k h = absurd (omega arith)
  first_passes (suc n) k h = by_test (λ (h : first p n (suc k) < suc k + n). first_passes n (suc k) h) (p k) refl h
    where
      by_test : (first p n (suc k) < suc k + n → p (first p n (suc k)) ≡ true) → (t : Bool) → p k ≡ t → (if t then k else first p n (suc k)) < k + suc n → p (if t then k else first p n (suc k)) ≡ true
      by_test ih true e h = e
      by_test ih false e h = ih (omega arith)

  pub first_before : (n k j : ℕ) → k ≤ j → j < first p n k → p j ≡ false
  unfolding first
  first_before zero k j a b = absurd (omega arith)
  first_before (suc n) k j a b = by_test (λ (a : suc k ≤ j) (b : j < first p n (suc k)). first_before n (suc k) j a b) (p k) refl b (eqb k j) refl
    where
      by_test : (suc k ≤ j → j < first p n (suc k) → p j ≡ false) → (t : Bool) → p k ≡ t → j < (if t then k else first p n (suc k)) → (u : Bool) → eqb k j ≡ u → p j ≡ false
      by_test ih true e b u q = absurd (omega arith)
      by_test ih false e b true q = rw (← eqb-true k j q) e
      by_test ih false e b false q = let ne = eqb-false k j q in ih (omega arith) b

  -- what it is, by what holds
  pub first_none : (n k : ℕ) → ((j : ℕ) → k ≤ j → j < k + n → p j ≡ false) → first p n k ≡ k + n
  unfolding first
  first_none zero k h = sym (add-zero k)
  first_none (suc n) k h = rw (h k (omega arith) (omega arith), first_none n (suc k) (λ j a b. h j (omega arith) (omega arith))) (omega arith)

  pub first_is : (n k j : ℕ) → k ≤ j → j < k + n → p j ≡ true → ((i : ℕ) → k ≤ i → i < j → p i ≡ false) → first p n k ≡ j
  first_is zero k j a b e h = absurd (omega arith)
  first_is (suc n) k j a b e h = by_place (λ (a : suc k ≤ j). first_is n (suc k) j a (omega arith) e (λ i c d. h i (omega arith) d)) (eqb k j) refl
    where
      by_place : (suc k ≤ j → first p n (suc k) ≡ j) → (t : Bool) → eqb k j ≡ t → first p (suc n) k ≡ j
      by_place ih true q = let is = eqb-true k j q in first_here n k (rw is e) ∙ is
      by_place ih false q = let ne = eqb-false k j q in first_next n k (h k (omega arith) (omega arith)) ∙ ih (omega arith)

-- equal tests
module _ (p q : ℕ → Bool) where
  pub first_same : (n k : ℕ) → ((j : ℕ) → k ≤ j → j < k + n → p j ≡ q j) → first p n k ≡ first q n k
  unfolding first
  first_same zero k h = refl
  first_same (suc n) k h = rw (h k (omega arith) (omega arith), first_same n (suc k) (λ j a b. h j (omega arith) (omega arith)))
