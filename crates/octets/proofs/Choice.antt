-- What the outcome of a choice by a test, of two tests together, and of a test of a range tells; and a test of both values of a flag.
-- Assumes nothing.
use Prim.Native.Nat.{ℕ, ◌≤◌}
use mathlib.Core.Path.{◌≡◌, refl, sym}
use mathlib.Core.Bool.{Bool, true, false, not, ◌&&◌, ◌||◌, false≢true, true≢false}
use mathlib.Core.Logic.{◌⊎◌, inl, inr, ⊎_elim, ◌↔◌}
use borrow.Author.Tests.{le-leb, leb-true}
use lib.Dec.{leb}
use Rattle.std.specs.Prelude.{if◌then◌else◌}
use Rattle.octets.specs.Choice.{within}

pub chosen : {A : Type 0} {x y z : A} (test : Bool) → if test then x else y ≡ z → ((test ≡ true) × (x ≡ z)) ⊎ ((test ≡ false) × (y ≡ z))
chosen true e = inl (refl, e)
chosen false e = inr (refl, e)

pub and_true : (a b : Bool) → (a && b) ≡ true → (a ≡ true) × (b ≡ true)
and_true true b e = (refl, e)
and_true false b e = absurd (false≢true e)

pub or_false : (a b : Bool) → (a || b) ≡ false → (a ≡ false) × (b ≡ false)
or_false false b e = (refl, e)
or_false true b e = absurd (true≢false e)

-- a test passes for both values of a flag
abbrev pub both : (Bool → Bool) → Bool
both test = test true && test false

pub both_holds : (test : Bool → Bool) → both test ≡ true → (b : Bool) → test b ≡ true
both_holds test e true = (and_true (test true) (test false) e).0
both_holds test e false = (and_true (test true) (test false) e).1

-- two flags are the same
abbrev pub same : Bool → Bool → Bool
same true b = b
same false b = not b

pub same_is : (a b : Bool) → same a b ≡ true → b ≡ a
same_is true true e = refl
same_is true false e = e
same_is false true e = sym e
same_is false false e = refl

-- a test in plain terms, from the tests that it is made of
pub leb_means : (m n : ℕ) → (leb m n ≡ true) ↔ (m ≤ n)
leb_means m n = (leb-true m n, le-leb m n)

module _ {P Q : Type 0} where
  pub and_means : (a b : Bool) → ((a ≡ true) ↔ P) → ((b ≡ true) ↔ Q) → ((a && b) ≡ true) ↔ (P × Q)
  and_means a b p q = (λ e. let t = and_true a b e in (p.0 t.0, q.0 t.1), λ h. rw (p.1 h.0, q.1 h.1))

  pub or_means : (a b : Bool) → ((a ≡ true) ↔ P) → ((b ≡ true) ↔ Q) → ((a || b) ≡ true) ↔ (P ⊎ Q)
  or_means true b p q = (λ e. inl (p.0 refl), λ h. refl)
  or_means false b p q = (λ e. inr (q.0 e), ⊎_elim (λ h. absurd (false≢true (p.1 h))) (λ h. q.1 h))

pub within_means : (lo hi n : ℕ) → (within lo hi n ≡ true) ↔ ((lo ≤ n) × (n ≤ hi))
within_means lo hi n = and_means _ _ (leb_means lo n) (leb_means n hi)
