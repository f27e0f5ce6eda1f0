-- A number's groups are the only ones it has, and are read as the number; what is read as a number is its groups.
-- Assumes nothing.
use Prim.Native.Nat.{ℕ, zero, suc, ◌+◌, ◌-◌, ◌*◌, ◌/◌, ◌%◌, ◌<◌, ◌≤◌}
use mathlib.Core.Path.{◌≡◌, refl, sym, ◌∙◌, ap, subst}
use mathlib.Core.Bool.{Bool, true, false}
use mathlib.Core.List.{List, [], ◌∷◌, ◌++◌}
use mathlib.Core.Option.{Option, none, some}
use native.Mathlib.Omega.{arith}
use native.Mathlib.Nat.{not-suc-le-zero}
use borrow.Author.Tests.{lt-ltb, le-ltb, ltb-true, ltb-false}
use lib.Dec.{ltb}
use lib.ListN.{length}
use Rattle.std.specs.Prelude.{if◌then◌else◌}
use Rattle.octets.specs.Each.{Octets}
use Rattle.columns.specs.Numbers.{Groups, last, more, groups_within, groups, before, number_at}

-- the groups of a number are groups of it
groups_within_lem : (k n : ℕ) → n ≤ k → Groups n (groups_within k n)
unfolding groups_within
groups_within_lem zero n h = last {n = n} (omega arith)
groups_within_lem (suc k) n h = by_test (ltb n 128) refl (λ l. groups_within_lem k (n / 128) l)
  where
    by_test : (t : Bool) → ltb n 128 ≡ t → (n / 128 ≤ k → Groups (n / 128) (groups_within k (n / 128)))
        → Groups n (if t then n ∷ [] else (128 + n % 128) ∷ groups_within k (n / 128))
    by_test true e r = last (ltb-true _ _ e)
    by_test false e r =
        let l : 128 ≤ n = ltb-false _ _ e in
        let i : n / 128 * 128 + n % 128 ≡ n = omega arith in
        subst (λ (m : ℕ). Groups m ((128 + n % 128) ∷ groups_within k (n / 128))) i (more {g = n % 128} {n = n / 128} (omega arith) (omega arith) (r (omega arith)))

pub groups_are : (n : ℕ) → Groups n (groups n)
groups_are n = groups_within_lem n n (omega arith)

-- and the only ones
within_once : {n : ℕ} {os : List ℕ} → Groups n os → (k : ℕ) → n ≤ k → os ≡ groups_within k n
unfolding groups_within
within_once (last l) zero h = refl
within_once (last {n} l) (suc k) h = rw (lt-ltb n 128 l)
within_once (more {g} {n} {os} l p r) zero h = absurd (omega arith)
within_once (more {g} {n} {os} l p r) (suc k) h =
    let under : 128 ≤ n * 128 + g = omega arith in
    let e₁ : (n * 128 + g) % 128 ≡ g = omega arith in
    let e₂ : (n * 128 + g) / 128 ≡ n = omega arith in
    rw (le-ltb (n * 128 + g) 128 under, e₁, e₂) (ap (λ (l : List ℕ). (128 + g) ∷ l) (within_once r k (omega arith)))

pub groups_once : {n : ℕ} {os : List ℕ} → Groups n os → os ≡ groups n
groups_once {n} r = within_once r n (omega arith)

-- groups are read as their number
before_some : (g n : ℕ) (rest : List ℕ) → 0 < n → before g (some (n, rest)) ≡ some (n * 128 + g, rest)
before_some g zero rest h = absurd (not-suc-le-zero h)
before_some g (suc n) rest h = refl

groups_read : {n : ℕ} {os : List ℕ} → Groups n os → (rest : List ℕ) → number_at (os ++ rest) ≡ some (n, rest)
unfolding number_at
groups_read (last {n} l) rest = rw (lt-ltb n 128 l)
groups_read (more {g} {n} {os} l p r) rest =
    let over : 128 ≤ 128 + g = omega arith in
    let e : 128 + g - 128 ≡ g = omega arith in
    rw (le-ltb (128 + g) 128 over, groups_read r rest, e) (before_some g n rest p)

pub read_groups : (n : ℕ) (rest : List ℕ) → number_at (groups n ++ rest) ≡ some (n, rest)
read_groups n rest = groups_read (groups_are n) rest

-- what is read as a number is its groups
At : List ℕ → ℕ → List ℕ → Type 0
At os n rest = (gs : List ℕ) × Groups n gs × (os ≡ gs ++ rest)

at_number : (os : List ℕ) → Octets os → (n : ℕ) (rest : List ℕ) → number_at os ≡ some (n, rest) → At os n rest
unfolding number_at At
at_number [] o n rest e = let z : ◌≡◌ {A = ℕ} 0 1 = cc in absurd (omega arith)
at_number (x ∷ os) o n rest e = by_test (ltb x 128) refl (number_at os) refl (λ m r q. at_number os (λ i. o (suc i)) m r q) e
  where
    on : (m : ℕ) (r : List ℕ) → ltb x 128 ≡ false → (m ≡ 0 → ⊥) → ◌≡◌ {A = Option (ℕ × List ℕ)} (some (m * 128 + (x - 128), r)) (some (n, rest)) → At os m r → At (x ∷ os) n rest
    on m r l p e a =
        let q : ◌≡◌ {A = ℕ × List ℕ} (m * 128 + (x - 128), r) (n, rest) = cc in
        let en : m * 128 + (x - 128) ≡ n = ap (λ (y : ℕ × List ℕ). y.0) q in
        let er : r ≡ rest = ap (λ (y : ℕ × List ℕ). y.1) q in
        let big : 128 ≤ x = ltb-false x 128 l in
        let ex : 128 + (x - 128) ≡ x = omega arith in
        (x ∷ a.0, subst (λ (k : ℕ). Groups k (x ∷ a.0)) en (rw ex at (more {g = x - 128} {n = m} (omega (arith, o 0)) (omega arith) a.1)), ap (λ (l : List ℕ). x ∷ l) (a.2 ∙ rw er))

    by_test : (t : Bool) → ltb x 128 ≡ t → (s : Option (ℕ × List ℕ)) → number_at os ≡ s → ((m : ℕ) (r : List ℕ) → number_at os ≡ some (m, r) → At os m r)
        → (if t then some (x, os) else before (x - 128) s) ≡ some (n, rest) → At (x ∷ os) n rest
    by_test true l s q ih e =
        let p : ◌≡◌ {A = ℕ × List ℕ} (x, os) (n, rest) = cc in
        let en : x ≡ n = ap (λ (y : ℕ × List ℕ). y.0) p in
        let er : os ≡ rest = ap (λ (y : ℕ × List ℕ). y.1) p in
        (x ∷ [], subst (λ (k : ℕ). Groups k (x ∷ [])) en (last (ltb-true _ _ l)), ap (λ (l : List ℕ). x ∷ l) er)
    by_test false l none q ih e = let z : ◌≡◌ {A = ℕ} 0 1 = cc in absurd (omega arith)
    by_test false l (some (zero, r)) q ih e = let z : ◌≡◌ {A = ℕ} 0 1 = cc in absurd (omega arith)
    by_test false l (some (suc m, r)) q ih e = on (suc m) r l (λ p. omega arith) e (ih (suc m) r q)

pub number_is : (os : List ℕ) → Octets os → (n : ℕ) (rest : List ℕ) → number_at os ≡ some (n, rest) → os ≡ groups n ++ rest
unfolding At
number_is os o n rest e = let a = at_number os o n rest e in a.2 ∙ ap (λ (l : List ℕ). l ++ rest) (groups_once a.1)

-- ---- a number of at most two groups

pub groups_one : (n : ℕ) → n < 128 → groups n ≡ n ∷ []
groups_one n h = sym (groups_once (last h))

pub groups_two : (n : ℕ) → 128 ≤ n → n < 16384 → groups n ≡ (128 + n % 128) ∷ (n / 128) ∷ []
groups_two n h l =
    let i : n / 128 * 128 + n % 128 ≡ n = omega arith in
    let is : Groups n ((128 + n % 128) ∷ (n / 128) ∷ []) = subst (λ (m : ℕ). Groups m ((128 + n % 128) ∷ (n / 128) ∷ [])) i (more {g = n % 128} {n = n / 128} (omega arith) (omega arith) (last (omega arith))) in
    sym (groups_once is)

pub groups_few : (n : ℕ) → n < 16384 → length (groups n) ≤ 2
groups_few n l = by_test (ltb n 128) refl
  where
    by_test : (t : Bool) → ltb n 128 ≡ t → length (groups n) ≤ 2
    by_test true e = rw (groups_one n (ltb-true n 128 e)) (omega arith)
    by_test false e = rw (groups_two n (ltb-false n 128 e) l) (omega arith)

-- what octets start with, by the first and the second
pub no_number : number_at [] ≡ none
unfolding number_at
no_number = refl

module _ (x : ℕ) where
  pub one_group : (os : List ℕ) → x < 128 → number_at (x ∷ os) ≡ some (x, os)
  unfolding number_at
  one_group os h = rw (lt-ltb x 128 h)

  module _ (follows : 128 ≤ x) where
    pub group_missing : number_at (x ∷ []) ≡ none
    unfolding number_at
    group_missing = rw (le-ltb x 128 follows)

    pub group_needless : (os : List ℕ) → number_at (x ∷ 0 ∷ os) ≡ none
    unfolding number_at
    group_needless os = rw (le-ltb x 128 follows)

    pub two_groups : (y : ℕ) (os : List ℕ) → 0 < y → y < 128 → number_at (x ∷ y ∷ os) ≡ some (y * 128 + (x - 128), os)
    unfolding number_at
    two_groups y os p h = rw (le-ltb x 128 follows, lt-ltb y 128 h) (before_some (x - 128) y os p)

    -- three groups are 16,384 at least
    pub three_groups : (y : ℕ) (os : List ℕ) → 128 ≤ y → (n : ℕ) (rest : List ℕ) → number_at (x ∷ y ∷ os) ≡ some (n, rest) → 16384 ≤ n
    unfolding number_at
    three_groups y os h n rest e = by_others (number_at os) (rw (le-ltb x 128 follows, le-ltb y 128 h) at e)
      where
        by_others : (s : Option (ℕ × List ℕ)) → before (x - 128) (before (y - 128) s) ≡ some (n, rest) → 16384 ≤ n
        by_others none e = let z : ◌≡◌ {A = ℕ} 0 1 = cc in absurd (omega arith)
        by_others (some (zero, r)) e = let z : ◌≡◌ {A = ℕ} 0 1 = cc in absurd (omega arith)
        by_others (some (suc m, r)) e =
            let is = sym (before_some (x - 128) (suc m * 128 + (y - 128)) r (omega arith)) ∙ e in
            let both : ◌≡◌ {A = ℕ × List ℕ} ((suc m * 128 + (y - 128)) * 128 + (x - 128), r) (n, rest) = cc in
            let en : (suc m * 128 + (y - 128)) * 128 + (x - 128) ≡ n = ap (λ (y : ℕ × List ℕ). y.0) both in
            omega arith
