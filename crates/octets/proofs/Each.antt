-- Every octet of a list: what a test of each says, and a loop that makes it from the first octet on.
-- Assumes nothing.
use Prim.Native.Nat.{ℕ, zero, suc, ◌+◌, ◌<◌, ◌≤◌}
use Rattle.std.specs.Prelude.{IsTrue, EachIndex, slice_index}
use mathlib.Core.Path.{◌≡◌, refl, sym}
use mathlib.Core.Bool.{Bool, true, false}
use mathlib.Core.List.{List, [], ◌∷◌}
use mathlib.Core.Logic.{◌↔◌}
use native.Mathlib.Nat.{not-suc-le-zero}
use native.Mathlib.Numerals.{add-one}
use native.Mathlib.Omega.{arith}
use borrow.Author.Tests.{ltb-true}
use lib.Dec.{ltb}
use lib.ListN.{length, take, drop, get_or, drop_of_length-le}
use lib.Seq.{drop-cons, get_or-drop}
use Rattle.octets.specs.Each.{Octets, each}
use Rattle.octets.proofs.Choice.{and_true}

module _ (test : ℕ → Bool) where
  each_at : (xs : List ℕ) → each test xs ≡ true → (i : ℕ) → i < length xs → test (get_or xs i 0) ≡ true
  unfolding each
  each_at [] e i h = absurd (not-suc-le-zero h)
  each_at (x ∷ xs) e zero h = (and_true (test x) (each test xs) e).0
  each_at (x ∷ xs) e (suc i) h = each_at xs (and_true (test x) (each test xs) e).1 i (omega arith)

  each_of : (xs : List ℕ) → ((i : ℕ) → i < length xs → test (get_or xs i 0) ≡ true) → each test xs ≡ true
  unfolding each
  each_of [] h = refl
  each_of (x ∷ xs) h = rw (h 0 (omega arith), each_of xs (λ i l. h (suc i) (omega arith)))

  -- each octet passes
  pub each_means : (xs : List ℕ) → (each test xs ≡ true) ↔ ((i : ℕ) → i < length xs → test (get_or xs i 0) ≡ true)
  each_means xs = (each_at xs, each_of xs)

  -- a truth that says so is the test of each
  pub each_decides : (xs : List ℕ) (b : Bool) → IsTrue b ↔ EachIndex xs (λ i. test (slice_index xs i) ≡ true) → b ≡ each test xs
  each_decides xs true h = sym (each_of xs (h.0 refl))
  each_decides xs false h = by (each test xs) refl
    where
      by : (t : Bool) → each test xs ≡ t → false ≡ t
      by true e = h.1 (each_at xs e)
      by false e = refl

  -- a loop has passed the first i octets: the rest decides
  module _ (xs : List ℕ) (i : ℕ) where
    pub each_next : i < length xs → test (get_or xs i 0) ≡ true → each test (drop i xs) ≡ each test (drop (i + 1) xs)
    unfolding each
    each_next h t = rw (add-one, drop-cons xs i 0 h, t)

    pub each_fails : i < length xs → test (get_or xs i 0) ≡ false → each test (drop i xs) ≡ false
    unfolding each
    each_fails h t = rw (drop-cons xs i 0 h, t)

    pub each_end : length xs ≤ i → each test (drop i xs) ≡ true
    unfolding each
    each_end h = rw (drop_of_length-le xs h)

-- ---- a bound of every element

-- every element is below n: octets for n = 256, semi-octets for n = 16
abbrev pub Below : ℕ → List ℕ → Type 0
Below n xs = (i : ℕ) → get_or xs i 0 < n

-- with one more in front, and of the first k
module _ (n : ℕ) where
  pub below_cons : (x : ℕ) (xs : List ℕ) → x < n → Below n xs → Below n (x ∷ xs)
  below_cons x xs h r zero = h
  below_cons x xs h r (suc i) = r i

  pub below_take : (k : ℕ) (xs : List ℕ) → 0 < n → Below n xs → Below n (take k xs)
  below_take zero xs p h = λ i. p
  below_take (suc k) [] p h = λ i. p
  below_take (suc k) (x ∷ xs) p h = below_cons x (take k xs) (h 0) (below_take k xs p (λ i. h (suc i)))

pub octets_take : (k : ℕ) (s : List ℕ) → Octets s → Octets (take k s)
octets_take k s o = below_take 256 k s (omega arith) o

pub octets_drop : (k : ℕ) (s : List ℕ) → Octets s → Octets (drop k s)
octets_drop k s o i = rw get_or-drop (o (k + i))

-- by a test of each
pub octets_tested : (s : List ℕ) → each (λ x. ltb x 256) s ≡ true → Octets s
unfolding each
octets_tested [] e i = omega arith
octets_tested (x ∷ s) e i = let (t, r) = and_true (ltb x 256) (each (λ x. ltb x 256) s) e in below_cons 256 x s (ltb-true x 256 t) (octets_tested s r) i
