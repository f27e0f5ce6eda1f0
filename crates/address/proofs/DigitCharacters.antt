-- The digits as the code tells them: a test that antt computes over every octet; and octets of digits, two by two.
-- Assumes nothing.
use Prim.Native.Nat.{ℕ, zero, suc, ◌+◌, ◌-◌, ◌*◌, ◌/◌, ◌<◌, ◌≤◌}
use mathlib.Core.Path.{◌≡◌, refl, ◌∙◌}
use mathlib.Core.Bool.{Bool, true, false}
use mathlib.Core.List.{List, [], ◌∷◌, map}
use mathlib.Core.Logic.{◌↔◌}
use native.Mathlib.Omega.{arith}
use borrow.Author.Tests.{eqb-true, ltb-true, ltb-false, lt-ltb}
use lib.Dec.{eqb, ltb}
use lib.ListN.{length, get_or, drop, length-map}
use Rattle.std.specs.Prelude.{if◌then◌else◌, unwrap_or}
use Rattle.std.specs.Bool.{then_some}
use Rattle.octets.specs.Choice.{within}
use Rattle.octets.specs.SemiOctets.{in_pairs}
use Rattle.octets.specs.Texts.{codes}
use Rattle.octets.proofs.SemiOctets.{length_pairs}
use Rattle.octets.proofs.Table.{below}
use Rattle.gsm7.specs.Alphabet.{index_of}
use Rattle.address.specs.Writing.{digit_characters, digit_value, is_digit}

-- a place in a list is at most its length
index_small : (t : List ℕ) (x : ℕ) → index_of t x ≤ length t
unfolding index_of
index_small [] x = omega arith
index_small (y ∷ ys) x = by_test (eqb y x) (index_small ys x)
  where
    by_test : (t : Bool) → index_of ys x ≤ length ys → (if t then zero else suc (index_of ys x)) ≤ suc (length ys)
    by_test true h = omega arith
    by_test false h = omega arith

-- the value of a character by ranges
abbrev pub by_range : ℕ → ℕ
by_range c = if within 48 57 c then c - 48 else if within 97 99 c then c - 97 + 12 else if eqb c 42 then 10 else if eqb c 35 then 11 else 15

value_test : ℕ → Bool
value_test c = eqb (digit_value c) (by_range c)

pub value_by_range : (c : ℕ) → c < 256 → digit_value c ≡ by_range c
unfolding value_test digit_value digit_characters codes index_of
value_by_range c h = eqb-true _ _ (below value_test 256 refl c h)

-- a value is at most 15
pub value_small : (c : ℕ) → digit_value c ≤ 15
unfolding digit_value digit_characters codes
value_small c = index_small (codes "0123456789*#abc") c

-- a character is a digit exactly when its value isn't 15
pub digit_told : (c : ℕ) → (is_digit c ≡ true) ↔ (digit_value c ≡ 15 → ⊥)
unfolding is_digit
digit_told c = ((λ e p. let h = ltb-true (digit_value c) 15 e in omega arith), λ n. lt-ltb (digit_value c) 15 (omega (arith, value_small c)))

-- the value of a digit, 15 for what is none
pub value_or_f : (c : ℕ) → unwrap_or (then_some (is_digit c) (digit_value c)) 15 ≡ digit_value c
unfolding is_digit
value_or_f c = by (ltb (digit_value c) 15) refl
  where
    by : (t : Bool) → ltb (digit_value c) 15 ≡ t → unwrap_or (then_some t (digit_value c)) 15 ≡ digit_value c
    by true e = refl
    by false e = omega (arith, ltb-false (digit_value c) 15 e, value_small c)

-- the values of characters, one by one
pub value_at : (text : List ℕ) (i : ℕ) → i < length text → get_or (map digit_value text) i 15 ≡ digit_value (get_or text i 0)
value_at [] i h = absurd (omega arith)
value_at (c ∷ cs) zero h = refl
value_at (c ∷ cs) (suc i) h = value_at cs i (omega arith)

-- octets of semi-octets from octet j on: F stands where there are no more
pub pairs_next : (ds : List ℕ) (j : ℕ) → j < (length ds + 1) / 2 → drop j (in_pairs ds) ≡ (get_or ds (2 * j) 15 + 16 * get_or ds (2 * j + 1) 15) ∷ drop (j + 1) (in_pairs ds)
unfolding in_pairs
pairs_next [] j h = absurd (omega arith)
pairs_next (d ∷ []) zero h = refl
pairs_next (d ∷ []) (suc j) h = absurd (omega arith)
pairs_next (d ∷ e ∷ ds) zero h = refl
pairs_next (d ∷ e ∷ ds) (suc j) h =
    let p : 2 * suc j ≡ suc (suc (2 * j)) = omega arith in
    let q : suc (suc (2 * j)) + 1 ≡ suc (suc (2 * j + 1)) = omega arith in
    let r : suc j + 1 ≡ suc (j + 1) = omega arith in
    rw (p, q, r) (pairs_next ds j (omega arith))

-- a pair of digits takes an octet
pub digits_size : (text : List ℕ) → length (in_pairs (map digit_value text)) ≡ (length text + 1) / 2
digits_size text = length_pairs (map digit_value text) ∙ rw length-map
