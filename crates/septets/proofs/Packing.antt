-- Packing eight septets to seven octets at a time: what is left are the septets after them, after the bits that are over.
-- Assumes nothing.
use Prim.Native.Nat.{ℕ, zero, suc, ◌+◌, ◌-◌, ◌*◌, ◌/◌, ◌%◌, ◌^◌, ◌<◌, ◌≤◌}
use mathlib.Core.Path.{◌≡◌, refl, sym, ap, ◌∙◌}
use mathlib.Core.List.{List, [], ◌∷◌, ◌++◌}
use native.Mathlib.Omega.{arith}
use native.Mathlib.Nat.{le_of_suc-le-suc, not-suc-le-zero, mul-zero, mul-suc, lt_of_lt_of_le, zero-add, add-zero, add_assoc, add_comm, add-mul, mul_assoc, mul_comm}
use lib.Arith.{digits_lt}
use lib.ListN.{get_or, length, take, drop, length-drop}
use lib.Pow.{pow-add, pow_mono}
use lib.Seq.{drop-drop}
use Rattle.std.specs.Simd.{first_chunks}
use Rattle.std.proofs.lemmas.List.{drop-append-le, take-append-le}
use Rattle.septets.specs.Septets.{number_of, lowest_digits, Digits, octet_count, packed_septets}
use Rattle.septets.proofs.Inverse.{number_lt}
use Rattle.septets.proofs.Number.{number_parts, digits_parts, digits_drop, length_digits}

-- the octets of septets after f bits that hold c
unfoldable pub packed_over : ℕ → ℕ → List ℕ → List ℕ
packed_over f c ss = lowest_digits 8 (octet_count f (length ss)) (number_of 7 ss * 2 ^ f + c)

pub packed_start : (f : ℕ) (ss : List ℕ) → packed_septets f ss ≡ packed_over f 0 ss
unfolding packed_septets packed_over
packed_start f ss = rw add-zero

regroup : (h p l q c : ℕ) → (h * p + l) * q + c ≡ h * q * p + (l * q + c)
regroup h p l q c = ap (λ (x : ℕ). x + c) (add-mul (h * p) l q) ∙ add_assoc _ _ _ ∙ ap (λ (x : ℕ). x + (l * q + c)) (mul_assoc h p q ∙ ap (λ (x : ℕ). h * x) (mul_comm p q) ∙ sym (mul_assoc h q p))

-- at most eight septets after f bits that hold c
module _ (ss : List ℕ) (h : Digits 7 ss) (few : length ss ≤ 8) where
  pub septets_lt : number_of 7 ss < 2 ^ 56
  septets_lt = lt_of_lt_of_le (number_lt 7 ss h) (pow_mono {j = 56} (omega arith))

  pub window_lt : (f c : ℕ) → c < 2 ^ f → number_of 7 ss * 2 ^ f + c < 2 ^ (f + 56)
  window_lt f c small = rw (add_comm f 56, pow-add) (digits_lt septets_lt small)

-- seven octets of a window, and the eighth
pub eight_digits : (x : ℕ) → lowest_digits 8 8 x ≡ lowest_digits 8 7 x ++ x / 2 ^ 56 % 2 ^ 8 ∷ []
unfolding lowest_digits
eight_digits x = simp zero-add at (digits_parts 8 7 1 0 x)

module _ (f c : ℕ) (ss : List ℕ) (i : ℕ) where
  pub packed_step : Digits 7 ss → i + 8 ≤ length ss → let x = number_of 7 (take 8 (drop i ss)) * 2 ^ f + c in
      packed_over f c (drop i ss) ≡ lowest_digits 8 7 x ++ packed_over f (x / 2 ^ 56) (drop (i + 8) ss)
  unfolding packed_over
  packed_step h there =
      let x = number_of 7 (take 8 (drop i ss)) * 2 ^ f + c in
      let rest = drop (i + 8) ss in
      let count : octet_count f (length (drop i ss)) ≡ 7 + octet_count f (length rest) = omega (arith, length-drop i ss, length-drop (i + 8) ss) in
      let number : number_of 7 (drop i ss) * 2 ^ f + c ≡ number_of 7 rest * 2 ^ f * 2 ^ 56 + x =
      ap (λ (y : ℕ). y * 2 ^ f + c) (number_parts 7 8 (drop i ss) (digits_drop 7 i ss h) ∙ rw drop-drop) ∙ regroup _ _ _ _ _ in
      rw (count, number) (digits_parts 8 7 _ (number_of 7 rest * 2 ^ f) x)

-- the octets of the last septets
module _ (f c : ℕ) (ss : List ℕ) where
  pub packed_last : lowest_digits 8 (octet_count f (length ss)) (number_of 7 ss * 2 ^ f + c) ≡ packed_over f c ss
  unfolding packed_over
  packed_last = refl

  pub length_over : length (packed_over f c ss) ≡ octet_count f (length ss)
  unfolding packed_over
  length_over = length_digits 8 _ _

-- the chunks of a list
pub chunk_at : (n k : ℕ) (xs : List ℕ) (i : ℕ) → i < k → get_or (first_chunks n k xs) i [] ≡ take n (drop (n * i) xs)
chunk_at n zero xs i h = absurd (not-suc-le-zero h)
chunk_at n (suc k) xs zero h = rw mul-zero
chunk_at n (suc k) xs (suc i) h = chunk_at n k (drop n xs) i (le_of_suc-le-suc h) ∙ rw (drop-drop, mul-suc, add_comm n (n * i))

-- eight septets of the front, which ends before the last septet
pub record Eight (ss : List ℕ) (eights : List (List ℕ)) (i : ℕ) : Type 0 where
  pub is : get_or eights i [] ≡ take 8 (drop (8 * i) ss)
  pub more : 8 * i + 8 < length ss

pub eight_at : (ss front back : List ℕ) {eights : List (List ℕ)} → ss ≡ front ++ back → length front ≡ (length ss - 1) / 8 * 8
    → eights ≡ first_chunks 8 (length front / 8) front → length eights ≡ length front / 8 → (i : ℕ) → i < length eights → Eight ss eights i
eight_at ss front back cut size are many i h =
    let chunk = chunk_at 8 (length front / 8) front i (omega arith) in
    let same = drop-append-le (8 * i) front back (omega arith) in
    let within = take-append-le 8 (drop (8 * i) front) back (rw length-drop (omega arith)) in
    record { is = rw are (chunk ∙ sym (rw (cut, same) within)); more = omega arith }
