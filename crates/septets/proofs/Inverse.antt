-- Unpacking what packing made gives the same septets, and digits and number are each other's inverse.
-- Assumes nothing.
use Prim.Native.Nat.{ℕ, zero, suc, ◌+◌, ◌*◌, ◌/◌, ◌%◌, ◌^◌, ◌<◌}
use mathlib.Core.Path.{◌≡◌, refl, sym, ap₂}
use mathlib.Core.List.{List, [], ◌∷◌}
use native.Mathlib.Nat.{mul-suc, mul-zero, mod-one, mod-eq_of_lt, lt_of_lt_of_le, mod-lt}
use native.Mathlib.Omega.{arith}
use lib.Arith.{digits_lt}
use lib.ListN.{length}
use lib.Pow.{pow-add, mod-pow-add, high, low, shl_lt, shl-shr, pow_mono, pow_pos}
use Rattle.septets.specs.Septets.{number_of, lowest_digits, Digits, septets_in, packed_septets, octet_count, header_septets, fill_bits}
use Rattle.septets.proofs.Number.{length_digits}

module _ (w : ℕ) where
  -- the digits of the number with these digits
  digits_number : (ds : List ℕ) → Digits w ds → lowest_digits w (length ds) (number_of w ds) ≡ ds
  unfolding lowest_digits number_of
  digits_number [] h = refl
  digits_number (d ∷ ds) h = ap₂ ◌∷◌ (low (number_of w ds) w (h 0)) (rw (high (number_of w ds) w (h 0)) (digits_number ds (λ i. h (suc i))))

  -- the number with a number's n lowest digits
  number_digits : (n x : ℕ) → number_of w (lowest_digits w n x) ≡ x % 2 ^ (w * n)
  unfolding lowest_digits number_of
  number_digits zero x = rw mul-zero (sym (mod-one x))
  number_digits (suc n) x = rw (mul-suc, mod-pow-add, number_digits n (x / 2 ^ w))

  pub number_lt : (ds : List ℕ) → Digits w ds → number_of w ds < 2 ^ (w * length ds)
  unfolding number_of
  number_lt [] h = rw mul-zero (omega arith)
  number_lt (d ∷ ds) h = rw (mul-suc, pow-add) (digits_lt (number_lt ds (λ i. h (suc i))) (h 0))

  -- digits are digits
  pub digits_of : (n x : ℕ) → Digits w (lowest_digits w n x)
  unfolding lowest_digits
  digits_of zero x i = pow_pos w
  digits_of (suc n) x zero = mod-lt x (pow_pos w)
  digits_of (suc n) x (suc i) = digits_of n (x / 2 ^ w) i

-- septets → octets → septets, for every number of fill bits
pub unpack_pack : (f : ℕ) (ss : List ℕ) → Digits 7 ss → septets_in (packed_septets f ss) f (length ss) ≡ ss
unfolding septets_in packed_septets
unpack_pack f ss h =
    let n = length ss in
    let small : number_of 7 ss * 2 ^ f < 2 ^ (8 * octet_count f n) =
    lt_of_lt_of_le (shl_lt (7 * n) f (number_lt 7 ss h)) (pow_mono (omega arith)) in
    rw (number_digits, mod-eq_of_lt small, shl-shr) (digits_number 7 ss h)

pub length_packed : (f : ℕ) (ss : List ℕ) → length (packed_septets f ss) ≡ octet_count f (length ss)
unfolding packed_septets
length_packed f ss = length_digits 8 _ _

pub length_septets : (os : List ℕ) (f n : ℕ) → length (septets_in os f n) ≡ n
unfolding septets_in
length_septets os f n = length_digits 7 n _

pub septets_septets : (os : List ℕ) (f n : ℕ) → Digits 7 (septets_in os f n)
unfolding septets_in
septets_septets os f n = digits_of 7 n _

-- a header and n septets of text after it take as many octets as their septets together
pub octets_with_header : (h n : ℕ) → h + octet_count (fill_bits h) n ≡ octet_count 0 (header_septets h + n)
octets_with_header h n = omega arith

pub fill_small : (h : ℕ) → fill_bits h < 7
fill_small h = omega arith
