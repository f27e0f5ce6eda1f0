-- A field of bits of a number lies in neighbouring digits, for any digit width; and a number and its digits in two parts.
-- Assumes nothing.
use Prim.Native.Nat.{ℕ, zero, suc, ◌+◌, ◌*◌, ◌/◌, ◌%◌, ◌^◌, ◌≤◌, ◌-◌}
use mathlib.Core.Path.{◌≡◌, refl, sym, ◌∙◌, ap}
use mathlib.Core.List.{List, [], ◌∷◌, ◌++◌}
use native.Mathlib.Nat.{le_of_suc-le-suc, not-suc-le-zero, mod-one, add_assoc, zero-add, zero-div, zero-mod, div-one, mul-zero, mul-suc, add_comm, div-add-mod, mul_assoc, mul-one, suc-add, mul-add-div_right, add-mul-mod_self_right}
use native.Mathlib.Omega.{arith}
use lib.ListN.{length, take, drop}
use lib.Pow.{split, pow-add, field, mod-mod-pow, mod-pow-add, shr-shr, high, low, pow_pos}
use lib.Seq.{get_or-drop}
use Rattle.std.specs.Int.{w64, to_le_bytes}
use Rattle.septets.specs.Septets.{number_of, lowest_digits, Digits}

module _ (w : ℕ) where
  pub digits_drop : (n : ℕ) (ds : List ℕ) → Digits w ds → Digits w (drop n ds)
  digits_drop n ds h i = rw get_or-drop (h (n + i))

  pub digits_take : (n : ℕ) (ds : List ℕ) → Digits w ds → Digits w (take n ds)
  digits_take zero ds h i = pow_pos w
  digits_take (suc n) [] h i = h i
  digits_take (suc n) (d ∷ ds) h zero = h 0
  digits_take (suc n) (d ∷ ds) h (suc i) = digits_take n ds (λ j. h (suc j)) i

  -- the number without its i lowest digits
  pub number_drop : (i : ℕ) (ds : List ℕ) → Digits w ds → number_of w ds / 2 ^ (w * i) ≡ number_of w (drop i ds)
  unfolding number_of
  number_drop zero ds h = rw mul-zero (div-one _)
  number_drop (suc i) [] h = zero-div _
  number_drop (suc i) (d ∷ ds) h =
      let e : w * suc i ≡ w + w * i = mul-suc w i ∙ add_comm _ _ in
      rw (e, ← shr-shr, high (number_of w ds) w (h 0)) (number_drop i ds (λ j. h (suc j)))

  -- the number of its n lowest digits
  number_take : (n : ℕ) (ds : List ℕ) → Digits w ds → number_of w (take n ds) ≡ number_of w ds % 2 ^ (w * n)
  unfolding number_of
  number_take zero ds h = rw mul-zero (sym (mod-one _))
  number_take (suc n) [] h = sym (zero-mod _)
  number_take (suc n) (d ∷ ds) h =
      rw (mul-suc, mod-pow-add, low (number_of w ds) w (h 0), high (number_of w ds) w (h 0), ← number_take n ds (λ i. h (suc i)))

  -- its digits in two parts
  pub number_parts : (n : ℕ) (ds : List ℕ) → Digits w ds → number_of w ds ≡ number_of w (drop n ds) * 2 ^ (w * n) + number_of w (take n ds)
  number_parts n ds h = rw (← number_drop n ds h, number_take n ds h) (sym (split (number_of w ds) (w * n)))

-- bits s to s + v - 1 of a number depend on its u lowest, u at least s + v
low_bits : (x s v u : ℕ) → v + s ≤ u → x / 2 ^ s % 2 ^ v ≡ x % 2 ^ u / 2 ^ s % 2 ^ v
low_bits x s v u h =
    let e : (u - (v + s)) + (v + s) ≡ u = omega arith in
    sym (field x v s) ∙ ap (λ (m : ℕ). m / 2 ^ s) (sym (mod-mod-pow x (u - (v + s)) (v + s)) ∙ ap (λ (k : ℕ). x % 2 ^ k % 2 ^ (v + s)) e)
    ∙ field (x % 2 ^ u) v s

-- v bits from bit b + k on lie in the n digits from that of bit b on
pub in_window_lem : (w v n : ℕ) → (ds : List ℕ) → Digits w ds → (b k : ℕ) → v + (b % w + k) ≤ w * n
    → number_of w ds / 2 ^ (b + k) % 2 ^ v ≡ number_of w (take n (drop (b / w) ds)) / 2 ^ (b % w) / 2 ^ k % 2 ^ v
in_window_lem w v n ds h b k wide =
    let i = b / w in
    let s = b % w in
    let e : w * i + (s + k) ≡ b + k = sym (add_assoc _ _ _) ∙ ap (λ (x : ℕ). x + k) (div-add-mod b w) in
    ap (λ (x : ℕ). number_of w ds / 2 ^ x % 2 ^ v) (sym e)
    ∙ rw (← shr-shr, number_drop w i ds h, shr-shr, number_take w n (drop i ds) (digits_drop w i ds h)) (low_bits (number_of w (drop i ds)) (s + k) v (w * n) wide)

-- one digit more
pub digits_step : (w n x k : ℕ) → lowest_digits w (suc n) (x / 2 ^ k) ≡ x / 2 ^ k % 2 ^ w ∷ lowest_digits w n (x / 2 ^ (k + w))
unfolding lowest_digits
digits_step w n x k = rw shr-shr

pub length_digits : (w n x : ℕ) → length (lowest_digits w n x) ≡ n
unfolding lowest_digits
length_digits w zero x = refl
length_digits w (suc n) x = ap suc (length_digits w n (x / 2 ^ w))

-- the n lowest digits and those after them; what is a multiple of their power goes to the latter
pub digits_parts : (w n m a x : ℕ) → lowest_digits w (n + m) (a * 2 ^ (w * n) + x) ≡ lowest_digits w n x ++ lowest_digits w m (a + x / 2 ^ (w * n))
unfolding lowest_digits
digits_parts w zero m a x = rw (mul-zero, zero-add, mul-one, div-one)
digits_parts w (suc n) m a x =
    let k = 2 ^ w in
    let up : a * 2 ^ (w * suc n) + x ≡ a * 2 ^ (w * n) * k + x = rw (mul-suc, pow-add, mul_assoc) in
    let down : x / 2 ^ (w * suc n) ≡ x / k / 2 ^ (w * n) = rw (mul-suc, add_comm, shr-shr) in
    rw (up, down, suc-add, mul-add-div_right (pow_pos w), add_comm (a * 2 ^ (w * n) * k) x, add-mul-mod_self_right) (ap (λ ds. x % k ∷ ds) (digits_parts w n m a (x / k)))

-- the first of its n lowest digits
pub digits_first : (w n m x : ℕ) → n ≤ m → take n (lowest_digits w m x) ≡ lowest_digits w n x
unfolding lowest_digits
digits_first w zero m x h = refl
digits_first w (suc n) zero x h = absurd (not-suc-le-zero h)
digits_first w (suc n) (suc m) x h = ap (λ ds. x % 2 ^ w ∷ ds) (digits_first w n m (x / 2 ^ w) (le_of_suc-le-suc h))

-- the octets of a number are its eight lowest digits
pub octets_of : (x : ℕ) → to_le_bytes w64 x ≡ lowest_digits 8 8 x
unfolding lowest_digits
octets_of x =
    let e₂ : x / 256 / 256 ≡ x / 65536 = omega arith in
    let e₃ : x / 65536 / 256 ≡ x / 16777216 = omega arith in
    let e₄ : x / 16777216 / 256 ≡ x / 4294967296 = omega arith in
    let e₅ : x / 4294967296 / 256 ≡ x / 1099511627776 = omega arith in
    let e₆ : x / 1099511627776 / 256 ≡ x / 281474976710656 = omega arith in
    let e₇ : x / 281474976710656 / 256 ≡ x / 72057594037927936 = omega arith in
    rw (e₂, e₃, e₄, e₅, e₆, e₇)
