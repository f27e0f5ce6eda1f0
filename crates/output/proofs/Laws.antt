-- Appending to an output; octets and their hexadecimal: there and back, how many, and one more in a loop; decimal digits.
-- Assumes nothing.
use Prim.Native.Char.{code}
use Prim.Native.Nat.{ℕ, zero, suc, ◌+◌, ◌*◌, ◌/◌, ◌%◌, ◌<◌, ◌≤◌}
use mathlib.Core.Path.{◌≡◌, refl, ap₂}
use mathlib.Core.Bool.{Bool, true, false}
use mathlib.Core.List.{List, [], ◌∷◌, ◌++◌, append_assoc}
use mathlib.Core.Logic.{◌↔◌}
use native.Mathlib.Numerals.{add-one}
use native.Mathlib.Omega.{arith}
use borrow.Author.Tests.{le-leb, lt-leb, eq-eqb, eqb-true, lt-ltb}
use lib.Dec.{eqb}
use lib.ListN.{length, take, drop, get_or, length-append, drop_of_length-le}
use lib.Seq.{sets-eq, length-take-le, take_at, drop-cons}
use Rattle.octets.specs.Each.{Octets, each}
use Rattle.octets.specs.Lent.{Wrote}
use Rattle.octets.proofs.Choice.{and_means}
use Rattle.octets.proofs.Each.{each_means}
use Rattle.octets.proofs.Laws.{sets_start}
use Rattle.time.specs.Time.{is_hex, hex_value}
use Rattle.octets.specs.Decimal.{significant, decimal_text}
use Rattle.output.specs.declared.hexadecimal.HexError.{HexError}
use Rattle.std.specs.Prelude.{Result, Ok, Err, ◌^◌}
use Rattle.std.specs.Fmt.{decimal, digits, digits_onto}
use Rattle.output.specs.Output.{appended}
use Rattle.output.specs.Hexadecimal.{lower_digit, hex_text, is_hex_text, octets_of, read_into}
use Rattle.output.proofs.Digits.{lower_digit_lem}

-- ---- appending

module _ (size : ℕ) (octets output : List ℕ) where
  pub fits : length output + length octets ≤ size → appended size octets output ≡ output ++ octets
  unfolding appended
  fits h = rw (le-leb (length output + length octets) size h)

  pub left_out : size < length output + length octets → appended size octets output ≡ output
  unfolding appended
  left_out h = rw (lt-leb (length output + length octets) size h)

-- octets stored after those that count
pub stored : (at : ℕ) (octets before : List ℕ) {next : ℕ} {after : List ℕ} → at + length octets ≤ length before → Wrote at octets before next after → take next after ≡ take at before ++ octets
stored at octets before h wrote =
    let size : length (take at before ++ octets) ≡ at + length octets = simp (length-append, length-take-le at before (omega arith)) refl in
    rw (wrote.place, wrote.list, sets-eq octets before at h) (take_at (take at before ++ octets) _ _ size)

-- ---- hexadecimal

pub length_hex : (os : List ℕ) → length (hex_text os) ≡ 2 * length os
unfolding hex_text
length_hex [] = refl
length_hex (o ∷ os) = omega (arith, length_hex os)

pub length_octets : (ds : List ℕ) → length (octets_of ds) ≡ length ds / 2
unfolding octets_of
length_octets [] = refl
length_octets (a ∷ []) = refl
length_octets (a ∷ b ∷ ds) = omega (arith, length_octets ds)

-- an even number of hexadecimal digits
pub hex_text_means : (ds : List ℕ) → (is_hex_text ds ≡ true) ↔ ((length ds % 2 ≡ 0) × ((i : ℕ) → i < length ds → is_hex (get_or ds i 0) ≡ true))
unfolding is_hex_text
hex_text_means ds = and_means _ _ (eqb-true (length ds % 2) 0, eq-eqb (length ds % 2) 0) (each_means is_hex ds)

-- one octet more
pub hex_more : (i : ℕ) (os : List ℕ) → i < length os → hex_text (take (i + 1) os) ≡ hex_text (take i os) ++ lower_digit (get_or os i 0 / 16) ∷ lower_digit (get_or os i 0 % 16) ∷ []
unfolding hex_text
hex_more i [] h = absurd (omega arith)
hex_more zero (o ∷ os) h = refl
hex_more (suc i) (o ∷ os) h = let e : suc i + 1 ≡ suc (i + 1) = omega arith in rw (e, hex_more i os (omega arith)) refl

-- a loop has appended the first i octets: with the next
pub hex_appended : (size i : ℕ) (held os : List ℕ) → length held + 2 * length os ≤ size → i < length os
    → appended size (lower_digit (get_or os i 0 / 16) ∷ lower_digit (get_or os i 0 % 16) ∷ []) (held ++ hex_text (take i os)) ≡ held ++ hex_text (take (i + 1) os)
hex_appended size i held os n h =
    let e : length (held ++ hex_text (take i os)) ≡ length held + 2 * i = simp (length-append, length_hex, length-take-le i os (omega arith)) refl in
    rw (fits size (lower_digit (get_or os i 0 / 16) ∷ lower_digit (get_or os i 0 % 16) ∷ []) (held ++ hex_text (take i os)) (omega (arith, e)), hex_more i os h) (append_assoc held _ _)

-- octets → digits → octets
pub octets_back : (os : List ℕ) → Octets os → octets_of (hex_text os) ≡ os
unfolding hex_text octets_of
octets_back [] h = refl
octets_back (o ∷ os) h =
    let e : 16 * hex_value (lower_digit (o / 16)) + hex_value (lower_digit (o % 16)) ≡ o =
    rw ((lower_digit_lem (o / 16) (omega (arith, h 0))).2, (lower_digit_lem (o % 16) (omega arith)).2) (omega arith) in
    ap₂ ◌∷◌ e (octets_back os (λ i. h (suc i)))

digits_hex : (os : List ℕ) → Octets os → each is_hex (hex_text os) ≡ true
unfolding hex_text each
digits_hex [] h = refl
digits_hex (o ∷ os) h =
    rw ((lower_digit_lem (o / 16) (omega (arith, h 0))).1, (lower_digit_lem (o % 16) (omega arith)).1) (digits_hex os (λ i. h (suc i)))

pub hex_is_hex : (os : List ℕ) → Octets os → is_hex_text (hex_text os) ≡ true
unfolding is_hex_text
hex_is_hex os h = let e : length (hex_text os) % 2 ≡ 0 = omega (arith, length_hex os) in rw (e, digits_hex os h)

-- reading gives back what was written as hexadecimal
pub read_back : (os buffer : List ℕ) → Octets os → length os ≤ length buffer → read_into (hex_text os) buffer ≡ (Ok (length os), os ++ drop (length os) buffer)
unfolding read_into
read_back os buffer h n = rw (hex_is_hex os h, octets_back os h, le-leb (length os) (length buffer) n)

-- ---- two ends of reading

module _ (text buffer : List ℕ) (e : is_hex_text text ≡ true) where
  pub octets_fit : {next : ℕ} {after : List ℕ} → length (octets_of text) ≤ length buffer → Wrote 0 (octets_of text) buffer next after
      → ◌≡◌ {A = Result ℕ HexError × List ℕ} (Ok next, after) (read_into text buffer)
  unfolding read_into
  octets_fit h wrote =
      let n : 0 + length (octets_of text) ≡ length (octets_of text) = omega arith in
      rw (e, le-leb (length (octets_of text)) (length buffer) h, wrote.place, wrote.list, n, sets_start (octets_of text) buffer h)

  pub octets_too_long : length buffer < length (octets_of text) → ◌≡◌ {A = Result ℕ HexError × List ℕ} (Err HexError.TooLong, buffer) (read_into text buffer)
  unfolding read_into
  octets_too_long h = rw (e, lt-leb (length (octets_of text)) (length buffer) h)

-- ---- what a loop has left: one more octet, and none at the end

module _ (i : ℕ) where
  pub octets_next : (ds : List ℕ) → 2 * i + 1 < length ds → octets_of (drop (2 * i) ds) ≡ (16 * hex_value (get_or ds (2 * i) 0) + hex_value (get_or ds (2 * i + 1) 0)) ∷ octets_of (drop (2 * (i + 1)) ds)
  unfolding octets_of
  octets_next ds h =
      let e : 2 * (i + 1) ≡ suc (suc (2 * i)) = omega arith in
      rw (e, add-one (2 * i), drop-cons ds (2 * i) 0 (omega arith), drop-cons ds (suc (2 * i)) 0 (omega arith))

  pub octets_end : (ds : List ℕ) → length ds ≤ 2 * i → octets_of (drop (2 * i) ds) ≡ []
  unfolding octets_of
  octets_end ds h = rw (drop_of_length-le ds h)

-- ---- decimal digits: with no zero in front they are the library's

-- all digits of n, where j more than its last are enough
decimal_onto : (j k n : ℕ) (after : List ℕ) → j ≤ k → n < 10 ^ suc j → digits_onto (suc k) 10 false n after ≡ significant j (n / 10) ++ (code "0" + n % 10) ∷ after
unfolding significant
decimal_onto zero k n after l h =
    let z : n / 10 ≡ 0 = omega (arith, h) in
    let d : n % 10 < 10 = omega arith in
    rw (eq-eqb (n / 10) 0 z, lt-ltb (n % 10) 10 d) refl
decimal_onto (suc j) zero n after l h = absurd (omega arith)
decimal_onto (suc j) (suc k) n after l h = by (eqb (n / 10) 0) refl (decimal_onto j k (n / 10) ((code "0" + n % 10) ∷ after) (omega arith) (omega (arith, h)))
  where
    d : n % 10 < 10
    d = omega arith

    by : (b : Bool) → eqb (n / 10) 0 ≡ b
        → digits_onto (suc k) 10 false (n / 10) ((code "0" + n % 10) ∷ after) ≡ significant j (n / 10 / 10) ++ (code "0" + n / 10 % 10) ∷ (code "0" + n % 10) ∷ after
        → digits_onto (suc (suc k)) 10 false n after ≡ significant (suc j) (n / 10) ++ (code "0" + n % 10) ∷ after
    by true e before = rw (e, lt-ltb (n % 10) 10 d) refl
    by false e before = rw (e, lt-ltb (n % 10) 10 d, append_assoc (significant j (n / 10 / 10)) _ _) before

pub library_decimal : (n : ℕ) → n < 2 ^ 64 → decimal n ≡ decimal_text n
unfolding digits decimal_text
library_decimal n h = decimal_onto 19 63 n [] (omega arith) (omega (arith, h))
