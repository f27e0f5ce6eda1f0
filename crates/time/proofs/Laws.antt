-- Fourteen digits and seven octets: what a time is, there and back, and one more pair in a loop.
-- Assumes nothing.
use Prim.Native.Nat.{ℕ, zero, suc, ◌-◌, ◌+◌, ◌*◌, ◌/◌, ◌%◌, ◌<◌, ◌≤◌}
use mathlib.Core.Path.{◌≡◌, refl, ◌∙◌, ap, ap₂}
use mathlib.Core.Bool.{true, ◌&&◌}
use mathlib.Core.List.{List, [], ◌∷◌, ◌++◌}
use mathlib.Core.Logic.{◌↔◌}
use native.Mathlib.Numerals.{add-one}
use native.Mathlib.Omega.{arith}
use borrow.Author.Tests.{eq-eqb, eqb-true}
use lib.Dec.{eqb}
use lib.ListN.{length, drop, get_or, replicate, drop_of_length-le}
use lib.Seq.{drop-cons}
use Rattle.octets.specs.Each.{Octets, each}
use Rattle.octets.proofs.Choice.{and_true, and_means}
use Rattle.octets.proofs.Each.{each_means}
use Rattle.octets.specs.Arrays.{pad}
use Rattle.octets.specs.Held.{holding, filled, cleared_held}
use Rattle.octets.proofs.Laws.{pad_full}
use Rattle.time.specs.Time.{hex_digit, is_hex, hex_value, capital, capitals, time_digits, time_octets, is_time, Time, time_in, capital_time}
use Rattle.time.proofs.Hex.{hex_value_lem, hex_digit_lem}

-- a time is fourteen hexadecimal digits
pub time_means : (ds : List ℕ) → (is_time ds ≡ true) ↔ ((length ds ≡ 14) × ((i : ℕ) → i < length ds → is_hex (get_or ds i 0) ≡ true))
unfolding is_time
time_means ds = and_means _ _ (eqb-true (length ds) 14, eq-eqb (length ds) 14) (each_means is_hex ds)

pub length_digits : (os : List ℕ) → length (time_digits os) ≡ 2 * length os
unfolding time_digits
length_digits [] = refl
length_digits (o ∷ os) = omega (arith, length_digits os)

pub length_octets : (ds : List ℕ) → length (time_octets ds) ≡ length ds / 2
unfolding time_octets
length_octets [] = refl
length_octets (a ∷ []) = refl
length_octets (a ∷ b ∷ ds) = omega (arith, length_octets ds)

-- a time takes seven octets
pub time_size : (ds : List ℕ) → is_time ds ≡ true → length (time_octets ds) ≡ 7
time_size ds t = length_octets ds ∙ rw ((time_means ds).0 t).0

-- ---- there and back

-- octets → digits → octets
pub octets_back : (os : List ℕ) → Octets os → time_octets (time_digits os) ≡ os
unfolding time_digits time_octets
octets_back [] h = refl
octets_back (o ∷ os) h =
    let e : hex_value (hex_digit (o % 16)) + 16 * hex_value (hex_digit (o / 16)) ≡ o =
    rw ((hex_digit_lem (o % 16) (omega arith)).2, (hex_digit_lem (o / 16) (omega (arith, h 0))).2) (omega arith) in
    ap₂ ◌∷◌ e (octets_back os (λ i. h (suc i)))

-- an octet's digits, from its halves
pub octet_digits : (low high : ℕ) (os : List ℕ) → low < 16 → time_digits ((low + 16 * high) ∷ os) ≡ hex_digit low ∷ hex_digit high ∷ time_digits os
unfolding time_digits
octet_digits low high os h =
    let l : (low + 16 * high) % 16 ≡ low = omega arith in
    let r : (low + 16 * high) / 16 ≡ high = omega arith in
    rw (l, r)

-- digits → octets → digits, of any number of pairs and of a time
pairs_back : (ds : List ℕ) → length ds % 2 ≡ 0 → each is_hex ds ≡ true → time_digits (time_octets ds) ≡ capitals ds
unfolding time_digits time_octets each capitals
pairs_back [] n h = refl
pairs_back (a ∷ []) n h = absurd (omega arith)
pairs_back (a ∷ b ∷ ds) n h =
    let p = and_true (is_hex a) (is_hex b && each is_hex ds) h in
    let q = and_true (is_hex b) (each is_hex ds) p.1 in
    let v = hex_value_lem a p.0 in
    octet_digits (hex_value a) (hex_value b) (time_octets ds) v.0 ∙ rw (v.2, (hex_value_lem b q.0).2, pairs_back ds (omega arith) q.1)

pub digits_back : (ds : List ℕ) → is_time ds ≡ true → time_digits (time_octets ds) ≡ capitals ds
unfolding is_time
digits_back ds e = let n : length ds ≡ 14 = ((time_means ds).0 e).0 in pairs_back ds (omega arith) (and_true (eqb (length ds) 14) (each is_hex ds) e).1

-- the digits of octets are hexadecimal, so those of seven octets are a time
pub pair_hex : (a b : ℕ) → a < 16 → b < 16 → (ds : List ℕ) → each is_hex (hex_digit a ∷ hex_digit b ∷ ds) ≡ each is_hex ds
unfolding each
pair_hex a b ha hb ds = rw ((hex_digit_lem a ha).1, (hex_digit_lem b hb).1)

hex_digits : (os : List ℕ) → Octets os → each is_hex (time_digits os) ≡ true
unfolding time_digits each
hex_digits [] h = refl
hex_digits (o ∷ os) h = pair_hex (o % 16) (o / 16) (omega arith) (omega (arith, h 0)) (time_digits os) ∙ hex_digits os (λ i. h (suc i))

pub digits_time : (os : List ℕ) → Octets os → length os ≡ 7 → is_time (time_digits os) ≡ true
unfolding is_time
digits_time os h n = rw (length_digits os, n, hex_digits os h)

-- ---- the digits and the octets that a loop has left: one more pair, and none at the end

module _ (i : ℕ) where
  pub digits_next : (os : List ℕ) → i < length os → time_digits (drop i os) ≡ hex_digit (get_or os i 0 % 16) ∷ hex_digit (get_or os i 0 / 16) ∷ time_digits (drop (i + 1) os)
  unfolding time_digits
  digits_next os h = rw (add-one, drop-cons os i 0 h)

  pub digits_end : (os : List ℕ) → length os ≤ i → time_digits (drop i os) ≡ []
  unfolding time_digits
  digits_end os h = rw (drop_of_length-le os h)

  pub octets_next : (ds : List ℕ) → 2 * i + 1 < length ds → time_octets (drop (2 * i) ds) ≡ (hex_value (get_or ds (2 * i) 0) + 16 * hex_value (get_or ds (2 * i + 1) 0)) ∷ time_octets (drop (2 * (i + 1)) ds)
  unfolding time_octets
  octets_next ds h =
      let e : 2 * (i + 1) ≡ suc (suc (2 * i)) = omega arith in
      rw (e, add-one (2 * i), drop-cons ds (2 * i) 0 (omega arith), drop-cons ds (suc (2 * i)) 0 (omega arith))

  pub octets_end : (ds : List ℕ) → length ds ≤ 2 * i → time_octets (drop (2 * i) ds) ≡ []
  unfolding time_octets
  octets_end ds h = rw (drop_of_length-le ds h)

-- a time that was written, read back: its letters capital
capitals_zeros : (n : ℕ) → capitals (replicate n 0) ≡ replicate n 0
unfolding capitals
capitals_zeros zero = refl
capitals_zeros (suc n) = ap (λ l. 0 ∷ l) (capitals_zeros n)

length_capitals : (ds : List ℕ) → length (capitals ds) ≡ length ds
unfolding capitals
length_capitals [] = refl
length_capitals (d ∷ ds) = ap suc (length_capitals ds)

capitals_append : (ds es : List ℕ) → capitals (ds ++ es) ≡ capitals ds ++ capitals es
unfolding capitals
capitals_append [] es = refl
capitals_append (d ∷ ds) es = ap (λ l. capital d ∷ l) (capitals_append ds es)

capitals_pad : (n : ℕ) (ds : List ℕ) → capitals (pad n ds) ≡ pad n (capitals ds)
unfolding pad
capitals_pad n ds = capitals_append ds (replicate (n - length ds) 0) ∙ rw (length_capitals ds, capitals_zeros)

pub time_back : (t : Time) → is_time (filled t) ≡ true → length (filled t) ≡ t.length → time_in (time_octets (filled t)) ≡ capital_time (cleared_held t)
unfolding holding
time_back t e n =
    let size : length (capitals (filled t)) ≡ t.length = length_capitals (filled t) ∙ n in
    rw (digits_back (filled t) e, size, ← capitals_pad 14 (filled t))

-- seven octets that were read, as the time of a record
pub time_stored : (os : List ℕ) → length os ≡ 7 → {ds : List ℕ} → ds ≡ time_digits os → ◌≡◌ {A = Time} (record { octets = ds; length = 14 }) (time_in os)
unfolding holding
time_stored os seven e = let n : length (time_digits os) ≡ 14 = length_digits os ∙ rw seven in rw (e, n, pad_full 14 (time_digits os) n)
