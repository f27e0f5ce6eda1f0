-- Texts of digits: a digit's value and its character, there and back, of one and of a list; and semi-octets without F.
-- Assumes nothing.
use Prim.Native.Nat.{ℕ, suc, ◌+◌, ◌*◌, ◌/◌, ◌%◌, ◌<◌, ◌≤◌}
use mathlib.Core.Path.{◌≡◌, refl, ap, ap₂}
use mathlib.Core.Bool.{Bool, true, false}
use mathlib.Core.List.{List, [], ◌∷◌, map}
use native.Mathlib.Omega.{arith}
use borrow.Author.Tests.{ltb-true, lt-ltb, eqb-true, eqb-false, ne_eqb}
use lib.Dec.{eqb}
use lib.ListN.{length}
use Rattle.std.specs.Prelude.{if◌then◌else◌}
use Rattle.octets.specs.Each.{each}
use Rattle.octets.specs.SemiOctets.{semi_octets, in_pairs}
use Rattle.octets.specs.Texts.{codes}
use Rattle.octets.proofs.Choice.{and_true}
use Rattle.octets.proofs.Table.{below}
use Rattle.octets.proofs.Each.{Below, below_cons}
use Rattle.gsm7.specs.Alphabet.{index_of}
use Rattle.gsm7.proofs.Rows.{index_found}
use Rattle.address.specs.Writing.{digit_characters, digit_value, is_digit}
use Rattle.address.specs.Address.{digit_character, without_f}

-- ---- one digit

-- value → character → value
pub value_back : (v : ℕ) → v < 15 → digit_value (digit_character v) ≡ v
unfolding codes digit_characters digit_character digit_value index_of
value_back v h = eqb-true _ _ (below (λ x. eqb (digit_value (digit_character x)) x) 15 refl v h)

-- so it is a digit
pub value_digit : (v : ℕ) → v < 15 → is_digit (digit_character v) ≡ true
unfolding is_digit
value_digit v h = rw (value_back v h) (lt-ltb v 15 h)

-- character → value → character, where it is a digit
pub character_back : (c : ℕ) → is_digit c ≡ true → (digit_character (digit_value c) ≡ c) × (digit_value c < 15)
unfolding codes digit_characters digit_character digit_value is_digit
character_back c e = let h = ltb-true _ _ e in (index_found digit_characters c h, h)

-- ---- a list of them

-- the characters of values are digits
pub values_digits : (ds : List ℕ) → Below 15 ds → each is_digit (map digit_character ds) ≡ true
unfolding each
values_digits [] h = refl
values_digits (d ∷ ds) h = rw (value_digit d (h 0)) (values_digits ds (λ i. h (suc i)))

-- values → characters → values
pub values_back : (ds : List ℕ) → Below 15 ds → map digit_value (map digit_character ds) ≡ ds
values_back [] h = refl
values_back (d ∷ ds) h = ap₂ ◌∷◌ (value_back d (h 0)) (values_back ds (λ i. h (suc i)))

-- characters → values → characters, where they are digits
pub characters_back : (cs : List ℕ) → each is_digit cs ≡ true → (map digit_character (map digit_value cs) ≡ cs) × Below 15 (map digit_value cs)
unfolding each
characters_back [] e = (refl, λ i. omega arith)
characters_back (c ∷ cs) e =
    let t = and_true (is_digit c) (each is_digit cs) e in
    let v = character_back c t.0 in
    let r = characters_back cs t.1 in
    (ap₂ ◌∷◌ v.0 r.0, below_cons 15 (digit_value c) (map digit_value cs) v.1 r.1)

-- ---- semi-octets without F

-- digits, and no more than there were semi-octets
pub without_digits : (ds : List ℕ) → Below 16 ds → Below 15 (without_f ds) × (length (without_f ds) ≤ length ds)
unfolding without_f
without_digits [] h = (λ i. omega arith, omega arith)
without_digits (d ∷ ds) h = by (eqb d 0xf) refl (without_digits ds (λ i. h (suc i)))
  where
    by : (t : Bool) → eqb d 0xf ≡ t → Below 15 (without_f ds) × (length (without_f ds) ≤ length ds)
        → Below 15 (if t then without_f ds else d ∷ without_f ds) × (length (if t then without_f ds else d ∷ without_f ds) ≤ suc (length ds))
    by true e r = (r.0, omega arith)
    by false e r = let other = eqb-false d 0xf e in (below_cons 15 d (without_f ds) (omega (arith, h 0)) r.0, omega arith)

-- all of them, where there is no F
pub without_none : (ds : List ℕ) → Below 15 ds → without_f ds ≡ ds
unfolding without_f
without_none [] h = refl
without_none (d ∷ ds) h = rw (ne_eqb d 0xf (λ e. omega (arith, h 0))) (ap (λ (l : List ℕ). d ∷ l) (without_none ds (λ i. h (suc i))))

-- digits two to an octet and apart again: F is left out
pub without_pairs : (ds : List ℕ) → Below 15 ds → without_f (semi_octets (in_pairs ds)) ≡ ds
unfolding without_f semi_octets in_pairs
without_pairs [] h = refl
without_pairs (d ∷ []) h =
    let low : (d + 16 * 0xf) % 16 ≡ d = omega (arith, h 0) in
    let high : (d + 16 * 0xf) / 16 ≡ 0xf = omega (arith, h 0) in
    rw (low, high, ne_eqb d 0xf (λ e. omega (arith, h 0)))
without_pairs (d ∷ e ∷ ds) h =
    let low : (d + 16 * e) % 16 ≡ d = omega (arith, h 0) in
    let high : (d + 16 * e) / 16 ≡ e = omega (arith, h 0) in
    rw (low, high, ne_eqb d 0xf (λ z. omega (arith, h 0)), ne_eqb e 0xf (λ z. omega (arith, h 1)), without_pairs ds (λ i. h (suc (suc i))))
