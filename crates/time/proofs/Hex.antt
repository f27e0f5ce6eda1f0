-- Hexadecimal digits: what they are, and that digit and value are each other's inverse but for the case.
-- Assumes nothing.
use Prim.Native.Nat.{ℕ, ◌+◌, ◌*◌, ◌/◌, ◌%◌, ◌≤◌, ◌<◌}
use Prim.Native.Char.{code}
use mathlib.Core.Path.{◌≡◌, refl}
use mathlib.Core.Bool.{Bool, true, ◌&&◌}
use mathlib.Core.Logic.{◌⊎◌, ⊎_elim, ◌↔◌}
use native.Mathlib.Omega.{arith}
use borrow.Author.Tests.{ltb-true, eqb-true}
use lib.Dec.{eqb, ltb}
use Rattle.std.specs.Prelude.{if◌then◌else◌}
use Rattle.octets.specs.Texts.{codes}
use Rattle.octets.proofs.Choice.{and_true, or_means, within_means}
use Rattle.octets.proofs.Table.{below}
use Rattle.time.specs.Time.{hex_digit, is_hex, hex_value, capital}

-- 0 to 9, A to F and a to f are the hexadecimal digits
pub hex_means : (c : ℕ) → (is_hex c ≡ true) ↔ ((((code "0" ≤ c) × (c ≤ code "9")) ⊎ ((code "A" ≤ c) × (c ≤ code "F"))) ⊎ ((code "a" ≤ c) × (c ≤ code "f")))
unfolding is_hex
hex_means c = or_means _ _ (or_means _ _ (within_means _ _ c) (within_means _ _ c)) (within_means _ _ c)

-- a digit's value is below 16, is the low half of its octet and 9 more for a letter, and its digit is the capital
value : ℕ → Bool
value c = if is_hex c then ltb (hex_value c) 16 && eqb (c % 16 + 9 * (c / 64)) (hex_value c) && eqb (hex_digit (hex_value c)) (capital c) else true

values : (c : ℕ) → c < 103 → value c ≡ true
unfolding value is_hex hex_value hex_digit codes
values = below value 103 refl

pub hex_value_lem : (c : ℕ) → is_hex c ≡ true → (hex_value c < 16) × (c % 16 + 9 * (c / 64) ≡ hex_value c) × (hex_digit (hex_value c) ≡ capital c)
unfolding value
hex_value_lem c e =
    let small : c < 103 = ⊎_elim (⊎_elim (λ w. omega arith) (λ w. omega arith)) (λ w. omega arith) ((hex_means c).0 e) in
    let t = and_true _ _ (rw e at (values c small)) in
    let s = and_true _ _ t.0 in
    (ltb-true _ _ s.0, eqb-true _ _ s.1, eqb-true _ _ t.1)

-- the digit of a value below 16 stands at its place after 0, 7 further for a letter, is a digit, and has that value
digit : ℕ → Bool
digit v = eqb (code "0" + v + 7 * (v / 10)) (hex_digit v) && is_hex (hex_digit v) && eqb (hex_value (hex_digit v)) v

digits : (v : ℕ) → v < 16 → digit v ≡ true
unfolding digit is_hex hex_value hex_digit codes
digits = below digit 16 refl

pub hex_digit_lem : (v : ℕ) → v < 16 → (code "0" + v + 7 * (v / 10) ≡ hex_digit v) × (is_hex (hex_digit v) ≡ true) × (hex_value (hex_digit v) ≡ v)
unfolding digit
hex_digit_lem v h =
    let t = and_true _ _ (digits v h) in
    let s = and_true _ _ t.0 in
    (eqb-true _ _ s.0, s.1, eqb-true _ _ t.1)
