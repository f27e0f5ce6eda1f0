-- Hexadecimal digits: the lower-case digit of a value, and the value of a digit.
-- Assumes nothing.
use Prim.Native.Nat.{ℕ, ◌+◌, ◌*◌, ◌/◌, ◌<◌}
use Prim.Native.Char.{code}
use mathlib.Core.Path.{◌≡◌, refl, sym}
use mathlib.Core.Bool.{Bool, true, false, ◌&&◌}
use Rattle.std.specs.Prelude.{Some, is_some, List, IsTrue, EachIndex, slice_index, ◌↔◌}
use Rattle.octets.specs.Each.{each}
use Rattle.octets.proofs.Each.{each_means}
use borrow.Author.Tests.{eqb-true}
use lib.Dec.{eqb}
use Rattle.octets.specs.Texts.{codes}
use Rattle.octets.proofs.Choice.{and_true}
use Rattle.octets.proofs.Table.{below}
use Rattle.time.specs.Time.{is_hex, hex_value}
use Rattle.output.specs.Hexadecimal.{lower_digit, digit_value}

-- the lower-case digit of a value below 16 stands at its place after 0, 39 further for a letter, is a digit, and has that value
digit : ℕ → Bool
digit v = eqb (code "0" + v + 39 * (v / 10)) (lower_digit v) && is_hex (lower_digit v) && eqb (hex_value (lower_digit v)) v

digits : (v : ℕ) → v < 16 → digit v ≡ true
unfolding digit is_hex hex_value lower_digit codes
digits = below digit 16 refl

pub lower_digit_lem : (v : ℕ) → v < 16 → (code "0" + v + 39 * (v / 10) ≡ lower_digit v) × (is_hex (lower_digit v) ≡ true) × (hex_value (lower_digit v) ≡ v)
unfolding digit
lower_digit_lem v h =
    let t = and_true _ _ (digits v h) in
    let s = and_true _ _ t.0 in
    (eqb-true _ _ s.0, s.1, eqb-true _ _ t.1)

-- a digit has its value
pub value_of : (c : ℕ) → is_hex c ≡ true → digit_value c ≡ Some (hex_value c)
unfolding digit_value
value_of c e = rw e

-- the digits are the characters that have one
has_value : (c : ℕ) → is_some (digit_value c) ≡ is_hex c
unfolding digit_value
has_value c = by (is_hex c) refl
  where
    by : (b : Bool) → is_hex c ≡ b → is_some (digit_value c) ≡ is_hex c
    by true e = rw e refl
    by false e = rw e refl

-- a test of each character of a text
pub all_digits : (cs : List ℕ) (b : Bool) → IsTrue b ↔ EachIndex cs (λ i. is_some (digit_value (slice_index cs i)) ≡ true) → b ≡ each is_hex cs
all_digits cs true h = sym ((each_means is_hex cs).1 (λ i l. rw (← has_value (slice_index cs i)) (h.0 refl i l)))
all_digits cs false h = by (each is_hex cs) refl
  where
    by : (t : Bool) → each is_hex cs ≡ t → false ≡ t
    by true e = h.1 (λ i l. rw has_value ((each_means is_hex cs).0 e i l))
    by false e = refl
