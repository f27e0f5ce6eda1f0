-- The octets of a character, by its size.
-- Assumes nothing.
use Prim.Native.Nat.{ℕ, ◌+◌, ◌/◌, ◌%◌, ◌<◌, ◌≤◌}
use mathlib.Core.Path.{◌≡◌}
use mathlib.Core.List.{[], ◌∷◌}
use native.Mathlib.Omega.{arith}
use borrow.Author.Tests.{lt-ltb, le-ltb}
use Rattle.gsm7.specs.Reading.{utf8}

pub utf8_one : (c : ℕ) → c < 0x80 → utf8 c ≡ c ∷ []
unfolding utf8
utf8_one c h = rw (lt-ltb c 0x80 h)

pub utf8_two : (c : ℕ) → 0x80 ≤ c → c < 0x800 → utf8 c ≡ (192 + c / 64) ∷ (128 + c % 64) ∷ []
unfolding utf8
utf8_two c l h = rw (le-ltb c 0x80 l, lt-ltb c 0x800 h)

pub utf8_three : (c : ℕ) → 0x800 ≤ c → utf8 c ≡ (224 + c / 4096) ∷ (128 + c / 64 % 64) ∷ (128 + c % 64) ∷ []
unfolding utf8
utf8_three c h = let l : 0x80 ≤ c = omega arith in rw (le-ltb c 0x80 l, le-ltb c 0x800 h)
