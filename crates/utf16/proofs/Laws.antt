-- Characters by their size, and of units by their ranges.
-- Assumes nothing.
use Prim.Native.Nat.{ℕ, ◌+◌, ◌-◌, ◌*◌, ◌<◌, ◌≤◌}
use mathlib.Core.Path.{◌≡◌, refl}
use mathlib.Core.Bool.{Bool, true, false}
use native.Mathlib.Omega.{arith}
use borrow.Author.Tests.{lt-ltb, le-ltb, lt-leb, le-leb, ltb-true}
use lib.Dec.{ltb}
use Rattle.std.specs.Char.{encode_utf8}
use Rattle.gsm7.specs.Reading.{utf8 as utf8OfUnit}
use Rattle.utf16.specs.Characters.{utf8, character_of, sized, replacement}

-- the library's UTF-8 is that of the definition
pub library_utf8 : (c : ℕ) → encode_utf8 c ≡ utf8 c
unfolding encode_utf8 utf8 utf8OfUnit
library_utf8 c = by (ltb c 0x80) (ltb c 0x800) (ltb c 0x10000) refl refl refl
  where
    by : (a b d : Bool) → ltb c 0x80 ≡ a → ltb c 0x800 ≡ b → ltb c 0x10000 ≡ d → encode_utf8 c ≡ utf8 c
    by true b d e f g = let h = ltb-true c 0x80 e in rw (e, lt-ltb c 0x10000 (omega (arith, h))) refl
    by false true d e f g = let h = ltb-true c 0x800 f in rw (e, f, lt-ltb c 0x10000 (omega (arith, h))) refl
    by false false true e f g = rw (e, f, g) refl
    by false false false e f g = rw (e, f, g) refl

module _ (high low : ℕ) where
  pub below_surrogates : high < 0xd800 → character_of high low ≡ sized high 2
  unfolding character_of
  below_surrogates h = rw (lt-leb 0xd800 high h)

  pub above_surrogates : 0xdfff < high → character_of high low ≡ sized high 2
  unfolding character_of
  above_surrogates h = let l : 0xd800 ≤ high = omega arith in rw (le-leb 0xd800 high l, lt-leb high 0xdfff h)

  module _ (l : 0xd800 ≤ high) (u : high ≤ 0xdfff) where
    pub lone_low : 0xdc00 ≤ high → character_of high low ≡ replacement
    unfolding character_of
    lone_low h = rw (le-leb 0xd800 high l, le-leb high 0xdfff u, le-ltb high 0xdc00 h)

    module _ (h : high < 0xdc00) where
      pub low_below : low < 0xdc00 → character_of high low ≡ replacement
      unfolding character_of
      low_below n = rw (le-leb 0xd800 high l, le-leb high 0xdfff u, lt-ltb high 0xdc00 h, lt-leb 0xdc00 low n)

      pub low_above : 0xdc00 ≤ low → 0xdfff < low → character_of high low ≡ replacement
      unfolding character_of
      low_above m n = rw (le-leb 0xd800 high l, le-leb high 0xdfff u, lt-ltb high 0xdc00 h, le-leb 0xdc00 low m, lt-leb low 0xdfff n)

      pub a_pair : 0xdc00 ≤ low → low ≤ 0xdfff → character_of high low ≡ sized (0x10000 + (high - 0xd800) * 0x400 + (low - 0xdc00)) 4
      unfolding character_of
      a_pair m n = rw (le-leb 0xd800 high l, le-leb high 0xdfff u, lt-ltb high 0xdc00 h, le-leb 0xdc00 low m, le-leb low 0xdfff n)
