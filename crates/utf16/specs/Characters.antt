-- Characters of UTF-16 and UTF-8.
use Rattle.std.specs.Prelude.{ℕ, ◌+◌, ◌-◌, ◌*◌, ◌/◌, ◌%◌, ◌≡◌, refl, not, ◌&&◌, List, [], ◌∷◌, ltb, length, get_or, if◌then◌else◌}
use Rattle.octets.specs.Choice.{within}
use Rattle.gsm7.specs.Reading.{utf8 as utf8OfUnit}
use Rattle.utf16.specs.declared.Character.{Character}

-- the octets of a character (RFC 3629 §3): up to three for one of sixteen bits, else four
unfoldable pub utf8 : ℕ → List ℕ
utf8 c =
    if ltb c 0x10000 then utf8OfUnit c
    else (240 + c / 262144) ∷ (128 + c / 4096 % 64) ∷ (128 + c / 64 % 64) ∷ (128 + c % 64) ∷ []

-- the sixteen bits at a place, high octet first
abbrev pub unit_at : List ℕ → ℕ → ℕ
unit_at s i = get_or s i 0 * 256 + get_or s (i + 1) 0

abbrev pub sized : ℕ → ℕ → Character
sized code size = record { code = code; size = size }

-- U+FFFD stands for a lone surrogate and a lone octet
abbrev pub replacement : Character
replacement = sized 0xfffd 2

-- the character that two units begin with, and how many octets it takes (RFC 2781 §2.2): both if they are a pair of surrogates, else the first
unfoldable pub character_of : ℕ → ℕ → Character
character_of high low =
    let pair = sized (0x10000 + (high - 0xd800) * 0x400 + (low - 0xdc00)) 4 in
    if not (within 0xd800 0xdfff high) then sized high 2
    else if ltb high 0xdc00 && within 0xdc00 0xdfff low then pair
    else replacement

-- the first character of octets, of which a unit takes two
unfoldable pub first_character : List ℕ → Character
first_character s =
    if ltb (length s) 2 then replacement
    else if ltb (length s) 4 then character_of (unit_at s 0) 0
    else character_of (unit_at s 0) (unit_at s 2)

rows : (utf8 0x1f600 ≡ 0xf0 ∷ 0x9f ∷ 0x98 ∷ 0x80 ∷ []) × (utf8 0x20ac ≡ 0xe2 ∷ 0x82 ∷ 0xac ∷ [])
    × (first_character (0xd8 ∷ 0x3d ∷ 0xde ∷ 0x00 ∷ []) ≡ sized 0x1f600 4)
    × (first_character (0xd8 ∷ 0x3d ∷ 0x00 ∷ 0x41 ∷ []) ≡ replacement)
    × (first_character (0x00 ∷ 0x41 ∷ []) ≡ sized 0x41 2)
unfolding utf8 utf8OfUnit character_of first_character
rows = (refl, refl, refl, refl, refl)
