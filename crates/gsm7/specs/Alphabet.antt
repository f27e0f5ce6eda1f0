-- The default alphabet and its extension table (TS 23.038 §6.2.1, §6.2.1.1), as code points.
use Rattle.std.specs.Prelude.{ℕ, zero, suc, ◌≡◌, refl, List, [], ◌∷◌, get_or, eqb, if◌then◌else◌}
use Rattle.std.proofs.Math.Option.{Option, none, some}
use Rattle.std.specs.Prelude.{None, Some, Option as Maybe}
use Rattle.gsm7.specs.declared.decode.Extension.{Extension}

-- the character of each code from 00 to 7F; the escape, 1B, reads as a space (NOTE 1)
abbrev pub alphabet : List ℕ
alphabet =
    0x40 ∷ 0xa3 ∷ 0x24 ∷ 0xa5 ∷ 0xe8 ∷ 0xe9 ∷ 0xf9 ∷ 0xec ∷
    0xf2 ∷ 0xc7 ∷ 0xa ∷ 0xd8 ∷ 0xf8 ∷ 0xd ∷ 0xc5 ∷ 0xe5 ∷
    0x394 ∷ 0x5f ∷ 0x3a6 ∷ 0x393 ∷ 0x39b ∷ 0x3a9 ∷ 0x3a0 ∷ 0x3a8 ∷
    0x3a3 ∷ 0x398 ∷ 0x39e ∷ 0x20 ∷ 0xc6 ∷ 0xe6 ∷ 0xdf ∷ 0xc9 ∷
    0x20 ∷ 0x21 ∷ 0x22 ∷ 0x23 ∷ 0xa4 ∷ 0x25 ∷ 0x26 ∷ 0x27 ∷
    0x28 ∷ 0x29 ∷ 0x2a ∷ 0x2b ∷ 0x2c ∷ 0x2d ∷ 0x2e ∷ 0x2f ∷
    0x30 ∷ 0x31 ∷ 0x32 ∷ 0x33 ∷ 0x34 ∷ 0x35 ∷ 0x36 ∷ 0x37 ∷
    0x38 ∷ 0x39 ∷ 0x3a ∷ 0x3b ∷ 0x3c ∷ 0x3d ∷ 0x3e ∷ 0x3f ∷
    0xa1 ∷ 0x41 ∷ 0x42 ∷ 0x43 ∷ 0x44 ∷ 0x45 ∷ 0x46 ∷ 0x47 ∷
    0x48 ∷ 0x49 ∷ 0x4a ∷ 0x4b ∷ 0x4c ∷ 0x4d ∷ 0x4e ∷ 0x4f ∷
    0x50 ∷ 0x51 ∷ 0x52 ∷ 0x53 ∷ 0x54 ∷ 0x55 ∷ 0x56 ∷ 0x57 ∷
    0x58 ∷ 0x59 ∷ 0x5a ∷ 0xc4 ∷ 0xd6 ∷ 0xd1 ∷ 0xdc ∷ 0xa7 ∷
    0xbf ∷ 0x61 ∷ 0x62 ∷ 0x63 ∷ 0x64 ∷ 0x65 ∷ 0x66 ∷ 0x67 ∷
    0x68 ∷ 0x69 ∷ 0x6a ∷ 0x6b ∷ 0x6c ∷ 0x6d ∷ 0x6e ∷ 0x6f ∷
    0x70 ∷ 0x71 ∷ 0x72 ∷ 0x73 ∷ 0x74 ∷ 0x75 ∷ 0x76 ∷ 0x77 ∷
    0x78 ∷ 0x79 ∷ 0x7a ∷ 0xe4 ∷ 0xf6 ∷ 0xf1 ∷ 0xfc ∷ 0xe0 ∷ []

abbrev pub row : ℕ → ℕ → Extension
row code character = record { code = code; character = character }

-- the extension table, code and character: form feed ^ { } \ [ ~ ] | €
abbrev pub extension : List Extension
extension =
    row 0x0a 0x0c ∷ row 0x14 0x5e ∷ row 0x28 0x7b ∷ row 0x29 0x7d ∷ row 0x2f 0x5c ∷
    row 0x3c 0x5b ∷ row 0x3d 0x7e ∷ row 0x3e 0x5d ∷ row 0x40 0x7c ∷ row 0x65 0x20ac ∷ []

-- the first row that has x in the column: the table is read by code and by character
unfoldable pub row_with : (Extension → ℕ) → ℕ → List Extension → Option Extension
row_with column x [] = none
row_with column x (e ∷ es) = if eqb (column e) x then some e else row_with column x es

-- the place of x in the list, or the list's length
unfoldable pub index_of : List ℕ → ℕ → ℕ
index_of [] x = zero
index_of (y ∷ ys) x = if eqb y x then zero else suc (index_of ys x)

-- the character of a code of the default alphabet
unfoldable pub character : ℕ → ℕ
character code = get_or alphabet code 0

-- the character of a row, or another where there is no row
abbrev pub character_or : ℕ → Option Extension → ℕ
character_or other none = other
character_or other (some e) = e.character

-- the character of a code that follows an escape: of the extension table, else of the default alphabet
unfoldable pub escaped : ℕ → ℕ
escaped code = character_or (character code) (row_with (λ (e : Extension). e.code) code extension)

-- the character of a row, where there is one
abbrev pub character_of : Option Extension → Maybe ℕ
character_of none = None
character_of (some e) = Some e.character

-- the character of a code in the extension table; none where the table has no such code
unfoldable pub extension_character : ℕ → Maybe ℕ
extension_character code = character_of (row_with (λ (e : Extension). e.code) code extension)

-- 1 where an escape and the code lead to no character of the extension table, so that the one shown stands in for another; else 0
abbrev pub one_without : Option Extension → ℕ
one_without none = 1
one_without (some e) = 0

unfoldable pub replaced : ℕ → ℕ
replaced code = one_without (row_with (λ (e : Extension). e.code) code extension)

-- 41 is A, 1B 65 is the euro sign, 1B 41 is A, in place of another; so is the space of 1B 1B
known_characters : (character 0x41 ≡ 0x41) × (escaped 0x65 ≡ 0x20ac) × (escaped 0x41 ≡ 0x41) × (replaced 0x65 ≡ 0) × (replaced 0x41 ≡ 1) × (replaced 0x1b ≡ 1)
    × (extension_character 0x65 ≡ Some 0x20ac) × (extension_character 0x41 ≡ None)
unfolding character escaped replaced extension_character row_with
known_characters = (refl, refl, refl, refl, refl, refl, refl, refl)
