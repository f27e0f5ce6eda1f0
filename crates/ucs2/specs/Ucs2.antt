-- UCS2 user data (TS 23.038 §6.2.3): two octets a character, the high one first; what they are as packed septets (TS 23.038 §6.2.1), and packed septets as UCS2.
use Rattle.std.specs.Prelude.{ℕ, ◌+◌, ◌*◌, ◌/◌, ◌%◌, ◌≡◌, refl, List, [], ◌∷◌, ◌++◌, length, eqb, ltb, if◌then◌else◌}
use Rattle.std.proofs.Math.Option.{Option, none, some}
use Rattle.octets.specs.Lent.{Making, refused, made}
use Rattle.octets.specs.declared.Refusal.TheVariants.{LengthTooLarge, TooFewOctets, OddOctets, InNeitherTable}
use Rattle.septets.specs.Septets.{number_of, lowest_digits, packed_septets, septets_in, octet_count}
use Rattle.gsm7.specs.Alphabet.{row_with, index_of, character, escaped}
use Rattle.gsm7.specs.Reading.{utf8}
use Rattle.gsm7.specs.Writing.{extended_code, code_of, before}
use Rattle.gsm7.specs.Packing.{packed_after}
use Rattle.gsm7.specs.declared.packing.Packed.{Packed}

-- ---- characters

-- the characters of UCS2; a lone last octet is none
unfoldable pub characters_in : List ℕ → List ℕ
characters_in [] = []
characters_in (high ∷ []) = []
characters_in (high ∷ low ∷ rest) = (high * 256 + low) ∷ characters_in rest

-- a character's two octets
abbrev pub pair : ℕ → List ℕ
pair c = c / 256 ∷ c % 256 ∷ []

-- the UCS2 of characters
unfoldable pub ucs2_of : List ℕ → List ℕ
ucs2_of [] = []
ucs2_of (c ∷ cs) = c / 256 ∷ c % 256 ∷ ucs2_of cs

-- their UTF-8, one after the other
unfoldable pub utf8_of : List ℕ → List ℕ
utf8_of [] = []
utf8_of (c ∷ cs) = utf8 c ++ utf8_of cs

-- the septets of characters, one after the other; nothing, where one is in neither table
unfoldable pub codes_of : List ℕ → Option (List ℕ)
codes_of [] = some []
codes_of (c ∷ cs) = before (code_of c) (codes_of cs)

-- the characters that septets show: an escape takes the next septet with it; as the last one it is a space (the law `characters_shown`: those of `text_of`)
unfoldable mutual
  pub characters_of : List ℕ → List ℕ
  characters_of [] = []
  characters_of (s ∷ ss) =
      let escape = after_escape ss in
      let plain = character s ∷ characters_of ss in
      if eqb s 0x1b then escape else plain

  pub after_escape : List ℕ → List ℕ
  after_escape [] = 0x20 ∷ []
  after_escape (t ∷ ss) = escaped t ∷ characters_of ss

-- "A€" is 0041 20AC, and 41 1B 65; 1B 41, 1B 1B and a last 1B show A, a space and a space
known_characters : (characters_in (0x00 ∷ 0x41 ∷ 0x20 ∷ 0xac ∷ []) ≡ 0x41 ∷ 0x20ac ∷ []) × (ucs2_of (0x41 ∷ 0x20ac ∷ []) ≡ 0x00 ∷ 0x41 ∷ 0x20 ∷ 0xac ∷ [])
    × (utf8_of (0x41 ∷ 0x20ac ∷ []) ≡ 0x41 ∷ 0xe2 ∷ 0x82 ∷ 0xac ∷ []) × (codes_of (0x41 ∷ 0x20ac ∷ []) ≡ some (0x41 ∷ 0x1b ∷ 0x65 ∷ [])) × (characters_of (0x41 ∷ 0x1b ∷ 0x65 ∷ []) ≡ 0x41 ∷ 0x20ac ∷ [])
    × (characters_of (0x1b ∷ 0x41 ∷ 0x1b ∷ 0x1b ∷ 0x1b ∷ []) ≡ 0x41 ∷ 0x20 ∷ 0x20 ∷ [])
unfolding characters_in ucs2_of utf8_of codes_of characters_of after_escape utf8 code_of extended_code before index_of row_with character escaped
known_characters = (refl, refl, refl, refl, refl, refl)

-- ---- the two conversions

-- the septets packed as the packers pack them, with no header: 22; where a character has none, 31
abbrev pub packed_codes : Option (List ℕ) → Making Packed
packed_codes none = refused InNeitherTable
packed_codes (some ss) = packed_after [] (some ss)

-- UCS2 to packed septets: 30, 31, 22
unfoldable pub to_gsm7 : List ℕ → Making Packed
to_gsm7 ucs2 = if eqb (length ucs2 % 2) 0 then packed_codes (codes_of (characters_in ucs2)) else refused OddOctets

-- n packed septets to UCS2: 1 where they are more than 255, 19 where the octets are too few for them
unfoldable pub to_ucs2 : List ℕ → ℕ → Making ℕ
to_ucs2 os n =
    let ucs2 = ucs2_of (characters_of (septets_in os 0 n)) in
    if ltb 255 n then refused LengthTooLarge
    else if ltb (length os) (octet_count 0 n) then refused TooFewOctets
    else made ucs2 (length ucs2)

-- the euro sign is 9B 32, both ways; "AB"; the setpoint "21.5"; 1B 41 is shown as A, and comes back as 41
known_both_ways : (to_gsm7 (0x20 ∷ 0xac ∷ []) ≡ made (0x9b ∷ 0x32 ∷ []) (record { octets = 2; septets = 2 })) × (to_ucs2 (0x9b ∷ 0x32 ∷ []) 2 ≡ made (0x20 ∷ 0xac ∷ []) 2)
    × (to_gsm7 (0x00 ∷ 0x41 ∷ 0x00 ∷ 0x42 ∷ []) ≡ made (0x41 ∷ 0x21 ∷ []) (record { octets = 2; septets = 2 })) × (to_ucs2 (0x41 ∷ 0x21 ∷ []) 2 ≡ made (0x00 ∷ 0x41 ∷ 0x00 ∷ 0x42 ∷ []) 4)
    × (to_gsm7 (0x00 ∷ 0x32 ∷ 0x00 ∷ 0x31 ∷ 0x00 ∷ 0x2e ∷ 0x00 ∷ 0x35 ∷ []) ≡ made (0xb2 ∷ 0x98 ∷ 0xab ∷ 0x06 ∷ []) (record { octets = 4; septets = 4 }))
    × (to_ucs2 (0xb2 ∷ 0x98 ∷ 0xab ∷ 0x06 ∷ []) 4 ≡ made (0x00 ∷ 0x32 ∷ 0x00 ∷ 0x31 ∷ 0x00 ∷ 0x2e ∷ 0x00 ∷ 0x35 ∷ []) 8)
    × (to_ucs2 (0x9b ∷ 0x20 ∷ []) 2 ≡ made (0x00 ∷ 0x41 ∷ []) 2) × (to_gsm7 (0x00 ∷ 0x41 ∷ []) ≡ made (0x41 ∷ []) (record { octets = 1; septets = 1 }))
unfolding to_gsm7 to_ucs2 characters_in ucs2_of codes_of characters_of after_escape packed_after packed_septets septets_in number_of lowest_digits code_of extended_code before index_of row_with character escaped
known_both_ways = (refl, refl, refl, refl, refl, refl, refl, refl)

-- 001B, a surrogate and a byte order mark are in neither table; an odd number of octets comes first; 256 septets; one septet and no octet
known_refusals : (to_gsm7 (0x00 ∷ 0x1b ∷ []) ≡ refused InNeitherTable) × (to_gsm7 (0xd8 ∷ 0x3d ∷ []) ≡ refused InNeitherTable) × (to_gsm7 (0xfe ∷ 0xff ∷ 0x00 ∷ 0x41 ∷ []) ≡ refused InNeitherTable)
    × (to_gsm7 (0x00 ∷ 0x1b ∷ 0x00 ∷ []) ≡ refused OddOctets) × (to_ucs2 [] 256 ≡ refused LengthTooLarge) × (to_ucs2 [] 1 ≡ refused TooFewOctets)
unfolding to_gsm7 to_ucs2 characters_in codes_of packed_after code_of extended_code before index_of row_with
known_refusals = (refl, refl, refl, refl, refl, refl)
