-- Septets in octets (TS 23.038 §6.1.2.1.1), as a change of base: the octets are the digits of one number, lowest first, and above the fill bits the septets are the digits of the same number.
use Rattle.std.specs.Prelude.{ℕ, zero, suc, ◌+◌, ◌-◌, ◌*◌, ◌/◌, ◌%◌, ◌^◌, ◌<◌, ◌≡◌, refl, List, [], ◌∷◌, length, get_or}
use Rattle.septets.specs.declared.BitPlace.{BitPlace}

-- the number with these digits of w bits, lowest first
unfoldable pub number_of : ℕ → List ℕ → ℕ
number_of w [] = 0
number_of w (d ∷ ds) = number_of w ds * 2 ^ w + d

-- the n lowest digits of w bits of a number, lowest first
unfoldable pub lowest_digits : ℕ → ℕ → ℕ → List ℕ
lowest_digits w zero x = []
lowest_digits w (suc n) x = x % 2 ^ w ∷ lowest_digits w n (x / 2 ^ w)

-- every element is a digit of w bits: octets for w = 8, septets for w = 7
abbrev pub Digits : ℕ → List ℕ → Type 0
Digits w ds = (i : ℕ) → get_or ds i 0 < 2 ^ w

-- how many octets f fill bits and n septets take
abbrev pub octet_count : ℕ → ℕ → ℕ
octet_count f n = (f + n * 7 + 7) / 8

-- the n septets after f fill bits
unfoldable pub septets_in : List ℕ → ℕ → ℕ → List ℕ
septets_in os f n = lowest_digits 7 n (number_of 8 os / 2 ^ f)

-- the septet from a bit on
unfoldable pub septet_from : List ℕ → ℕ → ℕ
septet_from os bit = number_of 8 os / 2 ^ bit % 2 ^ 7

-- the septet at an index, after f fill bits
abbrev pub septet_at : List ℕ → ℕ → ℕ → ℕ
septet_at os f index = septet_from os (f + index * 7)

-- the place of a bit: the quotient by 8 is the octet, the remainder the bit in it
abbrev pub bit_place : ℕ → BitPlace
bit_place bit = record { octet = bit / 8; shift = bit % 8 }

-- the bit at a place
abbrev pub bit_of : BitPlace → ℕ
bit_of p = p.octet * 8 + p.shift

-- the place k septets on: seven bits on, k times
unfoldable pub place_after : BitPlace → ℕ → BitPlace
place_after p zero = p
place_after p (suc k) = bit_place (bit_of (place_after p k) + 7)

-- a septet of a window of bits
abbrev pub in_window : ℕ → ℕ → ℕ
in_window window index = window / 2 ^ (index * 7) % 2 ^ 7

-- the septets packed after f zero bits, with zero bits to the octet
unfoldable pub packed_septets : ℕ → List ℕ → List ℕ
packed_septets f ss = lowest_digits 8 (octet_count f (length ss)) (number_of 7 ss * 2 ^ f)

-- the septets that a header of h octets takes, ceil(8h/7), and the fill bits from its end to the septet boundary (TS 23.040 §9.2.3.24)
abbrev pub header_septets : ℕ → ℕ
header_septets h = (h * 8 + 6) / 7

abbrev pub fill_bits : ℕ → ℕ
fill_bits h = header_septets h * 7 - h * 8

-- "hello" (68 65 6C 6C 6F) is E8 32 9B FD 06, both ways
hello : (packed_septets 0 (0x68 ∷ 0x65 ∷ 0x6c ∷ 0x6c ∷ 0x6f ∷ []) ≡ 0xe8 ∷ 0x32 ∷ 0x9b ∷ 0xfd ∷ 0x06 ∷ [])
    × (septets_in (0xe8 ∷ 0x32 ∷ 0x9b ∷ 0xfd ∷ 0x06 ∷ []) 0 5 ≡ 0x68 ∷ 0x65 ∷ 0x6c ∷ 0x6c ∷ 0x6f ∷ [])
unfolding number_of lowest_digits packed_septets septets_in
hello = (refl, refl)

-- the third septet after one fill bit starts at bit 15, the last of octet 1; of a window of E8 32 the second septet is 65
places : (◌≡◌ {A = BitPlace} (bit_place (1 + 2 * 7)) (record { octet = 1; shift = 7 }))
    × (◌≡◌ {A = BitPlace} (place_after (bit_place 1) 2) (record { octet = 1; shift = 7 }))
    × (in_window (number_of 8 (0xe8 ∷ 0x32 ∷ [])) 1 ≡ 0x65)
unfolding place_after number_of
places = (refl, refl, refl)
