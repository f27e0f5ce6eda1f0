-- TP-Data-Coding-Scheme (TS 23.038 §4) and TP-User-Data-Length (TS 23.040 §9.2.3.16).
use Rattle.std.specs.Prelude.{ℕ, ◌+◌, ◌*◌, ◌/◌, ◌%◌, ◌≡◌, refl, List, [], ◌∷◌, eqb, leb, length as size, take, if◌then◌else◌, Err}
use Rattle.octets.specs.Answers.{Said, fine}
use Rattle.octets.specs.Checks.{Check, ◌unless◌, found}
use Rattle.octets.specs.declared.Refusal.TheVariants.{UserDataLengthDisagrees, UserDataTooLong}
use Rattle.octets.specs.declared.Held.{Held}
use Rattle.coding.specs.declared.UserDataCoding.{UserDataCoding}
use Rattle.coding.specs.declared.UserDataCoding.TheVariants.{Gsm7Bit, EightBit, Ucs2, Compressed}

-- the character set in bits 3 and 2: 01 8-bit, 10 UCS2, others 7-bit
unfoldable pub character_set : ℕ → UserDataCoding
character_set bits = if eqb bits 1 then EightBit else if eqb bits 2 then Ucs2 else Gsm7Bit

-- by the high half: 0 to 7 compressed if bit 5 is set, else the character set; 8 to D 7-bit; E UCS2; F 8-bit if bit 2 is set, else 7-bit
unfoldable pub coding_of : ℕ → UserDataCoding
coding_of dcs =
    if leb (dcs / 16) 7 then (if eqb (dcs / 32 % 2) 1 then Compressed else character_set (dcs / 4 % 4))
    else if leb (dcs / 16) 0xd then Gsm7Bit
    else if eqb (dcs / 16) 0xe then Ucs2
    else if eqb (dcs / 4 % 2) 1 then EightBit
    else Gsm7Bit

-- the octets that user data take: UDL counts septets in 7-bit coding, ceil(7 × UDL / 8) octets, and octets in the others
unfoldable pub data_octets : UserDataCoding → ℕ → ℕ
data_octets Gsm7Bit udl = (udl * 7 + 7) / 8
data_octets EightBit udl = udl
data_octets Ucs2 udl = udl
data_octets Compressed udl = udl

-- user data of n octets can be written within a limit: their number is what UDL and DCS give (refusal 7), and at most the limit (8)
abbrev pub data_within : ℕ → ℕ → ℕ → ℕ → List Check
data_within limit dcs udl n = (UserDataLengthDisagrees unless eqb n (data_octets (coding_of dcs) udl)) ∷ (UserDataTooLong unless leb n limit) ∷ []

-- so within 140, the limit of the ported writers
abbrev pub data_checks : ℕ → ℕ → ℕ → List Check
data_checks dcs udl n = data_within 140 dcs udl n

unfoldable pub checked_data : ℕ → ℕ → ℕ → Said Unit
checked_data dcs udl n = found (data_checks dcs udl n)

known_codings : (coding_of 0x0c ≡ Gsm7Bit) × (coding_of 0x48 ≡ Ucs2) × (coding_of 0xc8 ≡ Gsm7Bit) × (coding_of 0xf4 ≡ EightBit) × (coding_of 0x20 ≡ Compressed)
unfolding coding_of character_set
known_codings = (refl, refl, refl, refl, refl)

-- 160 septets are 140 octets, and can be written; 161 can't
known_sizes : (data_octets Gsm7Bit 160 ≡ 140) × (checked_data 0x00 160 140 ≡ fine) × (checked_data 0x00 161 141 ≡ Err UserDataTooLong) × (checked_data 0x00 160 139 ≡ Err UserDataLengthDisagrees)
unfolding coding_of character_set data_octets checked_data
known_sizes = (refl, refl, refl, refl)

-- user data in a record
abbrev pub UserData : Type 0
UserData = Held 255
