-- Times (TS 23.040 §9.2.3.11): fourteen hexadecimal digits are seven octets, the first digit of each pair in the low half.
use Rattle.std.specs.Prelude.{ℕ, ◌+◌, ◌-◌, ◌*◌, ◌/◌, ◌%◌, ◌≡◌, refl, Bool, true, false, ◌&&◌, ◌||◌, List, [], ◌∷◌, map, eqb, leb, length, get_or, if◌then◌else◌}
use Prim.Native.Char.{code}
use Rattle.octets.specs.Held.{holding}
use Rattle.octets.specs.Choice.{within}
use Rattle.octets.specs.Each.{each}
use Rattle.octets.specs.Texts.{codes}
use Rattle.octets.specs.declared.Held.{Held}

-- ---- hexadecimal digits

-- the capital digit of a value below 16
unfoldable pub hex_digit : ℕ → ℕ
hex_digit value = get_or (codes "0123456789ABCDEF") value 0

-- an octet in two capital digits, the high half first
abbrev pub in_hex : ℕ → List ℕ
in_hex octet = hex_digit (octet / 16) ∷ hex_digit (octet % 16) ∷ []

-- 0 to 9, A to F or a to f
unfoldable pub is_hex : ℕ → Bool
is_hex c = within (code "0") (code "9") c || within (code "A") (code "F") c || within (code "a") (code "f") c

-- the value of a digit, either case
unfoldable pub hex_value : ℕ → ℕ
hex_value c = if leb c (code "9") then c - code "0" else if leb c (code "F") then c - code "A" + 10 else c - code "a" + 10

-- the digits with A to F for a to f
abbrev pub capital : ℕ → ℕ
capital c = if within (code "a") (code "f") c then c - code "a" + code "A" else c

unfoldable pub capitals : List ℕ → List ℕ
capitals = map capital

-- ---- digits and octets

-- the digits of octets: of each the low half first, as capitals
unfoldable pub time_digits : List ℕ → List ℕ
time_digits [] = []
time_digits (octet ∷ octets) = hex_digit (octet % 16) ∷ hex_digit (octet / 16) ∷ time_digits octets

-- the octets of digits: the first of each pair in the low half
unfoldable pub time_octets : List ℕ → List ℕ
time_octets [] = []
time_octets (first ∷ []) = []
time_octets (first ∷ second ∷ digits) = (hex_value first + 16 * hex_value second) ∷ time_octets digits

-- fourteen hexadecimal digits, either case
unfoldable pub is_time : List ℕ → Bool
is_time digits = eqb (length digits) 14 && each is_hex digits

known_time : (time_octets (codes "24021512304500") ≡ 0x42 ∷ 0x20 ∷ 0x51 ∷ 0x21 ∷ 0x03 ∷ 0x54 ∷ 0x00 ∷ [])
    × (time_digits (0x42 ∷ 0x20 ∷ 0x51 ∷ 0x21 ∷ 0x03 ∷ 0x54 ∷ 0x00 ∷ []) ≡ codes "24021512304500")
    × (time_octets (codes "fFaA") ≡ 0xff ∷ 0xaa ∷ []) × (time_digits (0xff ∷ 0xa9 ∷ []) ≡ codes "FF9A")
    × (in_hex 0x4f ≡ codes "4F")
    × (is_time (codes "240215123045fA") ≡ true) × (is_time (codes "240215123045gA") ≡ false) × (is_time (codes "240215123045f") ≡ false)
unfolding codes hex_digit is_hex hex_value time_digits time_octets is_time each
known_time = (refl, refl, refl, refl, refl, refl, refl, refl)

-- ---- times in records

-- a time in a record
abbrev pub Time : Type 0
Time = Held 14

-- the time that octets are read as
abbrev pub time_in : List ℕ → Time
time_in os = holding 14 (time_digits os)

-- its letters capital
abbrev pub capital_time : Time → Time
capital_time t = record { octets = capitals t.octets; length = t.length }
