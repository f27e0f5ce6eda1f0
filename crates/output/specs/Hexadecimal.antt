-- Octets as hexadecimal digits, two each.
use Rattle.std.specs.Prelude.{ℕ, ◌+◌, ◌*◌, ◌/◌, ◌%◌, ◌≡◌, refl, Bool, true, false, ◌&&◌, List, [], ◌∷◌, ◌++◌, eqb, leb, length, get_or, drop, if◌then◌else◌, Option, Some, None, Result, Ok, Err}
use Rattle.octets.specs.Each.{each}
use Rattle.octets.specs.Texts.{codes}
use Rattle.time.specs.Time.{is_hex, hex_value}
use Rattle.output.specs.declared.hexadecimal.HexError.{HexError}

-- the lower-case digit of a value below 16
unfoldable pub lower_digit : ℕ → ℕ
lower_digit value = get_or (codes "0123456789abcdef") value 0

-- octets as hexadecimal: of each the high half first
unfoldable pub hex_text : List ℕ → List ℕ
hex_text [] = []
hex_text (octet ∷ octets) = lower_digit (octet / 16) ∷ lower_digit (octet % 16) ∷ hex_text octets

-- the value of a hexadecimal digit, either case; none of another character
unfoldable pub digit_value : ℕ → Option ℕ
digit_value c = if is_hex c then Some (hex_value c) else None

-- an even number of hexadecimal digits, either case
unfoldable pub is_hex_text : List ℕ → Bool
is_hex_text text = eqb (length text % 2) 0 && each is_hex text

-- the octets of hexadecimal digits
unfoldable pub octets_of : List ℕ → List ℕ
octets_of [] = []
octets_of (first ∷ []) = []
octets_of (first ∷ second ∷ digits) = (16 * hex_value first + hex_value second) ∷ octets_of digits

-- the answer to a text that is read into a buffer, and the buffer then
unfoldable pub read_into : List ℕ → List ℕ → Result ℕ HexError × List ℕ
read_into text buffer =
    if is_hex_text text then
    if leb (length (octets_of text)) (length buffer) then (Ok (length (octets_of text)), octets_of text ++ drop (length (octets_of text)) buffer)
    else (Err HexError.TooLong, buffer)
    else (Err HexError.NotHex, buffer)

known_hex : (hex_text (0x1f ∷ 0xa0 ∷ []) ≡ codes "1fa0") × (octets_of (codes "1Fa0") ≡ 0x1f ∷ 0xa0 ∷ [])
    × (is_hex_text (codes "1Fa0") ≡ true) × (is_hex_text (codes "1Fa") ≡ false) × (is_hex_text (codes "1g") ≡ false) × (is_hex_text [] ≡ true)
unfolding codes lower_digit hex_text is_hex_text each octets_of is_hex hex_value
known_hex = (refl, refl, refl, refl, refl, refl)

known_reads : (read_into (codes "4142") (codes "...") ≡ (Ok 2, codes "AB.")) × (read_into (codes "4142") (codes ".") ≡ (Err HexError.TooLong, codes "."))
    × (read_into (codes "4-") (codes "...") ≡ (Err HexError.NotHex, codes "..."))
unfolding codes read_into is_hex_text each octets_of is_hex hex_value
known_reads = (refl, refl, refl)
