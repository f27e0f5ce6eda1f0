-- Addresses (TS 23.040 §9.1.2.5): a length octet L in semi-octets, a type octet, and ceil(L/2) value octets.
use Rattle.std.specs.Prelude.{ℕ, ◌+◌, ◌*◌, ◌/◌, ◌%◌, ◌≡◌, refl, List, [], ◌∷◌, map, eqb, ltb, get_or, take, drop, if◌then◌else◌}
use Rattle.octets.specs.Held.{holding, filled, cleared_held, TypedHeld}
use Rattle.octets.specs.Each.{each}
use Rattle.octets.specs.Lent.{Making, refused}
use Rattle.octets.specs.SemiOctets.{semi_octets, in_pairs}
use Rattle.octets.specs.Texts.{codes}
use Rattle.octets.specs.declared.Refusal.TheVariants.{LengthTooLarge}
use Rattle.septets.specs.Septets.{number_of, lowest_digits, septets_in}
use Rattle.gsm7.specs.Alphabet.{index_of, row_with, replaced}
use Rattle.gsm7.specs.Reading.{text_of, replaced_in, replaced_after}
use Rattle.address.specs.Writing.{digit_characters, digit_value, is_digit, address_octets, octets_or, address_making}
use Rattle.address.specs.declared.SMSAddress.{SMSAddress}

-- ---- reading

-- the character of a semi-octet but F
unfoldable pub digit_character : ℕ → ℕ
digit_character value = get_or digit_characters value 0

-- semi-octets without F, wherever it is
unfoldable pub without_f : List ℕ → List ℕ
without_f [] = []
without_f (d ∷ ds) = if eqb d 0xf then without_f ds else d ∷ without_f ds

-- bits 6 to 4 of the type octet are the type of number, 3 to 0 the plan; bit 7 is ignored
abbrev pub type_of_number : ℕ → ℕ
type_of_number octet = octet / 16 % 8

abbrev pub plan_of : ℕ → ℕ
plan_of octet = octet % 16

-- the text of a value of L semi-octets: type 5 holds floor(4L/7) septets, the others digits
unfoldable pub value_text : ℕ → ℕ → List ℕ → List ℕ
value_text ton l value = if eqb ton 5 then text_of (septets_in value 0 (l * 4 / 7)) else map digit_character (without_f (take l (semi_octets value)))

-- the septets of such a value that are read as text: digits are none
unfoldable pub value_septets : ℕ → ℕ → List ℕ → List ℕ
value_septets ton l value = if eqb ton 5 then septets_in value 0 (l * 4 / 7) else []

-- an address in its record
unfoldable pub address_with : ℕ → ℕ → List ℕ → SMSAddress
address_with ton npi text = record { ton = ton; npi = npi; address = holding 290 text }

-- the text of an address field f: L, type, value
unfoldable pub text_in : List ℕ → List ℕ
text_in f = value_text (type_of_number (get_or f 1 0)) (get_or f 0 0) (drop 2 f)

-- its septets that are read as text
unfoldable pub septets_read : List ℕ → List ℕ
septets_read f = value_septets (type_of_number (get_or f 1 0)) (get_or f 0 0) (drop 2 f)

-- the address that a field is read as
unfoldable pub address_in : List ℕ → SMSAddress
address_in f = address_with (type_of_number (get_or f 1 0)) (plan_of (get_or f 1 0)) (text_in f)

-- the number of octets of the address field at the start of s
abbrev pub address_size : List ℕ → ℕ
address_size s = 2 + (get_or s 0 0 + 1) / 2

-- document 01's canonical address: the text read, written afresh with its own length, also past 10 octets (`canonical_is_some`: there always is one)
unfoldable pub canonical_address : List ℕ → List ℕ
canonical_address f = octets_or [] (address_octets (type_of_number (get_or f 1 0)) (plan_of (get_or f 1 0)) (text_in f))

-- ---- writing

-- the text that a record holds
abbrev pub text_held : SMSAddress → List ℕ
text_held a = filled a.address

-- what lies after the length is no part of a record: set to zero
abbrev pub cleared_address : SMSAddress → SMSAddress
cleared_address a = record { ton = a.ton; npi = a.npi; address = cleared_held a.address }

-- the array has the length of its type
abbrev pub TypedAddress : SMSAddress → Type 0
TypedAddress a = TypedHeld a.address

-- what writing a record makes: 1, and then what writing its type, plan and text makes
unfoldable pub encoding : SMSAddress → Making ℕ
encoding a = if ltb 290 a.address.length then refused LengthTooLarge else address_making a.ton a.npi (text_held a)

-- ---- known rows: 03 91 F1 02 read, and its canonical octets

known_number : (text_in (0x03 ∷ 0x91 ∷ 0xf1 ∷ 0x02 ∷ []) ≡ codes "12") × (canonical_address (0x03 ∷ 0x91 ∷ 0xf1 ∷ 0x02 ∷ []) ≡ 0x02 ∷ 0x91 ∷ 0x21 ∷ [])
unfolding codes digit_characters digit_character digit_value is_digit without_f value_text text_in address_octets canonical_address each index_of semi_octets in_pairs
known_number = (refl, refl)

-- a sender in septets: "A" and an escape that is the last one; a number of the same value has none
known_septets : (septets_read (0x04 ∷ 0xd0 ∷ 0xc1 ∷ 0x0d ∷ []) ≡ 0x41 ∷ 0x1b ∷ []) × (replaced_in (septets_read (0x04 ∷ 0xd0 ∷ 0xc1 ∷ 0x0d ∷ [])) ≡ 1) × (septets_read (0x04 ∷ 0x91 ∷ 0xc1 ∷ 0x0d ∷ []) ≡ [])
unfolding value_septets septets_read number_of lowest_digits septets_in replaced_in replaced_after replaced row_with
known_septets = (refl, refl, refl)
