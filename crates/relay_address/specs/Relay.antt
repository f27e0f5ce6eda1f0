-- Addresses of the relay layer (TS 24.011 §8.2.5): a length octet that counts the octets after it, a type octet, and the value, digits only.
use Rattle.std.specs.Prelude.{ℕ, ◌+◌, ◌≡◌, refl, not, ◌&&◌, List, [], ◌∷◌, map, eqb, leb, length, get_or, take, drop, if◌then◌else◌, Option, Some, None, Ok, Err}
use Rattle.octets.specs.Answers.{Said}
use Rattle.octets.specs.Held.{holding, filled, cleared_held, TypedHeld}
use Rattle.octets.specs.Checks.{Check, ◌unless◌, checked}
use Rattle.octets.specs.Each.{each}
use Rattle.octets.specs.Lent.{Making, made}
use Rattle.octets.specs.SemiOctets.{semi_octets, in_pairs}
use Rattle.octets.specs.Texts.{codes}
use Rattle.octets.specs.declared.Refusal.TheVariants.{LengthTooLarge, OctetsEnd, NumberTypeOrPlanTooLarge, NotInAlphabet, AddressTooLong, AlphanumericRelayAddress}
use Rattle.gsm7.specs.Alphabet.{index_of}
use Rattle.address.specs.Address.{digit_character, without_f, type_of_number, plan_of}
use Rattle.address.specs.Writing.{digit_characters, digit_value, is_digit, field_of}
use Rattle.relay_address.specs.declared.RelayAddress.{RelayAddress}
use Rattle.relay_address.specs.declared.RelayAddressRead.{RelayAddressRead}

-- ---- reading

-- an address in its record
unfoldable pub relay_with : ℕ → ℕ → List ℕ → RelayAddress
relay_with ton npi text = record { ton = ton; npi = npi; address = holding 508 text }

-- the octets that the length octet counts: the type octet and the value
abbrev pub counted : List ℕ → List ℕ
counted s = take (get_or s 0 0) (drop 1 s)

-- the digits of a value: all its semi-octets without F, wherever it is
abbrev pub digits_in : List ℕ → List ℕ
digits_in value = without_f (semi_octets value)

-- the address of these octets; of none it is no address. Type of number 5 is read as digits too
unfoldable pub relay_of : List ℕ → Option RelayAddress
relay_of [] = None
relay_of (octet ∷ value) = Some (relay_with (type_of_number octet) (plan_of octet) (map digit_character (digits_in value)))

-- an answer that is no refusal: the address, or none, and how many octets were read
abbrev pub read_as : Option RelayAddress → ℕ → Said RelayAddressRead
read_as a n = Ok (record { address = a; octets_read = n })

-- what the reader answers: 2, where the length octet or one that it counts isn't there
unfoldable pub relay_read : List ℕ → Said RelayAddressRead
relay_read s = if leb (1 + get_or s 0 0) (length s) then read_as (relay_of (counted s)) (1 + get_or s 0 0) else Err OctetsEnd

-- ---- writing

-- the value: digits two to an octet
abbrev pub value_of : List ℕ → List ℕ
value_of text = in_pairs (map digit_value text)

-- the octets of an address: the length octet counts the type octet and the value
unfoldable pub relay_octets : ℕ → ℕ → List ℕ → List ℕ
relay_octets ton npi text = field_of ton npi (1 + length (value_of text)) (value_of text)

-- 9, 32, 10, 11
unfoldable pub relay_checks : ℕ → ℕ → List ℕ → List Check
relay_checks ton npi text =
    (NumberTypeOrPlanTooLarge unless leb ton 7 && leb npi 15) ∷ (AlphanumericRelayAddress unless not (eqb ton 5))
    ∷ (NotInAlphabet unless each is_digit text) ∷ (AddressTooLong unless leb (length (value_of text)) 10) ∷ []

-- the digits that a record holds
abbrev pub digits_held : RelayAddress → List ℕ
digits_held a = filled a.address

-- the octets of the address that a record holds
abbrev pub octets_of : RelayAddress → List ℕ
octets_of a = relay_octets a.ton a.npi (digits_held a)

-- what writing makes: no address is 00; of an address 1, and then 9, 32, 10, 11
unfoldable pub relay_making : Option RelayAddress → Making ℕ
relay_making None = made (0x00 ∷ []) 1
relay_making (Some a) = checked ((LengthTooLarge unless leb a.address.length 508) ∷ relay_checks a.ton a.npi (digits_held a)) (octets_of a)

-- ---- what is no part of a record

-- what lies after the length set to zero: records are equal where these are
abbrev pub cleared_relay : Option RelayAddress → Option RelayAddress
cleared_relay None = None
cleared_relay (Some a) = Some (record { ton = a.ton; npi = a.npi; address = cleared_held a.address })

-- the array has the length of its type
abbrev pub Typed : Option RelayAddress → Type 0
Typed None = Unit
Typed (Some a) = TypedHeld a.address

-- 04 91 21 43 F5 read, octets after it not looked at; and written
known_number : (relay_read (0x04 ∷ 0x91 ∷ 0x21 ∷ 0x43 ∷ 0xf5 ∷ 0x77 ∷ []) ≡ read_as (Some (relay_with 1 1 (codes "12345"))) 5)
    × (relay_octets 1 1 (codes "12345") ≡ 0x04 ∷ 0x91 ∷ 0x21 ∷ 0x43 ∷ 0xf5 ∷ [])
unfolding codes relay_read relay_of relay_octets digit_characters digit_character digit_value without_f semi_octets in_pairs index_of
known_number = (refl, refl)
