-- Addresses (TS 23.040 §9.1.2.5), what a writer makes of type, plan and text: a length octet L in semi-octets, a type octet, and ceil(L/2) value octets.
use Rattle.std.specs.Prelude.{ℕ, ◌+◌, ◌*◌, ◌/◌, ◌≡◌, refl, Bool, true, false, ◌&&◌, ◌||◌, List, [], ◌∷◌, map, eqb, leb, ltb, length, if◌then◌else◌}
use Rattle.std.proofs.Math.Option.{Option, none, some}
use Rattle.octets.specs.Checks.{Check, ◌unless◌}
use Rattle.octets.specs.Each.{each}
use Rattle.octets.specs.Lent.{Making, refused, made}
use Rattle.octets.specs.SemiOctets.{in_pairs}
use Rattle.octets.specs.Texts.{codes}
use Rattle.octets.specs.declared.Refusal.TheVariants.{NumberTypeOrPlanTooLarge, NotInAlphabet, AddressTooLong}
use Rattle.septets.specs.Septets.{packed_septets}
use Rattle.gsm7.specs.Alphabet.{index_of}
use Rattle.gsm7.specs.Writing.{septets_of}

-- ---- digits (§9.1.2.3)

-- the characters of the semi-octets 0 to E; F is none
unfoldable pub digit_characters : List ℕ
digit_characters = codes "0123456789*#abc"

-- the semi-octet of a character: its place among them, 15 for any other
unfoldable pub digit_value : ℕ → ℕ
digit_value c = index_of digit_characters c

unfoldable pub is_digit : ℕ → Bool
is_digit c = ltb (digit_value c) 15

-- ---- the octets

-- a field: L, the type octet with bit 7 set, value
abbrev pub field_of : ℕ → ℕ → ℕ → List ℕ → List ℕ
field_of ton npi l value = l ∷ (128 + ton * 16 + npi) ∷ value

-- a field with septets: L is ceil(7s/4)
abbrev pub text_field : ℕ → ℕ → Option (List ℕ) → Option (List ℕ)
text_field ton npi none = none
text_field ton npi (some ss) = some (field_of ton npi ((length ss * 7 + 3) / 4) (packed_septets 0 ss))

-- the octets of an address; nothing, where a character is not in the alphabet used
unfoldable pub address_octets : ℕ → ℕ → List ℕ → Option (List ℕ)
address_octets ton npi text =
    if eqb ton 5 then text_field ton npi (septets_of text)
    else if each is_digit text then some (field_of ton npi (length text) (in_pairs (map digit_value text)))
    else none

-- the octets, where there are some
abbrev pub octets_or : List ℕ → Option (List ℕ) → List ℕ
octets_or other none = other
octets_or other (some octets) = octets

-- ---- what is written

-- an address field of more than 12 octets has a value of more than 10
abbrev pub limited : Option (List ℕ) → Making ℕ
limited none = refused NotInAlphabet
limited (some octets) = if ltb 12 (length octets) then refused AddressTooLong else made octets (length octets)

-- what writing type, plan and text makes: refusals 9, 10, 11
unfoldable pub address_making : ℕ → ℕ → List ℕ → Making ℕ
address_making ton npi text = if ltb 7 ton || ltb 15 npi then refused NumberTypeOrPlanTooLarge else limited (address_octets ton npi text)

-- those refusals as checks of a writer of several fields
abbrev pub is_some : Option (List ℕ) → Bool
is_some none = false
is_some (some xs) = true

abbrev pub address_checks : ℕ → ℕ → List ℕ → List Check
address_checks ton npi text =
    (NumberTypeOrPlanTooLarge unless leb ton 7 && leb npi 15) ∷ (NotInAlphabet unless is_some (address_octets ton npi text))
    ∷ (AddressTooLong unless leb (length (octets_or [] (address_octets ton npi text))) 12) ∷ []

-- ---- a known row: type 1 plan 1 "12345"

known_number : address_octets 1 1 (codes "12345") ≡ some (0x05 ∷ 0x91 ∷ 0x21 ∷ 0x43 ∷ 0xf5 ∷ [])
unfolding codes digit_characters digit_value is_digit address_octets each index_of in_pairs
known_number = refl
