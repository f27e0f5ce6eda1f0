-- The part of a concatenated short message that a DELIVER is (TS 23.040 §9.2.3.24.1, §9.2.3.24.8).
use Rattle.std.specs.Prelude.{ℕ, ◌-◌, ◌≤◌, ◌≡◌, refl, List, [], ◌∷◌, length, drop, Ok, Err}
use Rattle.octets.specs.Answers.{Said}
use Rattle.octets.specs.Held.{filled}
use Rattle.coding.specs.declared.UserDataCoding.{UserDataCoding}
use Rattle.coding.specs.declared.UserDataCoding.TheVariants.{Gsm7Bit, EightBit, Ucs2, Compressed}
use Rattle.septets.specs.Septets.{number_of, lowest_digits, septets_in, header_septets, fill_bits}
use Rattle.gsm7.specs.Alphabet.{character}
use Rattle.gsm7.specs.Reading.{utf8, text_of}
use Rattle.user_data_header.specs.Header.{header_octets}
use Rattle.address.specs.Address.{text_held}
use Rattle.address.specs.declared.SMSAddress.{SMSAddress}
use Rattle.deliver.specs.declared.SmsDeliver.{SmsDeliver}
use Rattle.part_number.specs.Numbering.{numbering_in}
use Rattle.part_number.specs.declared.PartNumber.{PartNumber}
use Rattle.part_number.specs.declared.Reference.{Reference}

-- parts belong together when these are equal: originating address (type, plan, text), reference with its width, total
pub record Key : Type 0 where
  pub ton : ℕ
  pub npi : ℕ
  pub text : List ℕ
  pub reference : Reference
  pub total : ℕ

-- one that a record can hold: the address's text is no longer than its array
abbrev pub Named : Key → Type 0
Named key = length key.text ≤ 290

abbrev pub key_of : SMSAddress → Reference → ℕ → Key
key_of a reference total = record { ton = a.ton; npi = a.npi; text = text_held a; reference = reference; total = total }

-- what is kept of a part: TP-UDL, and TP-UD with its header
pub record Part : Type 0 where
  pub udl : ℕ
  pub octets : List ℕ

-- a part that has come: whose it is, the coding scheme, its number
pub record Arrived : Type 0 where
  pub key : Key
  pub dcs : ℕ
  pub number : ℕ
  pub part : Part

-- the part that user data are by what they say of its number
abbrev pub arrived_as : SMSAddress → ℕ → ℕ → List ℕ → Said PartNumber → Said Arrived
arrived_as a dcs udl ud (Ok n) = Ok (record { key = key_of a n.reference n.total; dcs = dcs; number = n.number; part = record { udl = udl; octets = ud } })
arrived_as a dcs udl ud (Err why) = Err why

-- the part that a DELIVER is: 17, 18, 24, 28
unfoldable pub arrival_of : SmsDeliver → Said Arrived
arrival_of m =
    let ud = filled m.tp_user_data in
    arrived_as m.tp_originating_address m.tp_dcs m.tp_user_data_length ud (numbering_in m.tp_udhi m.tp_dcs m.tp_user_data_length ud)

-- ---- what is shown of a part: in 7-bit coding its text, read by itself (an escape that ends it is a space); in the others the octets after the header

-- the septets that UDL counts after the header and its fill bits
unfoldable pub text_after : Part → List ℕ
text_after p = let h = header_octets p.octets in text_of (septets_in (drop h p.octets) (fill_bits h) (p.udl - header_septets h))

abbrev pub octets_after : Part → List ℕ
octets_after p = drop (header_octets p.octets) p.octets

unfoldable pub shown_in : UserDataCoding → Part → List ℕ
shown_in Gsm7Bit p = text_after p
shown_in EightBit p = octets_after p
shown_in Ucs2 p = octets_after p
shown_in Compressed p = octets_after p

-- a header of 6 octets takes 7 septets; then "A", in septets and as an octet
known_shown : (shown_in Gsm7Bit (record { udl = 8; octets = 0x05 ∷ 0x00 ∷ 0x03 ∷ 0x07 ∷ 0x02 ∷ 0x01 ∷ 0x82 ∷ [] }) ≡ 0x41 ∷ [])
    × (shown_in EightBit (record { udl = 7; octets = 0x05 ∷ 0x00 ∷ 0x03 ∷ 0x07 ∷ 0x02 ∷ 0x01 ∷ 0x41 ∷ [] }) ≡ 0x41 ∷ [])
unfolding shown_in text_after number_of lowest_digits septets_in character utf8 text_of
known_shown = (refl, refl)
