-- Known messages: document 01's rows of SUBMIT with a header, and one whole message.
-- Assumes nothing.
use Rattle.std.specs.Prelude.{Err}
use Prim.Native.Nat.{ℕ}
use mathlib.Core.Path.{◌≡◌, refl}
use mathlib.Core.List.{List, [], ◌∷◌, ◌++◌}
use Rattle.octets.specs.Answers.{fine}
use Rattle.octets.specs.Arrays.{pad}
use Rattle.octets.specs.Checks.{checked}
use Rattle.octets.specs.Each.{each}
use Rattle.octets.specs.Lent.{made}
use Rattle.octets.specs.SemiOctets.{semi_octets, in_pairs}
use Rattle.octets.specs.Texts.{codes}
use Rattle.octets.specs.declared.Refusal.TheVariants.{OctetsEnd, WrongMessageType, HeaderNotWhole, HeaderPassesCount}
use Rattle.octets.specs.Held.{holding}
use Rattle.coding.specs.Coding.{coding_of, character_set, data_octets}
use Rattle.septets.specs.Septets.{number_of, lowest_digits, septets_in}
use Rattle.gsm7.specs.Alphabet.{index_of, character}
use Rattle.gsm7.specs.Reading.{utf8, text_of, after_escape}
use Rattle.user_data_header.specs.Header.{in_count}
use Rattle.time.specs.Time.{time_digits}
use Rattle.address.specs.Writing.{digit_characters, digit_value, is_digit, address_octets}
use Rattle.address.specs.Address.{digit_character, without_f, value_text, text_in, address_with, address_in, canonical_address}
use Rattle.layout.specs.Layout.{kept, first_octet, reached, halted, after, reading, read_from, fields_of, read, canonical_of}
use Rattle.validity_period.specs.Validity.{period_size, period_in}
use Rattle.submit.specs.Layout.{Fields, header_size, fields}
use Rattle.submit.specs.Submit.{readable, submitted, format, submit, submitting, header_answer}
use Rattle.submit.specs.Internal.{making}

-- MR 07, "12" in a field with an F, PID and DCS 0
abbrev front : List ℕ
front = 0x07 ∷ 0x03 ∷ 0x11 ∷ 0xf1 ∷ 0x02 ∷ 0x00 ∷ 0x00 ∷ []

-- with UDHI: UDL 1 and data 00 are refused with 18, UDL 0 with 17; another MTI with 3; no UDL with 2
known_refused : (read submit ((0x41 ∷ front) ++ (0x01 ∷ 0x00 ∷ [])) ≡ halted HeaderPassesCount) × (read submit ((0x41 ∷ front) ++ (0x00 ∷ [])) ≡ halted HeaderNotWhole)
    × (read submit ((0x43 ∷ front) ++ (0x00 ∷ [])) ≡ halted WrongMessageType) × (read submit (0x01 ∷ front) ≡ halted OctetsEnd)
unfolding read read_from reading after kept format fields period_size header_size in_count coding_of character_set data_octets
known_refused = (refl, refl, refl, refl)

-- VPF 2, one octet of validity, "A", and an octet after it
abbrev known : List ℕ
known = (0x11 ∷ front) ++ (0xaa ∷ 0x01 ∷ 0x41 ∷ 0xff ∷ [])

-- what is read: 11 octets; the address is written afresh
abbrev known_fields : Fields
known_fields = record { first = 0x11; mr = 0x07; da = 0x02 ∷ 0x91 ∷ 0x21 ∷ []; pid = 0x00; dcs = 0x00; vp = 0xaa ∷ []; udl = 0x01; ud = 0x41 ∷ [] }

known_read : read submit known ≡ reached (submitted known_fields) 11
unfolding read read_from reading after kept format fields period_size header_size in_count coding_of character_set data_octets codes digit_characters digit_character digit_value is_digit without_f value_text text_in address_octets canonical_address each index_of semi_octets in_pairs
known_read = refl

-- what follows is dropped
abbrev known_octets : List ℕ
known_octets = 0x11 ∷ 0x07 ∷ 0x02 ∷ 0x91 ∷ 0x21 ∷ 0x00 ∷ 0x00 ∷ 0xaa ∷ 0x01 ∷ 0x41 ∷ []

known_canonical : canonical_of submit known ≡ known_octets
unfolding canonical_of fields_of kept format fields period_size header_size coding_of character_set data_octets codes digit_characters digit_character digit_value is_digit without_f value_text text_in address_octets canonical_address each index_of semi_octets in_pairs
known_canonical = refl

-- the record is written as they stand
known_written : submitting (submitted known_fields) ≡ made known_octets 10
unfolding submitting making checked first_octet submitted address_in address_with holding time_digits pad period_in readable text_of after_escape utf8 character septets_in number_of lowest_digits header_size coding_of character_set data_octets codes digit_characters digit_character digit_value is_digit without_f value_text text_in address_octets each index_of semi_octets in_pairs
known_written = refl

-- what is said of the header in a record's data: 18 and 17 as above, and nothing without UDHI
abbrev known_data : ℕ → ℕ → List ℕ → Fields
known_data first udl ud = record { first = first; mr = 0x07; da = []; pid = 0x00; dcs = 0x00; vp = []; udl = udl; ud = ud }

known_header : (header_answer (submitted (known_data 0x41 0x01 (0x00 ∷ []))) ≡ Err HeaderPassesCount) × (header_answer (submitted (known_data 0x41 0x00 [])) ≡ Err HeaderNotWhole)
    × (header_answer (submitted (known_data 0x01 0x00 [])) ≡ fine)
unfolding header_answer submitted holding pad header_size in_count coding_of character_set
known_header = (refl, refl, refl)
