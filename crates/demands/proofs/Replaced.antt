-- Known messages: characters that stand in for others. Records are equal where only their number differs.
-- Assumes nothing.
use Rattle.std.specs.Prelude.{Ok, Err}
use Prim.Native.Nat.{ℕ}
use mathlib.Core.Path.{◌≡◌, refl}
use mathlib.Core.List.{List, [], ◌∷◌, ◌++◌}
use Rattle.octets.specs.Answers.{Said}
use Rattle.octets.specs.Arrays.{pad}
use Rattle.octets.specs.declared.Refusal.TheVariants.{OctetsEnd}
use Rattle.octets.specs.Held.{holding}
use Rattle.coding.specs.Coding.{coding_of, character_set, data_octets}
use Rattle.septets.specs.Septets.{number_of, lowest_digits, septets_in, packed_septets}
use Rattle.gsm7.specs.Alphabet.{row_with, index_of, character, escaped, replaced}
use Rattle.gsm7.specs.Reading.{utf8, text_of, after_escape, replaced_in, replaced_after, replaced_in_all}
use Rattle.gsm7.specs.Writing.{same, extended_code, code_of, two_octets, three_octets, first_character, before, starting_with, scan}
use Rattle.address.specs.Address.{value_text, text_in, value_septets, septets_read, canonical_address}
use Rattle.address.specs.Writing.{address_octets}
use Rattle.layout.specs.Layout.{kept, after, reading, read_from, read, answer, alone}
use Rattle.validity_period.specs.Validity.{period_size}
use Rattle.user_data_header.specs.Header.{in_count}
use Rattle.deliver.specs.Layout as DeliverLayout
use Rattle.deliver.specs.Deliver as Deliver
use Rattle.submit.specs.Layout as SubmitLayout
use Rattle.submit.specs.Submit as Submit

-- a DELIVER with this address: PID, DCS, a time, and no user data
abbrev from : List ℕ → List ℕ
from oa = 0x00 ∷ oa ++ (0x00 ∷ 0x00 ∷ 0x42 ∷ 0x20 ∷ 0x51 ∷ 0x21 ∷ 0x03 ∷ 0x54 ∷ 0x00 ∷ 0x00 ∷ [])

-- "A" and an escape that is the last septet; "A" after an escape; "A" alone; the first as a number
abbrev lone : List ℕ
lone = from (0x04 ∷ 0xd0 ∷ 0xc1 ∷ 0x0d ∷ [])

abbrev stand_in : List ℕ
stand_in = from (0x04 ∷ 0xd0 ∷ 0x9b ∷ 0x20 ∷ [])

abbrev itself : List ℕ
itself = from (0x02 ∷ 0xd0 ∷ 0x41 ∷ [])

abbrev digits : List ℕ
digits = from (0x04 ∷ 0x91 ∷ 0xc1 ∷ 0x0d ∷ [])

abbrev count : List ℕ → Said ℕ
count s = answer (λ r at. (Deliver.read_with s r at).replaced_escapes) (read Deliver.deliver s)

known_deliver : (count lone ≡ Ok 1) × (count stand_in ≡ Ok 1) × (count itself ≡ Ok 0) × (count digits ≡ Ok 0) × (count [] ≡ Err OctetsEnd)
unfolding read read_from reading after kept Deliver.format DeliverLayout.fields coding_of character_set data_octets septets_read value_septets number_of lowest_digits septets_in replaced_in_all replaced_in replaced_after replaced row_with
known_deliver = (refl, refl, refl, refl, refl)

-- the second and the third give one record
pub known_equal : answer alone (read Deliver.deliver stand_in) ≡ answer alone (read Deliver.deliver itself)
unfolding read read_from reading after kept Deliver.format DeliverLayout.fields coding_of character_set data_octets canonical_address address_octets text_in value_text number_of lowest_digits septets_in packed_septets text_of after_escape utf8 character escaped row_with index_of same extended_code code_of two_octets three_octets first_character before starting_with scan
known_equal = refl

-- a SUBMIT to "A" after an escape: with first octet, DCS, UDL and data
abbrev to : ℕ → ℕ → ℕ → List ℕ → List ℕ
to first dcs udl ud = first ∷ 0x07 ∷ 0x04 ∷ 0xd0 ∷ 0x9b ∷ 0x20 ∷ 0x00 ∷ dcs ∷ udl ∷ ud

abbrev sum : List ℕ → Said ℕ
sum s = answer (λ r at. (Submit.read_with s r at).replaced_escapes) (read Submit.submit s)

-- "A" after an escape, in 7-bit coding and in 8-bit; after the header 01 1B too
known_submit : (sum (to 0x01 0x00 0x02 (0x9b ∷ 0x20 ∷ [])) ≡ Ok 2) × (sum (to 0x01 0x04 0x02 (0x9b ∷ 0x20 ∷ [])) ≡ Ok 1) × (sum (to 0x41 0x00 0x05 (0x01 ∷ 0x1b ∷ 0x60 ∷ 0x13 ∷ 0x04 ∷ [])) ≡ Ok 2)
unfolding read read_from reading after kept Submit.format SubmitLayout.fields Submit.submitted period_size SubmitLayout.header_size in_count coding_of character_set data_octets holding pad Submit.data_septets septets_read value_septets number_of lowest_digits septets_in replaced_in_all replaced_in replaced_after replaced row_with
known_submit = (refl, refl, refl)
