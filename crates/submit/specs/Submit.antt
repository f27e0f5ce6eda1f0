-- SMS-SUBMIT (TS 23.040 §9.2.2.2): the record that its fields make, what its writer makes of a record, and what is no part of one.
use Rattle.std.specs.Prelude.{ℕ, ◌-◌, ◌≡◌, refl, false, List, [], ◌∷◌, ◌++◌, eqb, leb, length, take, drop, if◌then◌else◌, Option, Some, None, is_some, option_map, unwrap_or, IfSome}
use Rattle.std.specs.Bool.{then_some}
use Rattle.octets.specs.Answers.{Said}
use Rattle.octets.specs.Arrays.{pad}
use Rattle.octets.specs.declared.Held.{Held}
use Rattle.octets.specs.Checks.{Check, ◌unless◌, found, checked, all_fit}
use Rattle.octets.specs.Choice.{length_if}
use Rattle.octets.specs.Lent.{Making}
use Rattle.octets.specs.declared.Refusal.TheVariants.{LengthTooLarge, WrongMessageType, ValidityFormatDisagrees, NoDestination, NotATime, HeaderNotWhole, HeaderPassesCount}
use Rattle.octets.specs.Held.{holding, filled, cleared_held, TypedHeld}
use Rattle.coding.specs.Coding.{coding_of, data_checks, UserData}
use Rattle.coding.specs.declared.UserDataCoding.{UserDataCoding}
use Rattle.coding.specs.declared.UserDataCoding.TheVariants.{Gsm7Bit, EightBit, Ucs2, Compressed}
use Rattle.septets.specs.Septets.{number_of, lowest_digits, septets_in, header_septets, fill_bits}
use Rattle.gsm7.specs.Alphabet.{character}
use Rattle.gsm7.specs.Reading.{utf8, text_of, after_escape, replaced_in_all}
use Rattle.user_data_header.specs.Header.{in_count}
use Rattle.time.specs.Time.{time_in, capital_time, Time}
use Rattle.address.specs.Address.{address_in, septets_read, text_held, cleared_address, TypedAddress}
use Rattle.address.specs.Writing.{address_octets, octets_or, address_checks}
use Rattle.address.specs.declared.SMSAddress.{SMSAddress}
use Rattle.layout.specs.Layout.{Format, Layout, plain, done, ◌then◌, address as addressKind, is_set, message_type, first_octet, cut}
use Rattle.validity_period.specs.Validity.{period_in, of_format, format_of, is_absolute, period_octets, time_holds}
use Rattle.validity_period.specs.declared.ValidityPeriod.{ValidityPeriod}
use Rattle.submit.specs.Layout.{Fields, format_in, header_size, fields}
use Rattle.submit.specs.declared.SmsSubmit.{SmsSubmit}
use Rattle.submit.specs.declared.SubmitRead.{SubmitRead}

-- ---- reading

-- user data in readable form: in 7-bit coding the h octets of the header and then the text, in other codings the data
unfoldable pub readable : UserDataCoding → ℕ → ℕ → List ℕ → List ℕ
readable Gsm7Bit udl h ud = take h ud ++ text_of (septets_in (drop h ud) (fill_bits h) (udl - header_septets h))
readable EightBit udl h ud = ud
readable Ucs2 udl h ud = ud
readable Compressed udl h ud = ud

-- "A" alone; after the header 05 00 03 01 02 01; 8-bit data, whatever their header
known_readable : (readable Gsm7Bit 1 0 (0x41 ∷ []) ≡ 0x41 ∷ []) × (readable Gsm7Bit 8 6 (0x05 ∷ 0x00 ∷ 0x03 ∷ 0x01 ∷ 0x02 ∷ 0x01 ∷ 0x82 ∷ []) ≡ 0x05 ∷ 0x00 ∷ 0x03 ∷ 0x01 ∷ 0x02 ∷ 0x01 ∷ 0x41 ∷ [])
    × (readable EightBit 2 2 (0x01 ∷ 0x41 ∷ []) ≡ 0x01 ∷ 0x41 ∷ [])
unfolding readable text_of after_escape utf8 character septets_in number_of lowest_digits
known_readable = (refl, refl, refl)

-- the septets of user data that are read as text: in 7-bit coding those after the header, in other codings none
unfoldable pub data_septets : UserDataCoding → ℕ → ℕ → List ℕ → List ℕ
data_septets Gsm7Bit udl h ud = septets_in (drop h ud) (fill_bits h) (udl - header_septets h)
data_septets EightBit udl h ud = []
data_septets Ucs2 udl h ud = []
data_septets Compressed udl h ud = []

-- an escape and "A" alone; after the header 01 1B, which is no text; 8-bit data
known_septets : (data_septets Gsm7Bit 2 0 (0x9b ∷ 0x20 ∷ []) ≡ 0x1b ∷ 0x41 ∷ []) × (data_septets Gsm7Bit 5 2 (0x01 ∷ 0x1b ∷ 0x60 ∷ 0x13 ∷ 0x04 ∷ []) ≡ 0x1b ∷ 0x41 ∷ []) × (data_septets EightBit 2 0 (0x9b ∷ 0x20 ∷ []) ≡ [])
unfolding data_septets septets_in number_of lowest_digits
known_septets = (refl, refl, refl)

-- the readable form in a record
abbrev pub SubmitText : Type 0
SubmitText = Held 510

-- the octets of the header
abbrev pub header_in : Fields → ℕ
header_in x = header_size (is_set 6 x.first) x.ud

-- the record that the fields make. An address is made from its canonical octets, since these are what a layout gives: they are read as the field itself is (law `canonical_reads` of crate address)
unfoldable pub submitted : Fields → SmsSubmit
submitted x = record {
  tp_rp = is_set 7 x.first;
  tp_udhi = is_set 6 x.first;
  tp_srr = is_set 5 x.first;
  tp_mti = message_type x.first;
  tp_rd = is_set 2 x.first;
  tp_vpf = format_in x.first;
  tp_mr = x.mr;
  tp_destination_address = Some (address_in x.da);
  tp_pid = x.pid;
  tp_dcs = x.dcs;
  tp_validity_period = period_in (format_in x.first) x.vp;
  validity_period_digits = time_in (of_format 3 (format_in x.first) x.vp);
  validity_period_octets = pad 7 (of_format 1 (format_in x.first) x.vp);
  tp_user_data_length = x.udl;
  tp_user_data_raw = holding 255 x.ud;
  tp_user_data_header = then_some (is_set 6 x.first) (holding 255 (take (header_in x) x.ud));
  tp_user_data = holding 510 (readable (coding_of x.dcs) x.udl (header_in x) x.ud);
}

-- the layout of fields, and the record
unfoldable pub format : Format SmsSubmit
format = fields then λ x. done (submitted x)

abbrev pub submit : Layout SmsSubmit
submit = plain format

-- the blank record
unfoldable pub blank : SmsSubmit
blank = record {
  tp_rp = false;
  tp_udhi = false;
  tp_srr = false;
  tp_mti = 0;
  tp_rd = false;
  tp_vpf = 0;
  tp_mr = 0;
  tp_destination_address = None;
  tp_pid = 0;
  tp_dcs = 0;
  tp_validity_period = ValidityPeriod.None;
  validity_period_digits = time_in [];
  validity_period_octets = pad 7 [];
  tp_user_data_length = 0;
  tp_user_data_raw = holding 255 [];
  tp_user_data_header = None;
  tp_user_data = holding 510 [];
}

-- what is read as text in a string: the destination address, after first octet and reference, where its type is 5; and in 7-bit coding what follows the header of the user data, which are as the record holds them
abbrev pub texts_read : List ℕ → SmsSubmit → List (List ℕ)
texts_read s r =
    let ud = filled r.tp_user_data_raw in
    septets_read (cut addressKind (drop 2 s)) ∷ data_septets (coding_of r.tp_dcs) r.tp_user_data_length (header_size r.tp_udhi ud) ud ∷ []

-- what reading a string gives of a record and the place reached: these, and how many escapes were replaced
abbrev pub read_with : List ℕ → SmsSubmit → ℕ → SubmitRead
read_with s r at = record { message = r; octets_read = at; replaced_escapes = replaced_in_all (texts_read s r) }

-- and where nothing is read
abbrev pub nothing_read : SubmitRead
nothing_read = record { message = blank; octets_read = 0; replaced_escapes = 0 }

-- ---- writing

-- the lengths that count: of the destination and the header if they are there, of the digits in the absolute format, of data and text
abbrev pub address_length : SmsSubmit → ℕ
address_length r = unwrap_or (option_map (λ (to : SMSAddress). to.address.length) r.tp_destination_address) 0

abbrev pub digits_length : SmsSubmit → ℕ
digits_length r = length_if (is_absolute r.tp_validity_period) r.validity_period_digits.length

abbrev pub header_length : SmsSubmit → ℕ
header_length r = unwrap_or (option_map (λ (header : UserData). header.length) r.tp_user_data_header) 0

-- each with the size of its array
abbrev pub lengths_of : SmsSubmit → List (ℕ × ℕ)
lengths_of r = (address_length r, 290) ∷ (digits_length r, 14) ∷ (r.tp_user_data_raw.length, 255) ∷ (header_length r, 255) ∷ (r.tp_user_data.length, 510) ∷ []

-- the first octet: MTI 1, RP bit 7, UDHI 6, SRR 5, VPF 4 and 3, RD 2
abbrev pub first_of : SmsSubmit → ℕ
first_of r = first_octet 1 ((7, r.tp_rp) ∷ (6, r.tp_udhi) ∷ (5, r.tp_srr) ∷ (4, is_set 1 r.tp_vpf) ∷ (3, is_set 0 r.tp_vpf) ∷ (2, r.tp_rd) ∷ [])

-- a destination: its octets, and its checks
abbrev pub destination_octets : Option SMSAddress → List ℕ
destination_octets None = []
destination_octets (Some to) = octets_or [] (address_octets to.ton to.npi (text_held to))

abbrev pub destination_checks : Option SMSAddress → List Check
destination_checks None = []
destination_checks (Some to) = address_checks to.ton to.npi (text_held to)

-- the octets of a record, in the layout's order: header and text are not written
abbrev pub octets_of : SmsSubmit → List ℕ
octets_of r =
    first_of r ∷ r.tp_mr ∷ destination_octets r.tp_destination_address ++ r.tp_pid ∷ r.tp_dcs
    ∷ period_octets r.tp_validity_period (filled r.validity_period_digits) r.validity_period_octets ++ r.tp_user_data_length ∷ filled r.tp_user_data_raw

-- what the writer makes of a record: refusals 1, 3, 5 and 6, 7 and 8 of the data, 9 to 11 of the address, and 12
unfoldable pub submitting : SmsSubmit → Making ℕ
submitting r =
    checked
    ((LengthTooLarge unless all_fit (lengths_of r)) ∷ (WrongMessageType unless eqb r.tp_mti 1) ∷ (ValidityFormatDisagrees unless eqb r.tp_vpf (format_of r.tp_validity_period))
    ∷ (NoDestination unless is_some r.tp_destination_address) ∷ data_checks r.tp_dcs r.tp_user_data_length (length (filled r.tp_user_data_raw)) ++ destination_checks r.tp_destination_address
    ++ (NotATime unless time_holds r.tp_validity_period (filled r.validity_period_digits)) ∷ [])
    (octets_of r)

-- what the reader says of the header in the data that a record holds: 17 where it doesn't fit the data, 18 where it doesn't fit the count. The writer doesn't look at it (document 01, demand 2's exception)
unfoldable pub header_answer : SmsSubmit → Said Unit
header_answer r =
    let ud = filled r.tp_user_data_raw in
    let h = header_size r.tp_udhi ud in
    found ((HeaderNotWhole unless leb h (length ud)) ∷ (HeaderPassesCount unless in_count (coding_of r.tp_dcs) r.tp_user_data_length h) ∷ [])

-- ---- what is no part of a record

-- the same record with another destination, other digits and octets of validity, other user data, header and text
abbrev pub changed : SmsSubmit → Option SMSAddress → Time → List ℕ → UserData → Option UserData → SubmitText → SmsSubmit
changed r to digits enhanced raw header text = record {
  tp_rp = r.tp_rp;
  tp_udhi = r.tp_udhi;
  tp_srr = r.tp_srr;
  tp_mti = r.tp_mti;
  tp_rd = r.tp_rd;
  tp_vpf = r.tp_vpf;
  tp_mr = r.tp_mr;
  tp_destination_address = to;
  tp_pid = r.tp_pid;
  tp_dcs = r.tp_dcs;
  tp_validity_period = r.tp_validity_period;
  validity_period_digits = digits;
  validity_period_octets = enhanced;
  tp_user_data_length = r.tp_user_data_length;
  tp_user_data_raw = raw;
  tp_user_data_header = header;
  tp_user_data = text;
}

-- without header and text
abbrev pub underived : SmsSubmit → SmsSubmit
underived r =
    changed r r.tp_destination_address r.validity_period_digits r.validity_period_octets r.tp_user_data_raw None (holding 510 [])

-- digits that are not in the absolute format, seven octets that are not in the enhanced one, and what lies after a length set to zero: records are equal where these are
abbrev pub cleared : SmsSubmit → SmsSubmit
cleared r =
    changed r (option_map cleared_address r.tp_destination_address)
    (if is_absolute r.tp_validity_period then cleared_held r.validity_period_digits else time_in [])
    (if eqb (format_of r.tp_validity_period) 1 then r.validity_period_octets else pad 7 [])
    (cleared_held r.tp_user_data_raw) (option_map cleared_held r.tp_user_data_header) (cleared_held r.tp_user_data)

-- what demand 2 compares: not header and text, which are derived from the data
abbrev pub compared : SmsSubmit → SmsSubmit
compared r = underived (cleared r)

-- the time's letters capital
abbrev pub capitalised : SmsSubmit → SmsSubmit
capitalised r =
    changed r r.tp_destination_address (capital_time r.validity_period_digits) r.validity_period_octets r.tp_user_data_raw
    r.tp_user_data_header r.tp_user_data

-- the arrays have the lengths of their types
abbrev pub Typed : SmsSubmit → Type 0
Typed r =
    IfSome r.tp_destination_address TypedAddress × TypedHeld r.validity_period_digits × (length r.validity_period_octets ≡ 7) × TypedHeld r.tp_user_data_raw × IfSome r.tp_user_data_header TypedHeld
    × TypedHeld r.tp_user_data
