-- SMS-DELIVER (TS 23.040 §9.2.2.1): the record that its fields make, what its writer makes of a record, and what is no part of one.
use Rattle.std.specs.Prelude.{ℕ, Bool, false, List, [], ◌∷◌, ◌++◌, eqb, length, drop}
use Rattle.octets.specs.Checks.{◌unless◌, checked, all_fit}
use Rattle.octets.specs.Lent.{Making}
use Rattle.octets.specs.declared.Refusal.TheVariants.{LengthTooLarge, WrongMessageType, NotATime}
use Rattle.octets.specs.Held.{holding, filled, cleared_held, TypedHeld}
use Rattle.coding.specs.Coding.{data_checks, UserData}
use Rattle.gsm7.specs.Reading.{replaced_in_all}
use Rattle.time.specs.Time.{is_time, time_in, time_octets, capital_time, Time}
use Rattle.address.specs.Address.{address_in, address_with, septets_read, text_held, cleared_address, TypedAddress}
use Rattle.address.specs.Writing.{address_octets, octets_or, address_checks}
use Rattle.address.specs.declared.SMSAddress.{SMSAddress}
use Rattle.layout.specs.Layout.{Format, Layout, plain, done, ◌then◌, address as addressKind, is_set, message_type, first_octet, cut}
use Rattle.layout.specs.declared.MessageRead.{MessageRead}
use Rattle.deliver.specs.Layout.{Fields, fields}
use Rattle.deliver.specs.declared.SmsDeliver.{SmsDeliver}

-- ---- reading

-- the record that the fields make. An address is made from its canonical octets, since these are what a layout gives: they are read as the field itself is (law `canonical_reads` of crate address)
unfoldable pub delivered : Fields → SmsDeliver
delivered x = record {
  tp_rp = is_set 7 x.first;
  tp_udhi = is_set 6 x.first;
  tp_sri = is_set 5 x.first;
  tp_lp = is_set 3 x.first;
  tp_mms = is_set 2 x.first;
  tp_mti = message_type x.first;
  tp_originating_address = address_in x.oa;
  tp_pid = x.pid;
  tp_dcs = x.dcs;
  tp_service_centre_timestamp = time_in x.scts;
  tp_user_data_length = x.udl;
  tp_user_data = holding 255 x.ud;
}

-- the layout of fields, and the record
unfoldable pub format : Format SmsDeliver
format = fields then λ x. done (delivered x)

abbrev pub deliver : Layout SmsDeliver
deliver = plain format

-- the blank record
unfoldable pub blank : SmsDeliver
blank = record {
  tp_rp = false;
  tp_udhi = false;
  tp_sri = false;
  tp_lp = false;
  tp_mms = false;
  tp_mti = 0;
  tp_originating_address = address_with 0 0 [];
  tp_pid = 0;
  tp_dcs = 0;
  tp_service_centre_timestamp = time_in [];
  tp_user_data_length = 0;
  tp_user_data = holding 255 [];
}

-- what is read as text in a string: the originating address, after the first octet, where its type is 5. User data stay octets
abbrev pub texts_read : List ℕ → SmsDeliver → List (List ℕ)
texts_read s r = septets_read (cut addressKind (drop 1 s)) ∷ []

-- what the reader gives
abbrev pub DeliverRead : Type 0
DeliverRead = MessageRead SmsDeliver

-- of a string, of its record and of the place reached: the record, and beside it how many escapes were replaced
abbrev pub read_with : List ℕ → SmsDeliver → ℕ → DeliverRead
read_with s r at = record { message = r; replaced_escapes = replaced_in_all (texts_read s r) }

-- ---- writing

-- the lengths of a record, each with the size of its array
abbrev pub lengths_of : SmsDeliver → List (ℕ × ℕ)
lengths_of r = (r.tp_originating_address.address.length, 290) ∷ (r.tp_service_centre_timestamp.length, 14) ∷ (r.tp_user_data.length, 255) ∷ []

-- its flags, each with its bit
abbrev pub flags_of : SmsDeliver → List (ℕ × Bool)
flags_of r = (7, r.tp_rp) ∷ (6, r.tp_udhi) ∷ (5, r.tp_sri) ∷ (3, r.tp_lp) ∷ (2, r.tp_mms) ∷ []

-- its octets, in the layout's order
abbrev pub octets_of : SmsDeliver → List ℕ
octets_of r =
    let a = r.tp_originating_address in
    first_octet 0 (flags_of r) ∷ (octets_or [] (address_octets a.ton a.npi (text_held a)) ++ (r.tp_pid ∷ r.tp_dcs ∷ (time_octets (filled r.tp_service_centre_timestamp) ++ (r.tp_user_data_length ∷ filled r.tp_user_data))))

-- what the writer makes of it: refusals 1, 3, 7 and 8 of the data, 9 to 11 of the address, and 12
unfoldable pub delivering : SmsDeliver → Making ℕ
delivering r =
    let a = r.tp_originating_address in
    checked
    ((LengthTooLarge unless all_fit (lengths_of r)) ∷ (WrongMessageType unless eqb r.tp_mti 0) ∷ (data_checks r.tp_dcs r.tp_user_data_length (length (filled r.tp_user_data))
    ++ (address_checks a.ton a.npi (text_held a) ++ ((NotATime unless is_time (filled r.tp_service_centre_timestamp)) ∷ []))))
    (octets_of r)

-- ---- what is no part of a record

-- the same record with address, time and user data changed
abbrev pub changed : (SMSAddress → SMSAddress) → (Time → Time) → (UserData → UserData) → SmsDeliver → SmsDeliver
changed address time user_data r = record {
  tp_rp = r.tp_rp;
  tp_udhi = r.tp_udhi;
  tp_sri = r.tp_sri;
  tp_lp = r.tp_lp;
  tp_mms = r.tp_mms;
  tp_mti = r.tp_mti;
  tp_originating_address = address r.tp_originating_address;
  tp_pid = r.tp_pid;
  tp_dcs = r.tp_dcs;
  tp_service_centre_timestamp = time r.tp_service_centre_timestamp;
  tp_user_data_length = r.tp_user_data_length;
  tp_user_data = user_data r.tp_user_data;
}

-- what lies after a length set to zero: records are equal where these are
abbrev pub cleared : SmsDeliver → SmsDeliver
cleared = changed cleared_address cleared_held cleared_held

-- the time's letters capital
abbrev pub capitalised : SmsDeliver → SmsDeliver
capitalised = changed (λ a. a) capital_time (λ d. d)

-- the arrays have the lengths of their types
abbrev pub Typed : SmsDeliver → Type 0
Typed r = TypedAddress r.tp_originating_address × TypedHeld r.tp_service_centre_timestamp × TypedHeld r.tp_user_data
