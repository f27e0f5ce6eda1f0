-- SMS-STATUS-REPORT (TS 23.040 §9.2.2.3): the record that its fields make, what its writers make of a record, and what is no part of one.
use Rattle.std.specs.Prelude.{ℕ, ◌≡◌, refl, Bool, false, List, [], ◌∷◌, ◌++◌, eqb, length, drop, Err, Some, None, Option}
use Rattle.octets.specs.Answers.{fine}
use Rattle.octets.specs.Checks.{Check, ◌unless◌, found, checked, all_fit}
use Rattle.octets.specs.Lent.{Making}
use Rattle.octets.specs.declared.Refusal.TheVariants.{LengthTooLarge, UserDataTooLong, NotATime, ParametersWithoutIndicator}
use Rattle.octets.specs.Held.{holding, filled, cleared_held, TypedHeld}
use Rattle.coding.specs.Coding.{coding_of, character_set, data_octets, UserData}
use Rattle.gsm7.specs.Reading.{replaced_in_all}
use Rattle.time.specs.Time.{is_time, time_octets, time_in, capital_time, Time}
use Rattle.address.specs.Address.{address_in, address_with, septets_read, text_held, cleared_address, TypedAddress}
use Rattle.address.specs.Writing.{address_octets, octets_or, address_checks}
use Rattle.address.specs.declared.SMSAddress.{SMSAddress}
use Rattle.layout.specs.Layout.{Format, Layout, plain, done, ◌then◌, address as addressKind, is_set, first_octet, cut}
use Rattle.parameters.specs.Checking.{indicator_checks, data_within}
use Rattle.parameters.specs.Optional.{octets_held}
use Rattle.parameters.specs.Parameters.{Parameters, parameters_octets}
use Rattle.layout.specs.declared.MessageRead.{MessageRead}
use Rattle.status_report.specs.Layout.{Fields, fields}
use Rattle.status_report.specs.declared.SmsStatusReport.{SmsStatusReport}

-- ---- reading

-- the record that the fields make. An address is made from its canonical octets, since these are what a layout gives: they are read as the field itself is (law `canonical_reads` of crate address)
unfoldable pub status_reported : Fields → SmsStatusReport
status_reported x = record {
  tp_udhi = is_set 6 x.first;
  tp_srq = is_set 5 x.first;
  tp_lp = is_set 3 x.first;
  tp_mms = is_set 2 x.first;
  tp_mr = x.mr;
  tp_recipient_address = address_in x.ra;
  tp_service_centre_timestamp = time_in x.scts;
  tp_discharge_time = time_in x.dt;
  tp_status = x.st;
  tp_parameter_indicator = x.pi;
  tp_pid = x.held.pid;
  tp_dcs = x.held.dcs;
  tp_user_data_length = x.held.udl;
  tp_user_data = holding 255 x.held.ud;
}

-- the layout of fields, and the record
unfoldable pub format : Format SmsStatusReport
format = fields then λ x. done (status_reported x)

abbrev pub status_report : Layout SmsStatusReport
status_report = plain format

-- the blank record
unfoldable pub blank : SmsStatusReport
blank = record {
  tp_udhi = false;
  tp_srq = false;
  tp_lp = false;
  tp_mms = false;
  tp_mr = 0;
  tp_recipient_address = address_with 0 0 [];
  tp_service_centre_timestamp = time_in [];
  tp_discharge_time = time_in [];
  tp_status = 0;
  tp_parameter_indicator = None;
  tp_pid = None;
  tp_dcs = None;
  tp_user_data_length = None;
  tp_user_data = holding 255 [];
}

-- what is read as text in a string: the recipient address, after first octet and reference, where its type is 5. User data stay octets
abbrev pub texts_read : List ℕ → SmsStatusReport → List (List ℕ)
texts_read s r = septets_read (cut addressKind (drop 2 s)) ∷ []

-- what the reader gives
abbrev pub StatusReportRead : Type 0
StatusReportRead = MessageRead SmsStatusReport

-- of a string, of its record and of the place reached: the record, and beside it how many escapes were replaced
abbrev pub read_with : List ℕ → SmsStatusReport → ℕ → StatusReportRead
read_with s r at = record { message = r; replaced_escapes = replaced_in_all (texts_read s r) }

-- ---- writing

-- the lengths of a record, each with the size of its array
abbrev pub lengths_of : SmsStatusReport → List (ℕ × ℕ)
lengths_of r =
    (r.tp_recipient_address.address.length, 290) ∷ (r.tp_service_centre_timestamp.length, 14) ∷ (r.tp_discharge_time.length, 14) ∷ (r.tp_user_data.length, 255) ∷ []

-- its flags, each with its bit
abbrev pub flags_of : SmsStatusReport → List (ℕ × Bool)
flags_of r = (6, r.tp_udhi) ∷ (5, r.tp_srq) ∷ (3, r.tp_lp) ∷ (2, r.tp_mms) ∷ []

-- its parameters
abbrev pub parameters_of : SmsStatusReport → Parameters
parameters_of r = record { pid = r.tp_pid; dcs = r.tp_dcs; udl = r.tp_user_data_length; ud = filled r.tp_user_data }

-- its octets, in the layout's order
abbrev pub octets_of : SmsStatusReport → List ℕ
octets_of r =
    let recipient = r.tp_recipient_address in
    first_octet 2 (flags_of r) ∷ r.tp_mr ∷ (octets_or [] (address_octets recipient.ton recipient.npi (text_held recipient)) ++ (time_octets (filled r.tp_service_centre_timestamp)
    ++ (time_octets (filled r.tp_discharge_time) ++ (r.tp_status ∷ (octets_held r.tp_parameter_indicator ++ parameters_octets (parameters_of r))))))

-- with an indicator 13, 14, 7, 8, 15, user data within a limit; without one 16: neither parameters nor user data are held
unfoldable pub optional_checks : ℕ → Option ℕ → Parameters → List Check
optional_checks limit (Some i) p = indicator_checks i p.pid p.dcs p.udl ++ data_within limit p.dcs p.udl (length p.ud)
optional_checks limit None p = (ParametersWithoutIndicator unless eqb (length (parameters_octets p)) 0) ∷ []

-- what a writer makes of a record within a limit of user data
unfoldable pub status_reporting_within : ℕ → SmsStatusReport → Making ℕ
status_reporting_within limit r =
    let recipient = r.tp_recipient_address in
    checked
    ((LengthTooLarge unless all_fit (lengths_of r)) ∷ (address_checks recipient.ton recipient.npi (text_held recipient) ++ ((NotATime unless is_time (filled r.tp_service_centre_timestamp))
    ∷ (NotATime unless is_time (filled r.tp_discharge_time)) ∷ optional_checks limit r.tp_parameter_indicator (parameters_of r))))
    (octets_of r)

-- the ported writer: within 140
abbrev pub status_reporting : SmsStatusReport → Making ℕ
status_reporting = status_reporting_within 140

-- the limit of the standard's table (TS 23.040 §9.2.2.3)
abbrev pub standard_limit : ℕ
standard_limit = 131

-- the writer to the standard: within that
abbrev pub status_reporting_to_standard : SmsStatusReport → Making ℕ
status_reporting_to_standard = status_reporting_within standard_limit

-- user data of 131 and 132 octets; 135 pass within 140
known_limits : (found (data_within standard_limit (Some 0x04) (Some 131) 131) ≡ fine) × (found (data_within standard_limit (Some 0x04) (Some 132) 132) ≡ Err UserDataTooLong)
    × (found (data_within standard_limit (Some 0x04) (Some 135) 135) ≡ Err UserDataTooLong) × (found (data_within 140 (Some 0x04) (Some 135) 135) ≡ fine)
unfolding data_within coding_of character_set data_octets
known_limits = (refl, refl, refl, refl)

-- ---- what is no part of a record

-- the same record with address, times and user data changed
abbrev pub changed : (SMSAddress → SMSAddress) → (Time → Time) → (UserData → UserData) → SmsStatusReport → SmsStatusReport
changed address time user_data r = record {
  tp_udhi = r.tp_udhi;
  tp_srq = r.tp_srq;
  tp_lp = r.tp_lp;
  tp_mms = r.tp_mms;
  tp_mr = r.tp_mr;
  tp_recipient_address = address r.tp_recipient_address;
  tp_service_centre_timestamp = time r.tp_service_centre_timestamp;
  tp_discharge_time = time r.tp_discharge_time;
  tp_status = r.tp_status;
  tp_parameter_indicator = r.tp_parameter_indicator;
  tp_pid = r.tp_pid;
  tp_dcs = r.tp_dcs;
  tp_user_data_length = r.tp_user_data_length;
  tp_user_data = user_data r.tp_user_data;
}

-- what lies after a length set to zero: records are equal where these are. Parameters and user data without indicator are parts of a record still: 16 looks at them
abbrev pub cleared : SmsStatusReport → SmsStatusReport
cleared = changed cleared_address cleared_held cleared_held

-- the letters of both times capital
abbrev pub capitalised : SmsStatusReport → SmsStatusReport
capitalised = changed (λ a. a) capital_time (λ d. d)

-- the arrays have the lengths of their types
abbrev pub Typed : SmsStatusReport → Type 0
Typed r = TypedAddress r.tp_recipient_address × TypedHeld r.tp_service_centre_timestamp × TypedHeld r.tp_discharge_time × TypedHeld r.tp_user_data
