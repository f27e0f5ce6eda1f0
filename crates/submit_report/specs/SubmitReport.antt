-- SMS-SUBMIT-REPORT (TS 23.040 §9.2.2.2a): its two layouts, what its writers make of a record, and what is no part of one.
use Rattle.std.specs.Prelude.{ℕ, ◌≡◌, refl, true, List, [], ◌∷◌, leb, eqb, Err, Some, None, Option}
use Rattle.octets.specs.Answers.{fine}
use Rattle.octets.specs.Checks.{◌unless◌, found, checked, all_fit}
use Rattle.octets.specs.Choice.{flag}
use Rattle.octets.specs.Lent.{Making}
use Rattle.octets.specs.declared.Refusal.TheVariants.{LengthTooLarge, OctetsEnd, WrongMessageType, UdhiTooLarge, UserDataTooLong, OutcomeDisagrees}
use Rattle.octets.specs.Held.{holding, filled, cleared_held, TypedHeld}
use Rattle.coding.specs.Coding.{coding_of, character_set, data_octets, UserData}
use Rattle.time.specs.Time.{is_time, time_in, time_octets, capital_time, Time}
use Rattle.gsm7.specs.Reading.{replaced_in_all}
use Rattle.layout.specs.Layout.{indicator_size, kept, Layout, records, stops, reached, halted, after, reading, read_from, read, fields_of, canonical_of}
use Rattle.layout.specs.declared.MessageRead.{MessageRead}
use Rattle.parameters.specs.Checking.{data_within}
use Rattle.parameters.specs.Layout.{parameters}
use Rattle.parameters.specs.Outcome.{outcome_agrees}
use Rattle.parameters.specs.declared.RpOutcome.{RpOutcome}
use Rattle.parameters.specs.declared.RpOutcome.TheVariants.{RpAck, RpError}
use Rattle.report.specs.Report.{Fields, format, blank as blankFields, stopped as stoppedFields, layout_of as reportLayout, texts_read, octets_of, checks_within, standard_limit as limit_of}
use Rattle.submit_report.specs.declared.SmsSubmitReport.{SmsSubmitReport}

-- ---- reading

-- the record of a report's fields: its UDHI is a number
unfoldable pub submit_reported : Fields → SmsSubmitReport
submit_reported x = record {
  tp_udhi = flag x.udhi 1;
  tp_failure_cause = x.cause;
  tp_parameter_indicator = x.indicator;
  tp_service_centre_timestamp = time_in x.scts;
  tp_pid = x.parameters.pid;
  tp_dcs = x.parameters.dcs;
  tp_user_data_length = x.parameters.udl;
  tp_user_data = holding 255 x.parameters.ud;
  rp_outcome = x.outcome;
}

-- the blank record, whatever the entry point; and the stopped RP-ERROR
abbrev pub blank : SmsSubmitReport
blank = submit_reported blankFields

abbrev pub stopped : SmsSubmitReport
stopped = submit_reported stoppedFields

-- the layout of an outcome (TS 23.040 §9.2.2.2a): MTI 1, and a time
abbrev pub layout_of : RpOutcome → Layout SmsSubmitReport
layout_of outcome = records submit_reported (reportLayout 1 true outcome)

-- 05 is stopped, and stands as octets that are no report, since they have no time; an RP-ERROR with UDHI, cause 80, an extended indicator 81, a time and PID 11
known_reports : (read (layout_of RpError) (0x05 ∷ []) ≡ reached stopped 1) × (canonical_of (layout_of RpError) (0x05 ∷ []) ≡ 0x01 ∷ 0xff ∷ 0x00 ∷ []) × (read (layout_of RpError) (0x01 ∷ 0xff ∷ 0x00 ∷ []) ≡ halted OctetsEnd) × (read (layout_of RpAck) (0x00 ∷ []) ≡ halted WrongMessageType)
    × (read (layout_of RpError) (0x41 ∷ 0x80 ∷ 0x81 ∷ 0x00 ∷ 0x42 ∷ 0x20 ∷ 0x51 ∷ 0x21 ∷ 0x03 ∷ 0x54 ∷ 0x00 ∷ 0x11 ∷ [])
    ≡ reached (submit_reported (record { outcome = RpError; udhi = true; cause = Some 0x80; indicator = 0x81; scts = 0x42 ∷ 0x20 ∷ 0x51 ∷ 0x21 ∷ 0x03 ∷ 0x54 ∷ 0x00 ∷ []; parameters = record { pid = Some 0x11; dcs = None; udl = None; ud = [] } })) 12)
unfolding format read read_from reading after stops canonical_of fields_of parameters kept indicator_size
known_reports = (refl, refl, refl, refl, refl)

-- what a reader gives
abbrev pub SubmitReportRead : Type 0
SubmitReportRead = MessageRead SmsSubmitReport

-- of a record: it, and how many escapes in its texts were replaced
abbrev pub read_with : List ℕ → SmsSubmitReport → ℕ → SubmitReportRead
read_with s r at = record { message = r; replaced_escapes = replaced_in_all (texts_read s r) }

-- ---- writing

-- the fields of a record
abbrev pub fields_in : SmsSubmitReport → Fields
fields_in r = record {
  outcome = r.rp_outcome;
  udhi = eqb r.tp_udhi 1;
  cause = r.tp_failure_cause;
  indicator = r.tp_parameter_indicator;
  scts = time_octets (filled r.tp_service_centre_timestamp);
  parameters = record { pid = r.tp_pid; dcs = r.tp_dcs; udl = r.tp_user_data_length; ud = filled r.tp_user_data };
}

-- its lengths, each with the size of its array
abbrev pub lengths_of : SmsSubmitReport → List (ℕ × ℕ)
lengths_of r = (r.tp_service_centre_timestamp.length, 14) ∷ (r.tp_user_data.length, 255) ∷ []

-- what a writer makes of a record within a limit of user data: 1; 29; 4; 13 and 14; 12; 7, 8 and 15
unfoldable pub submit_reporting_within : ℕ → SmsSubmitReport → Making ℕ
submit_reporting_within limit r =
    checked
    ((LengthTooLarge unless all_fit (lengths_of r)) ∷ (OutcomeDisagrees unless outcome_agrees r.rp_outcome r.tp_failure_cause) ∷ (UdhiTooLarge unless leb r.tp_udhi 1)
    ∷ checks_within limit (is_time (filled r.tp_service_centre_timestamp)) (fields_in r))
    (octets_of 1 (fields_in r))

-- the ported writer: within 140
abbrev pub submit_reporting : SmsSubmitReport → Making ℕ
submit_reporting = submit_reporting_within 140

-- the limits of the standard's two tables (TS 23.040 §9.2.2.2a): 152 in an RP-ACK, 151 in an RP-ERROR, which a cause means
abbrev pub standard_limit : Option ℕ → ℕ
standard_limit = limit_of 152 151

-- the writer to the standard: within these
abbrev pub submit_reporting_to_standard : SmsSubmitReport → Making ℕ
submit_reporting_to_standard r = submit_reporting_within (standard_limit r.tp_failure_cause) r

-- user data of 152 and 153 octets in an RP-ACK, of 151 and 152 in an RP-ERROR with cause D3
known_limits : (found (data_within (standard_limit None) (Some 0x04) (Some 152) 152) ≡ fine) × (found (data_within (standard_limit None) (Some 0x04) (Some 153) 153) ≡ Err UserDataTooLong)
    × (found (data_within (standard_limit (Some 0xd3)) (Some 0x04) (Some 151) 151) ≡ fine) × (found (data_within (standard_limit (Some 0xd3)) (Some 0x04) (Some 152) 152) ≡ Err UserDataTooLong)
unfolding data_within coding_of character_set data_octets
known_limits = (refl, refl, refl, refl)

-- ---- what is no part of a record

-- the same record with time and user data changed, and with an outcome
abbrev pub changed : (Time → Time) → (UserData → UserData) → RpOutcome → SmsSubmitReport → SmsSubmitReport
changed time user_data outcome r = record {
  tp_udhi = r.tp_udhi;
  tp_failure_cause = r.tp_failure_cause;
  tp_parameter_indicator = r.tp_parameter_indicator;
  tp_service_centre_timestamp = time r.tp_service_centre_timestamp;
  tp_pid = r.tp_pid;
  tp_dcs = r.tp_dcs;
  tp_user_data_length = r.tp_user_data_length;
  tp_user_data = user_data r.tp_user_data;
  rp_outcome = outcome;
}

-- what lies after a length set to zero: records are equal where these are
abbrev pub cleared : SmsSubmitReport → SmsSubmitReport
cleared r = changed cleared_held cleared_held r.rp_outcome r

-- two records are equal without their outcomes where they are with another's
abbrev pub with_outcome : RpOutcome → SmsSubmitReport → SmsSubmitReport
with_outcome = changed (λ t. t) (λ d. d)

-- the time's letters capital
abbrev pub capitalised : SmsSubmitReport → SmsSubmitReport
capitalised r = changed capital_time (λ d. d) r.rp_outcome r

-- the arrays have the lengths of their types
abbrev pub Typed : SmsSubmitReport → Type 0
Typed r = TypedHeld r.tp_service_centre_timestamp × TypedHeld r.tp_user_data
