-- SMS-DELIVER-REPORT (TS 23.040 §9.2.2.1a): its two layouts, what its writers make of a record, and what is no part of one.
use Rattle.std.specs.Prelude.{ℕ, ◌≡◌, refl, true, false, List, [], ◌∷◌, Err, Some, None, Option}
use Rattle.octets.specs.Answers.{fine}
use Rattle.octets.specs.Checks.{◌unless◌, found, checked, all_fit}
use Rattle.octets.specs.Lent.{Making}
use Rattle.octets.specs.declared.Refusal.TheVariants.{LengthTooLarge, OctetsEnd, WrongMessageType, UserDataTooLong, OutcomeDisagrees}
use Rattle.octets.specs.Held.{holding, filled, cleared_held, TypedHeld}
use Rattle.coding.specs.Coding.{coding_of, character_set, data_octets, UserData}
use Rattle.gsm7.specs.Reading.{replaced_in_all}
use Rattle.layout.specs.Layout.{indicator_size, kept, Layout, records, stops, reached, halted, after, reading, read_from, read, fields_of, canonical_of}
use Rattle.layout.specs.declared.MessageRead.{MessageRead}
use Rattle.parameters.specs.Checking.{data_within}
use Rattle.parameters.specs.Layout.{parameters}
use Rattle.parameters.specs.Outcome.{outcome_agrees}
use Rattle.parameters.specs.declared.RpOutcome.{RpOutcome}
use Rattle.parameters.specs.declared.RpOutcome.TheVariants.{RpAck, RpError}
use Rattle.report.specs.Report.{Fields, format, blank as blankFields, stopped as stoppedFields, layout_of as reportLayout, texts_read, octets_of, checks_within, standard_limit as limit_of}
use Rattle.deliver_report.specs.declared.SmsDeliverReport.{SmsDeliverReport}

-- ---- reading

-- the record of a report's fields: it has no time
unfoldable pub deliver_reported : Fields → SmsDeliverReport
deliver_reported x = record {
  tp_udhi = x.udhi;
  tp_failure_cause = x.cause;
  tp_parameter_indicator = x.indicator;
  tp_pid = x.parameters.pid;
  tp_dcs = x.parameters.dcs;
  tp_user_data_length = x.parameters.udl;
  tp_user_data = holding 255 x.parameters.ud;
  rp_outcome = x.outcome;
}

-- the blank record, whatever the entry point; and the stopped RP-ERROR
abbrev pub blank : SmsDeliverReport
blank = deliver_reported blankFields

abbrev pub stopped : SmsDeliverReport
stopped = deliver_reported stoppedFields

-- the layout of an outcome (TS 23.040 §9.2.2.1a): MTI 0, and no time
abbrev pub layout_of : RpOutcome → Layout SmsDeliverReport
layout_of outcome = records deliver_reported (reportLayout 0 false outcome)

-- the stopped RP-ERROR 04 gives the record of 00 FF 00; an RP-ACK with UDHI, an extended indicator 85, PID 11 and two septets
known_reports : (read (layout_of RpError) (0x04 ∷ []) ≡ reached stopped 1) × (read (layout_of RpError) (0x00 ∷ 0xff ∷ 0x00 ∷ []) ≡ reached stopped 3) × (read (layout_of RpAck) (0x01 ∷ 0x00 ∷ []) ≡ halted WrongMessageType) × (read (layout_of RpAck) (0x00 ∷ []) ≡ halted OctetsEnd)
    × (read (layout_of RpAck) (0x40 ∷ 0x85 ∷ 0x00 ∷ 0x11 ∷ 0x02 ∷ 0x41 ∷ 0x21 ∷ [])
    ≡ reached (deliver_reported (record { outcome = RpAck; udhi = true; cause = None; indicator = 0x85; scts = []; parameters = record { pid = Some 0x11; dcs = None; udl = Some 2; ud = 0x41 ∷ 0x21 ∷ [] } })) 7)
    × (canonical_of (layout_of RpAck) (0x40 ∷ 0x85 ∷ 0x00 ∷ 0x11 ∷ 0x02 ∷ 0x41 ∷ 0x21 ∷ []) ≡ 0x40 ∷ 0x85 ∷ 0x11 ∷ 0x02 ∷ 0x41 ∷ 0x21 ∷ [])
unfolding format read read_from reading after stops canonical_of fields_of parameters kept indicator_size coding_of character_set data_octets
known_reports = (refl, refl, refl, refl, refl, refl)

-- what a reader gives
abbrev pub DeliverReportRead : Type 0
DeliverReportRead = MessageRead SmsDeliverReport

-- of a record: it, and how many escapes in its texts were replaced
abbrev pub read_with : List ℕ → SmsDeliverReport → ℕ → DeliverReportRead
read_with s r at = record { message = r; replaced_escapes = replaced_in_all (texts_read s r) }

-- ---- writing

-- the fields of a record
abbrev pub fields_in : SmsDeliverReport → Fields
fields_in r = record {
  outcome = r.rp_outcome;
  udhi = r.tp_udhi;
  cause = r.tp_failure_cause;
  indicator = r.tp_parameter_indicator;
  scts = [];
  parameters = record { pid = r.tp_pid; dcs = r.tp_dcs; udl = r.tp_user_data_length; ud = filled r.tp_user_data };
}

-- its lengths, each with the size of its array
abbrev pub lengths_of : SmsDeliverReport → List (ℕ × ℕ)
lengths_of r = (r.tp_user_data.length, 255) ∷ []

-- what a writer makes of a record within a limit of user data: 1; 29; 13 and 14; 7, 8 and 15
unfoldable pub deliver_reporting_within : ℕ → SmsDeliverReport → Making ℕ
deliver_reporting_within limit r =
    checked
    ((LengthTooLarge unless all_fit (lengths_of r)) ∷ (OutcomeDisagrees unless outcome_agrees r.rp_outcome r.tp_failure_cause) ∷ checks_within limit true (fields_in r))
    (octets_of 0 (fields_in r))

-- the ported writer: within 140
abbrev pub deliver_reporting : SmsDeliverReport → Making ℕ
deliver_reporting = deliver_reporting_within 140

-- the limits of the standard's two tables (TS 23.040 §9.2.2.1a): 159 in an RP-ACK, 158 in an RP-ERROR, which a cause means
abbrev pub standard_limit : Option ℕ → ℕ
standard_limit = limit_of 159 158

-- the writer to the standard: within these
abbrev pub deliver_reporting_to_standard : SmsDeliverReport → Making ℕ
deliver_reporting_to_standard r = deliver_reporting_within (standard_limit r.tp_failure_cause) r

-- user data of 159 and 160 octets in an RP-ACK, of 158 and 159 in an RP-ERROR with cause D3
known_limits : (found (data_within (standard_limit None) (Some 0x04) (Some 159) 159) ≡ fine) × (found (data_within (standard_limit None) (Some 0x04) (Some 160) 160) ≡ Err UserDataTooLong)
    × (found (data_within (standard_limit (Some 0xd3)) (Some 0x04) (Some 158) 158) ≡ fine) × (found (data_within (standard_limit (Some 0xd3)) (Some 0x04) (Some 159) 159) ≡ Err UserDataTooLong)
unfolding data_within coding_of character_set data_octets
known_limits = (refl, refl, refl, refl)

-- ---- what is no part of a record

-- the same record with user data changed, and with an outcome
abbrev pub changed : (UserData → UserData) → RpOutcome → SmsDeliverReport → SmsDeliverReport
changed user_data outcome r = record {
  tp_udhi = r.tp_udhi;
  tp_failure_cause = r.tp_failure_cause;
  tp_parameter_indicator = r.tp_parameter_indicator;
  tp_pid = r.tp_pid;
  tp_dcs = r.tp_dcs;
  tp_user_data_length = r.tp_user_data_length;
  tp_user_data = user_data r.tp_user_data;
  rp_outcome = outcome;
}

-- what lies after the user data's length set to zero: records are equal where these are
abbrev pub cleared : SmsDeliverReport → SmsDeliverReport
cleared r = changed cleared_held r.rp_outcome r

-- two records are equal without their outcomes where they are with another's
abbrev pub with_outcome : RpOutcome → SmsDeliverReport → SmsDeliverReport
with_outcome = changed (λ d. d)

-- the array has the length of its type
abbrev pub Typed : SmsDeliverReport → Type 0
Typed r = TypedHeld r.tp_user_data
