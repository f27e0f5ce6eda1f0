-- The exception of cut messages (document 02, Ask 9): a STATUS-REPORT written with an indicator, cut just after status.
use Rattle.std.specs.Prelude.{ℕ, ◌+◌, ◌≡◌, refl, List, [], length, Some, None, Option}
use Rattle.std.proofs.Math.Option as Math
use Rattle.std.proofs.Math.Option.{none, some}
use Rattle.octets.specs.Each.{each}
use Rattle.octets.specs.SemiOctets.{in_pairs}
use Rattle.octets.specs.Held.{holding}
use Rattle.address.specs.Address.{address_with, text_held}
use Rattle.address.specs.Writing.{address_octets, octets_or}
use Rattle.status_report.specs.StatusReport.{blank}
use Rattle.status_report.specs.declared.SmsStatusReport.{SmsStatusReport}

-- the octets of a STATUS-REPORT's address
abbrev pub recipient_octets : SmsStatusReport → List ℕ
recipient_octets r = octets_or [] (address_octets r.tp_recipient_address.ton r.tp_recipient_address.npi (text_held r.tp_recipient_address))

-- how many octets it has up to status, and that: first octet, MR, address, two times, status
unfoldable pub up_to_status : SmsStatusReport → ℕ
up_to_status r = 1 + 1 + length (recipient_octets r) + 7 + 7 + 1

-- it may be cut there if an indicator follows: without one that is its end
abbrev pub if_held : Option ℕ → ℕ → Math.Option ℕ
if_held None n = none
if_held (Some indicator) n = some n

abbrev pub cut_after_status : SmsStatusReport → Math.Option ℕ
cut_after_status r = if_held r.tp_parameter_indicator (up_to_status r)

-- the same report with no indicator, parameters or user data
abbrev pub without_indicator : SmsStatusReport → SmsStatusReport
without_indicator r = record {
  tp_udhi = r.tp_udhi;
  tp_srq = r.tp_srq;
  tp_lp = r.tp_lp;
  tp_mms = r.tp_mms;
  tp_mr = r.tp_mr;
  tp_recipient_address = r.tp_recipient_address;
  tp_service_centre_timestamp = r.tp_service_centre_timestamp;
  tp_discharge_time = r.tp_discharge_time;
  tp_status = r.tp_status;
  tp_parameter_indicator = None;
  tp_pid = None;
  tp_dcs = None;
  tp_user_data_length = None;
  tp_user_data = holding 255 [];
}

-- a report with an address without digits, 00 80, has 19 octets up to status; without an indicator none is cut there
known_cuts : (up_to_status blank ≡ 19) × (cut_after_status blank ≡ none)
unfolding up_to_status blank address_with address_octets each in_pairs holding
known_cuts = (refl, refl)
