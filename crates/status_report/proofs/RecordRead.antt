-- The answer by the fields that were found, and the record of fields that are there.
-- Assumes nothing.
use Rattle.std.specs.Prelude.{Ok, Err}
use Prim.Native.Nat.{ℕ, ◌+◌, ◌-◌, ◌/◌, ◌%◌}
use mathlib.Core.Path.{◌≡◌, refl, sym}
use mathlib.Core.List.{List}
use native.Mathlib.Nat.{add-zero}
use lib.Dec.{eqb}
use lib.ListN.{take, drop}
use Rattle.octets.specs.Each.{Octets}
use Rattle.octets.specs.declared.Refusal.{Refusal}
use Rattle.octets.specs.Held.{holding}
use Rattle.octets.proofs.Laws.{part_is}
use Rattle.coding.specs.Coding.{UserData}
use Rattle.time.specs.Time.{time_in, Time}
use Rattle.gsm7.specs.Reading.{replaced_in, replaced_in_all}
use Rattle.address.specs.Address.{address_in, address_size, septets_read}
use Rattle.address.specs.declared.SMSAddress.{SMSAddress}
use Rattle.layout.specs.Layout.{done, read, reached, halted, read_from, answer}
use Rattle.layout.proofs.Fields.{address_there}
use Rattle.layout.proofs.FirstOctet.{kept_bit}
use Rattle.layout.proofs.Steps.{done_reached, then_goes_on, then_ends}
use Rattle.status_report.specs.Layout.{bits, fields}
use Rattle.status_report.specs.Internal.{fields_at, reached_at, Inside}
use Rattle.status_report.specs.declared.reading.StatusReportFields.{StatusReportFields}
use Rattle.status_report.specs.StatusReport.{StatusReportRead, status_reported, format, status_report, read_with}

-- ---- the answer

module _ (s : List ℕ) where
  -- fields that were found, or a refusal, come to what the layout gives of the record
  pub answer_refused : {why : Refusal} → halted why ≡ read_from fields s 0 → Err why ≡ answer (read_with s) (read status_report s)
  unfolding read format
  answer_refused e = rw (then_ends s fields 0 (sym e) (λ x. done (status_reported x)))

  pub answer_done : (f : StatusReportFields) → reached (fields_at s f) (reached_at f) ≡ read_from fields s 0 → Ok (read_with s (status_reported (fields_at s f)) (reached_at f)) ≡ answer (read_with s) (read status_report s)
  unfolding read format
  answer_done f e = rw (then_goes_on s fields 0 (sym e) (λ x. done (status_reported x)), done_reached)

-- ---- the record

pub message_is : (s : List ℕ) → Octets s → (f : StatusReportFields) → Inside s 2 f
    → (a : SMSAddress) → a ≡ address_in (take (address_size (drop f.address s)) (drop f.address s)) → (t : Time) → t ≡ time_in (take 7 (drop f.timestamp s)) → (u : Time) → u ≡ time_in (take 7 (drop f.discharge s))
    → (d : UserData) → d ≡ holding 255 (take (f.«data» + f.octets - f.«data») (drop f.«data» s))
    → (n : ℕ) → n ≡ replaced_in (septets_read (take (address_size (drop f.address s)) (drop f.address s)))
    → ◌≡◌ {A = StatusReportRead} (record {
      message = record {
        tp_udhi = eqb (f.first / 64 % 2) 1;
        tp_srq = eqb (f.first / 32 % 2) 1;
        tp_lp = eqb (f.first / 8 % 2) 1;
        tp_mms = eqb (f.first / 4 % 2) 1;
        tp_mr = f.mr;
        tp_recipient_address = a;
        tp_service_centre_timestamp = t;
        tp_discharge_time = u;
        tp_status = f.status;
        tp_parameter_indicator = f.indicator;
        tp_pid = f.parameters.pid;
        tp_dcs = f.parameters.dcs;
        tp_user_data_length = f.parameters.udl;
        tp_user_data = d;
      };
      replaced_escapes = n;
    })
    (read_with s (status_reported (fields_at s f)) (reached_at f))
unfolding status_reported fields_at replaced_in_all
message_is s o f inside a ea t et u eu d ed n en =
    rw (
      kept_bit bits refl 6 refl f.first,
      kept_bit bits refl 5 refl f.first,
      kept_bit bits refl 3 refl f.first,
      kept_bit bits refl 2 refl f.first,
      address_there s o f.address inside.0,
      ea,
      et,
      eu,
      ed,
      part_is f.«data» f.octets s,
      en,
      inside.5,
      add-zero,
    )
