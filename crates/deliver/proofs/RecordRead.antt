-- The answer by the fields that were found, and the record of fields that are there.
-- Assumes nothing.
use Rattle.std.specs.Prelude.{Ok, Err}
use Prim.Native.Nat.{ℕ, ◌+◌, ◌-◌, ◌/◌, ◌%◌}
use mathlib.Core.Path.{◌≡◌, refl, sym}
use mathlib.Core.List.{List}
use native.Mathlib.Nat.{add-zero}
use lib.Dec.{eqb}
use lib.ListN.{take, drop}
use Rattle.octets.specs.Each.{Octets}
use Rattle.octets.specs.declared.Refusal.{Refusal}
use Rattle.octets.specs.Held.{holding}
use Rattle.octets.proofs.Laws.{part_is}
use Rattle.coding.specs.Coding.{UserData}
use Rattle.time.specs.Time.{time_in, Time}
use Rattle.gsm7.specs.Reading.{replaced_in, replaced_in_all}
use Rattle.address.specs.Address.{address_in, address_size, septets_read}
use Rattle.address.specs.declared.SMSAddress.{SMSAddress}
use Rattle.layout.specs.Layout.{done, read, reached, halted, read_from, answer}
use Rattle.layout.proofs.Fields.{address_there}
use Rattle.layout.proofs.FirstOctet.{kept_bit, kept_type}
use Rattle.layout.proofs.Steps.{done_reached, then_goes_on, then_ends}
use Rattle.deliver.specs.Layout.{bits, fields}
use Rattle.deliver.specs.Internal.{fields_at, reached_at, Inside}
use Rattle.deliver.specs.declared.reading.DeliverFields.{DeliverFields}
use Rattle.deliver.specs.Deliver.{DeliverRead, delivered, format, deliver, read_with}

-- ---- the answer

module _ (s : List ℕ) where
  -- fields that were found, or a refusal, come to what the layout gives of the record
  pub answer_refused : {why : Refusal} → halted why ≡ read_from fields s 0 → Err why ≡ answer (read_with s) (read deliver s)
  unfolding read format
  answer_refused e = rw (then_ends s fields 0 (sym e) (λ x. done (delivered x)))

  pub answer_done : (f : DeliverFields) → reached (fields_at s f) (reached_at f) ≡ read_from fields s 0 → Ok (read_with s (delivered (fields_at s f)) (reached_at f)) ≡ answer (read_with s) (read deliver s)
  unfolding read format
  answer_done f e = rw (then_goes_on s fields 0 (sym e) (λ x. done (delivered x)), done_reached)

-- ---- the record

pub message_is : (s : List ℕ) → Octets s → (f : DeliverFields) → Inside s 1 f
    → (a : SMSAddress) → a ≡ address_in (take (address_size (drop f.address s)) (drop f.address s)) → (t : Time) → t ≡ time_in (take 7 (drop f.timestamp s))
    → (d : UserData) → d ≡ holding 255 (take (f.«data» + f.octets - f.«data») (drop f.«data» s))
    → (n : ℕ) → n ≡ replaced_in (septets_read (take (address_size (drop f.address s)) (drop f.address s)))
    → ◌≡◌ {A = DeliverRead} (record {
      message = record {
        tp_rp = eqb (f.first / 128 % 2) 1;
        tp_udhi = eqb (f.first / 64 % 2) 1;
        tp_sri = eqb (f.first / 32 % 2) 1;
        tp_lp = eqb (f.first / 8 % 2) 1;
        tp_mms = eqb (f.first / 4 % 2) 1;
        tp_mti = f.first % 4;
        tp_originating_address = a;
        tp_pid = f.pid;
        tp_dcs = f.dcs;
        tp_service_centre_timestamp = t;
        tp_user_data_length = f.udl;
        tp_user_data = d;
      };
      replaced_escapes = n;
    })
    (read_with s (delivered (fields_at s f)) (reached_at f))
unfolding delivered fields_at replaced_in_all
message_is s o f inside a ea t et d ed n en =
    rw (
      kept_bit bits refl 7 refl f.first,
      kept_bit bits refl 6 refl f.first,
      kept_bit bits refl 5 refl f.first,
      kept_bit bits refl 3 refl f.first,
      kept_bit bits refl 2 refl f.first,
      kept_type bits refl f.first,
      address_there s o f.address inside.0,
      ea,
      et,
      ed,
      part_is f.«data» f.octets s,
      en,
      inside.4,
      add-zero,
    )
