-- The answer by the fields that were found, and the record of fields that are there.
-- Assumes nothing.
use Rattle.std.specs.Prelude.{Ok, Err, Option, Some}
use Rattle.std.specs.Bool.{then_some}
use Prim.Native.Nat.{ℕ, ◌+◌, ◌-◌, ◌/◌, ◌%◌, ◌<◌, ◌≤◌}
use mathlib.Core.Path.{◌≡◌, sym, ◌∙◌}
use mathlib.Core.Bool.{true}
use mathlib.Core.List.{List}
use native.Mathlib.Omega.{arith}
use native.Mathlib.Nat.{add-zero}
use lib.Dec.{eqb}
use lib.ListN.{length, take, drop}
use Rattle.octets.specs.Answers.{Said}
use Rattle.octets.specs.Arrays.{pad}
use Rattle.octets.specs.Each.{Octets}
use Rattle.octets.specs.Held.{holding}
use Rattle.octets.proofs.Holding.{filled_holding}
use Rattle.octets.proofs.Each.{octets_take, octets_drop}
use Rattle.octets.proofs.Laws.{part_is, part_size}
use Rattle.coding.specs.Coding.{coding_of, data_octets, UserData}
use Rattle.coding.specs.declared.UserDataCoding.{UserDataCoding}
use Rattle.gsm7.specs.Reading.{replaced_in, replaced_in_all}
use Rattle.time.specs.Time.{time_in, Time}
use Rattle.address.specs.Address.{address_in, address_size, septets_read}
use Rattle.address.specs.declared.SMSAddress.{SMSAddress}
use Rattle.address.proofs.Laws.{few_replaced}
use Rattle.layout.specs.Layout.{done, read, read_from, answer}
use Rattle.layout.proofs.Fields.{address_there}
use Rattle.layout.proofs.Steps.{done_reached, then_goes_on, then_ends}
use Rattle.validity_period.specs.Validity.{period_in, of_format}
use Rattle.validity_period.specs.declared.ValidityPeriod.{ValidityPeriod}
use Rattle.user_data_header.specs.Header.{in_count}
use Rattle.submit.specs.Layout.{format_in, fields}
use Rattle.submit.specs.Internal.{fields_at, found_says, Inside}
use Rattle.submit.specs.declared.reading.SubmitFields.{SubmitFields}
use Rattle.submit.specs.declared.SmsSubmit.{SmsSubmit}
use Rattle.submit.specs.declared.SubmitRead.{SubmitRead}
use Rattle.submit.specs.Submit.{SubmitText, readable, data_septets, submitted, format, submit, read_with, texts_read}
use Rattle.submit.proofs.Text.{data_replaced}

-- ---- the answer

-- what fields that were found, or a refusal, come to
pub answer_is : (s : List ℕ) (found : Said SubmitFields) → found_says s found ≡ read_from fields s 0 → {A : Type 0} (gives : SmsSubmit → ℕ → A) → answer gives (read submit s) ≡ answer (λ x at. gives (submitted x) at) (found_says s found)
unfolding read format
answer_is s (Ok f) e gives = rw (then_goes_on s fields 0 (sym e) (λ x. done (submitted x)), done_reached)
answer_is s (Err why) e gives = rw (then_ends s fields 0 (sym e) (λ x. done (submitted x)))

-- ---- the record

-- a stretch of a string, as the code cuts it out
abbrev pub stretch : ℕ → ℕ → List ℕ → List ℕ
stretch a n s = take (a + n - a) (drop a s)

-- the user data are as long as they were found to be, so they and their header have room in the record
pub data_room : (s : List ℕ) (f : SubmitFields) → Inside s 2 (Ok f) → (let ud = stretch f.«data» f.octets s in (length ud ≡ f.octets) × (length ud ≤ 255) × (f.header ≤ length ud))
data_room s f inside =
    let size : length (stretch f.«data» f.octets s) ≡ f.octets = rw (part_is f.«data» f.octets s) (part_size f.«data» f.octets s inside.3) in
    (size, omega (arith, size, inside.4), omega (arith, size, inside.7))

-- and in their coding the header fits the count
pub data_fits : (s : List ℕ) (f : SubmitFields) → Inside s 2 (Ok f) → {coding : UserDataCoding} → coding ≡ coding_of f.dcs
    → (let ud = stretch f.«data» f.octets s in (f.header ≤ length ud) × (in_count coding f.udl f.header ≡ true) × (length ud ≡ data_octets coding f.udl))
data_fits s f inside e = let (size, few, header) = data_room s f inside in rw e (header, inside.8, size ∙ inside.5)

pub message_is : (s : List ℕ) → Octets s → (f : SubmitFields) → Inside s 2 (Ok f) → (let format = format_in f.first in let vp = stretch f.validity f.validity_octets s in let ud = stretch f.«data» f.octets s in
    (a : SMSAddress) → a ≡ address_in (take (address_size (drop f.address s)) (drop f.address s)) → (period : ValidityPeriod) → period ≡ period_in format vp → (t : Time) → t ≡ time_in (of_format 3 format vp)
    → (enhanced : List ℕ) → enhanced ≡ pad 7 (of_format 1 format vp) → (raw : UserData) → raw ≡ holding 255 ud → (header : Option UserData) → header ≡ then_some (eqb (f.first / 64 % 2) 1) (holding 255 (take f.header ud))
    → (text : SubmitText) → text ≡ holding 510 (readable (coding_of f.dcs) f.udl f.header ud)
    → ◌≡◌ {A = SmsSubmit} (record {
      tp_rp = eqb (f.first / 128 % 2) 1;
      tp_udhi = eqb (f.first / 64 % 2) 1;
      tp_srr = eqb (f.first / 32 % 2) 1;
      tp_mti = f.first % 4;
      tp_rd = eqb (f.first / 4 % 2) 1;
      tp_vpf = f.first / 8 % 4;
      tp_mr = f.mr;
      tp_destination_address = Some a;
      tp_pid = f.pid;
      tp_dcs = f.dcs;
      tp_validity_period = period;
      validity_period_digits = t;
      validity_period_octets = enhanced;
      tp_user_data_length = f.udl;
      tp_user_data_raw = raw;
      tp_user_data_header = header;
      tp_user_data = text;
    })
    (submitted (fields_at s f)))
unfolding submitted fields_at
message_is s o f inside a ea period ep t et enhanced en raw er header eh text ex =
    rw (
      address_there s o f.address inside.0,
      ea,
      ep,
      et,
      en,
      er,
      eh,
      ex,
      part_is f.validity f.validity_octets s,
      part_is f.«data» f.octets s,
      ← inside.6,
    )

-- ---- what is replaced in it

module _ (s : List ℕ) (f : SubmitFields) {k n : ℕ} (k_is : k ≡ replaced_in (septets_read (take (address_size (drop f.address s)) (drop f.address s)))) where
  -- it is counted without overflow
  pub replaced_fits : Octets s → (coding : UserDataCoding) → f.udl < 256 → n ≡ replaced_in (data_septets coding f.udl f.header (stretch f.«data» f.octets s)) → k + n ≤ 400
  replaced_fits o coding small n-is =
      let d = drop f.address s in
      let field = take (address_size d) d in
      omega (arith, k_is, n-is, data_replaced coding f.udl f.header (stretch f.«data» f.octets s), few_replaced field (octets_take (address_size d) d (octets_drop f.address s o) 0))

  -- and is that of all that is read as text
  pub replaced_is : Inside s 2 (Ok f) → n ≡ replaced_in (data_septets (coding_of f.dcs) f.udl f.header (stretch f.«data» f.octets s)) → k + n ≡ replaced_in_all (texts_read s (submitted (fields_at s f)))
  unfolding submitted fields_at replaced_in_all
  replaced_is inside n-is =
      let third = rw inside.9 at k_is in
      rw (filled_holding 255 (take f.octets (drop f.«data» s)), ← inside.6, add-zero, ← part_is f.«data» f.octets s, third, n-is)

-- the whole answer
pub read_is : (s : List ℕ) {m q : SmsSubmit} {c : ℕ} (end : ℕ) → m ≡ q → c ≡ replaced_in_all (texts_read s q)
    → ◌≡◌ {A = SubmitRead} (record { message = m; octets_read = end; replaced_escapes = c }) (read_with s q end)
read_is s end em ec = rw (em, ec)
