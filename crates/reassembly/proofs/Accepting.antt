-- What accepting a part comes to, by the fields that the reader finds and what user data say.
-- Assumes nothing.
use Rattle.reassembly.specs.declared.PartAccepted.{PartAccepted}
use Rattle.std.specs.Prelude.{Ok, Err}
use Prim.Native.Nat.{ℕ, ◌+◌, ◌-◌, ◌/◌, ◌%◌, ◌≤◌}
use mathlib.Core.Path.{◌≡◌, refl, sym, ap, ◌∙◌}
use mathlib.Core.Bool.{true, false}
use mathlib.Core.List.{List}
use native.Mathlib.Omega.{arith}
use lib.Dec.{eqb}
use lib.ListN.{length, take, drop}
use Rattle.octets.specs.Answers.{Said}
use Rattle.octets.specs.Each.{Octets}
use Rattle.octets.specs.declared.Refusal.{Refusal}
use Rattle.octets.specs.declared.Refusal.TheVariants.{LengthTooLarge}
use Rattle.octets.specs.Held.{filled}
use Rattle.octets.proofs.Holding.{filled_holding}
use Rattle.octets.proofs.Laws.{part_is}
use Rattle.address.specs.Address.{address_in, address_size}
use Rattle.address.specs.declared.SMSAddress.{SMSAddress}
use Rattle.layout.specs.Layout.{done, reached, read, read_from}
use Rattle.layout.proofs.Fields.{address_there}
use Rattle.layout.proofs.FirstOctet.{kept_bit}
use Rattle.layout.proofs.Steps.{done_reached, then_goes_on, then_ends}
use Rattle.deliver.specs.Layout.{bits, fields}
use Rattle.deliver.specs.Internal.{fields_at, found_says}
use Rattle.deliver.specs.Deliver.{delivered, format, deliver}
use Rattle.deliver.specs.declared.SmsDeliver.{SmsDeliver}
use Rattle.deliver.specs.declared.reading.DeliverFields.{DeliverFields}
use Rattle.part_number.specs.declared.PartNumber.{PartNumber}
use Rattle.part_number.specs.Numbering.{numbering_in}
use Rattle.part_number.proofs.Range.{numbered_in_range}
use Rattle.message_store.specs.Part.{key_of, arrival_of}
use Rattle.message_store.specs.Store.{key_octets, fits}
use Rattle.reassembly.specs.Calls.{placing_as, arriving, accepting}
use Rattle.reassembly.proofs.Arrival.{Fits, read_fits}

-- ---- by what user data say

abbrev pub says_of : SmsDeliver → Said PartNumber
says_of m = numbering_in m.tp_udhi m.tp_dcs m.tp_user_data_length (filled m.tp_user_data)

module _ (m : SmsDeliver) (store : List ℕ) where
  pub arrives_not : (why : Refusal) → says_of m ≡ Err why → ◌≡◌ {A = Said PartAccepted × List ℕ} (Err why, store) (arriving (arrival_of m) store)
  unfolding arrival_of
  arrives_not why e = rw e

  module _ (n : PartNumber) (e : says_of m ≡ Ok n) where
    pub numbers_few : (n.total ≤ 8) × (n.number ≤ 8)
    numbers_few = let (a, b, c, d) = numbered_in_range m.tp_udhi m.tp_dcs m.tp_user_data_length (filled m.tp_user_data) e in (b, omega arith)

    pub arrives : (key : List ℕ) → key ≡ key_octets (key_of m.tp_originating_address n.reference n.total) → (x : Said PartAccepted × List ℕ)
        → x ≡ placing_as key n m.tp_dcs (record { udl = m.tp_user_data_length; octets = filled m.tp_user_data }) store → x ≡ arriving (arrival_of m) store
    unfolding arrival_of
    arrives key is x p = p ∙ rw (is, e)

-- ---- by the fields that the reader finds

pub fields_refused : (s : List ℕ) (why : Refusal) → found_says s (Err why) ≡ read_from fields s 0 → (store : List ℕ) → ◌≡◌ {A = Said PartAccepted × List ℕ} (Err why, store) (accepting s store)
unfolding accepting read format
fields_refused s why e store = rw (then_ends s fields 0 (sym e) (λ x. done (delivered x)))

module _ (s : List ℕ) (f : DeliverFields) (found : found_says s (Ok f) ≡ read_from fields s 0) where
  abbrev pub message : SmsDeliver
  message = delivered (fields_at s f)

  reads : read deliver s ≡ reached message (f.«data» + f.octets)
  unfolding read format
  reads = rw (then_goes_on s fields 0 (sym found) (λ x. done (delivered x)), done_reached)

  pub message_fits : Octets s → Fits message
  message_fits o = read_fits s o message _ reads

  module _ (store : List ℕ) where
    pub accepts_unfit : fits store ≡ false → ◌≡◌ {A = Said PartAccepted × List ℕ} (Err LengthTooLarge, store) (accepting s store)
    unfolding accepting
    accepts_unfit e = rw (reads, e)

    pub accepts_on : fits store ≡ true → arriving (arrival_of message) store ≡ accepting s store
    unfolding accepting
    accepts_on e = rw (reads, e)

  -- the sender and the user data, as the code cuts them out
  pub sender_is : Octets s → f.address + address_size (drop f.address s) ≤ length s → (a : SMSAddress) → a ≡ address_in (take (address_size (drop f.address s)) (drop f.address s)) → a ≡ message.tp_originating_address
  unfolding delivered fields_at
  sender_is o inside a e = rw (address_there s o f.address inside) e

  abbrev pub data_cut : List ℕ
  data_cut = take (f.«data» + f.octets - f.«data») (drop f.«data» s)

  data_is : data_cut ≡ filled message.tp_user_data
  unfolding delivered fields_at
  data_is = part_is f.«data» f.octets s ∙ sym (filled_holding 255 (take f.octets (drop f.«data» s)))

  pub says_is : numbering_in (eqb (f.first / 64 % 2) 1) f.dcs f.udl data_cut ≡ says_of message
  unfolding delivered fields_at
  says_is = rw data_is (rw (kept_bit bits refl 6 refl f.first) refl)

  pub fields_arrive : (store : List ℕ) (n : PartNumber) → says_of message ≡ Ok n → (a : SMSAddress) → a ≡ message.tp_originating_address → (key : List ℕ) → key ≡ key_octets (key_of a n.reference n.total) → (x : Said PartAccepted × List ℕ)
      → x ≡ placing_as key n f.dcs (record { udl = f.udl; octets = data_cut }) store → x ≡ arriving (arrival_of message) store
  unfolding delivered fields_at
  fields_arrive store n e a is key k x p = arrives message store n e key (k ∙ ap (λ (b : SMSAddress). key_octets (key_of b n.reference n.total)) is) x (p ∙ ap (λ (d : List ℕ). placing_as key n f.dcs (record { udl = f.udl; octets = d }) store) data_is)
