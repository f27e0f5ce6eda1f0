-- What is claimed of a store that began empty and that only the calls wrote (document 02, Ask 6).
use Rattle.std.specs.Prelude.{ℕ, ◌-◌, ◌≤◌, ◌<◌, ◌≡◌, List, [], ◌∷◌, ◌⊎◌, eqb, length, get_or, set, replicate, if◌then◌else◌, Ok, Err, IsOk}
use Rattle.std.proofs.Math.Option.{Option, none, some}
use Rattle.octets.specs.Answers.{Said}
use Rattle.octets.specs.Each.{Octets}
use Rattle.octets.specs.Lent.{lend}
use Rattle.octets.specs.declared.Refusal.TheVariants.{StoreFull, NotAPart}
use Rattle.layout.specs.Layout.{Reached, reached, halted, read}
use Rattle.deliver.specs.Deliver.{deliver}
use Rattle.deliver.specs.declared.SmsDeliver.{SmsDeliver}
use Rattle.part_number.specs.Numbering.{numbered}
use Rattle.message_store.specs.Part.{Key, Named, Part, Arrived, arrival_of}
use Rattle.message_store.specs.Store.{store_octets, Message, missing_of, held_of}
use Rattle.reassembly.specs.declared.MessageDropped.{MessageDropped}
use Rattle.reassembly.specs.declared.MessageTaken.{MessageTaken}
use Rattle.reassembly.specs.declared.PartAccepted.{PartAccepted}
use Rattle.reassembly.specs.Calls.{told, emptied, accepting, message_making, taking, dropping}

-- ---- calls, one after the other

-- the octets of a DELIVER are accepted or refused; a message is taken, with a lent output, or not; a message is dropped, or not
pub data Call : Type 0 where
  accept : (octets : List ℕ) → Octets octets → Call
  take : (key : Key) → Named key → (out : List ℕ) → Call
  drop : (key : Key) → Named key → Call

-- the store after a call, and after calls
abbrev pub after : Call → List ℕ → List ℕ
after (accept octets o) store = (accepting octets store).1
after (take key n out) store = (taking key store out).1
after (drop key n) store = (dropping key store).1

abbrev pub after_all : List Call → List ℕ → List ℕ
after_all [] store = store
after_all (c ∷ cs) store = after_all cs (after c store)

-- it began empty, and only these calls wrote it
pub record OnlyCalls (store : List ℕ) : Type 0 where
  pub lent : List ℕ
  pub room : store_octets ≤ length lent
  pub calls : List Call
  pub is : store ≡ after_all calls (emptied lent).1

-- ---- which parts were accepted, and which messages left alone

-- the part that octets are: the reader's refusals, then those of a part
abbrev pub part_read : Reached SmsDeliver → Said Arrived
part_read (halted why) = Err why
part_read (reached m n) = arrival_of m

abbrev pub arrival_in : List ℕ → Said Arrived
arrival_in octets = part_read (read deliver octets)

-- the call accepts the part a
abbrev pub Accepts : Arrived → Call → List ℕ → Type 0
Accepts a (accept octets o) store = (arrival_in octets ≡ Ok a) × IsOk (accepting octets store).0
Accepts a (take key n out) store = ⊥
Accepts a (drop key n) store = ⊥

-- one of the calls, each with the store that those before it left, accepts it
abbrev pub Accepted : Arrived → List Call → List ℕ → Type 0
Accepted a [] store = ⊥
Accepted a (c ∷ cs) store = Accepts a c store ⊎ Accepted a cs (after c store)

-- the call doesn't take the message whole, nor drop it (it may try)
abbrev pub Leaves : Key → Call → List ℕ → Type 0
Leaves key (accept octets o) store = Unit
Leaves key (take other n out) store = other ≡ key → (dcs octets : ℕ) → (taking other store out).0 ≡ Ok (MessageTaken.Whole dcs octets) → ⊥
Leaves key (drop other n) store = other ≡ key → (dropping other store).0 ≡ Ok MessageDropped.Done → ⊥

abbrev pub LeaveAll : Key → List Call → List ℕ → Type 0
LeaveAll key [] store = Unit
LeaveAll key (c ∷ cs) store = Leaves key c store × LeaveAll key cs (after c store)

-- ---- what is held of a message, and what it is once a part is added

abbrev pub parts_or : ℕ → Option Message → List (Option Part)
parts_or total none = replicate total none
parts_or total (some m) = m.parts

-- the part that is held with the number of a
abbrev pub held_with : Arrived → Option Message → Option Part
held_with a held = get_or (parts_or a.key.total held) (a.number - 1) none

unfoldable pub adding : Arrived → Option Message → Message
adding a held = record { dcs = a.dcs; parts = set (parts_or a.key.total held) (a.number - 1) (some a.part) }

-- the coding scheme is that of the open message
abbrev pub SameCoding : Arrived → Option Message → Type 0
SameCoding a none = Unit
SameCoding a (some m) = m.dcs ≡ a.dcs

-- a part goes with what is held of its message: the same coding scheme; and its number is missing, or held with the same UDL and data
abbrev pub GoesWith : Arrived → Option Message → Type 0
GoesWith a held = SameCoding a held × ((held_with a held ≡ none) ⊎ (held_with a held ≡ some a.part))

-- 16 different messages are open
pub record SixteenOpen (store : List ℕ) : Type 0 where
  pub message : ℕ → Key
  pub different : (i j : ℕ) → i < 16 → j < 16 → message i ≡ message j → i ≡ j
  pub opened : (k : ℕ) → k < 16 → held_of (message k) store ≡ none → ⊥

-- what a store later holds of every message but one is what it held
abbrev pub OthersStay : Key → List ℕ → List ℕ → Type 0
OthersStay key store later = (other : Key) → Named other → (other ≡ key → ⊥) → held_of other later ≡ held_of other store

-- ---- what becomes of a part: exactly one of these (`becomes`, `never_both`)

-- it is accepted: it goes with what is held, and a new message finds fewer than 16 open; its message is as before but for the part, and every other as before; a copy of a part that is held leaves every octet of the store as it was
pub record Joined (a : Arrived) (store : List ℕ) (answer : Said PartAccepted) (later : List ℕ) : Type 0 where
  pub goes : GoesWith a (held_of a.key store)
  pub not_full : held_of a.key store ≡ none → SixteenOpen store → ⊥
  pub its_message : held_of a.key later ≡ some (adding a (held_of a.key store))
  pub others : OthersStay a.key store later
  pub copy : held_with a (held_of a.key store) ≡ some a.part → later ≡ store
  pub tells : answer ≡ told (numbered a.key.reference a.key.total a.number) (adding a (held_of a.key store))

-- it is refused, and nothing changes. 28: it doesn't go with what is held; 27: its message is new, and 16 are open
pub record Turned (a : Arrived) (store : List ℕ) (answer : Said PartAccepted) (later : List ℕ) : Type 0 where
  pub same : later ≡ store
  pub why : ((answer ≡ Err NotAPart) × (GoesWith a (held_of a.key store) → ⊥))
      ⊎ ((answer ≡ Err StoreFull) × (held_of a.key store ≡ none) × SixteenOpen store)

-- ---- what becomes of a message that is to be taken or dropped

-- the answer and the lent output afterwards, by what is held: not open; not whole; else coding scheme and what is shown, lent (23 where it doesn't fit)
unfoldable pub taken_of : Option Message → List ℕ → Said MessageTaken × List ℕ
taken_of none out = (Ok MessageTaken.NotOpen, out)
taken_of (some m) out = if eqb (length (missing_of m)) 0 then lend (message_making m) out else (Ok MessageTaken.NotWhole, out)

-- a message that was taken whole leaves the store
abbrev pub left_by : Said MessageTaken → Option Message → Option Message
left_by (Ok (MessageTaken.Whole dcs n)) held = none
left_by (Ok MessageTaken.NotOpen) held = held
left_by (Ok MessageTaken.NotWhole) held = held
left_by (Err why) held = held

pub record Took (key : Key) (store out : List ℕ) (answer : Said MessageTaken) (later outLater : List ℕ) : Type 0 where
  pub answers : (answer, outLater) ≡ taken_of (held_of key store) out
  pub its_message : held_of key later ≡ left_by answer (held_of key store)
  pub others : OthersStay key store later
  -- nothing changes but by taking it whole
  pub unchanged : ((dcs n : ℕ) → answer ≡ Ok (MessageTaken.Whole dcs n) → ⊥) → (later ≡ store) × (outLater ≡ out)

abbrev pub dropped_of : Option Message → MessageDropped
dropped_of none = MessageDropped.NotOpen
dropped_of (some m) = MessageDropped.Done

pub record Dropped (key : Key) (store : List ℕ) (answer : Said MessageDropped) (later : List ℕ) : Type 0 where
  pub says : answer ≡ Ok (dropped_of (held_of key store))
  pub its_message : held_of key later ≡ none
  pub others : OthersStay key store later
  -- nothing changes where it wasn't open
  pub unchanged : held_of key store ≡ none → later ≡ store

-- ---- what is kept of a message

-- every part that it holds, and its coding scheme
abbrev pub Keeps : Option Message → Option Message → Type 0
Keeps none later = Unit
Keeps (some m) none = ⊥
Keeps (some m) (some n) = (m.dcs ≡ n.dcs) × ((i : ℕ) (p : Part) → get_or m.parts i none ≡ some p → get_or n.parts i none ≡ some p)

-- n is one of the numbers
abbrev pub Among : ℕ → List ℕ → Type 0
Among n [] = ⊥
Among n (k ∷ ks) = (n ≡ k) ⊎ Among n ks
