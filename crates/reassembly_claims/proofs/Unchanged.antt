-- A refusal changes no lent octet, whatever the store holds (demand 1).
-- Assumes nothing.
use Prim.Native.Nat.{ℕ}
use mathlib.Core.Path.{◌≡◌, refl, ap, ◌∙◌}
use mathlib.Core.Bool.{Bool, true, false, not}
use mathlib.Core.List.{List, ◌∷◌, ◌++◌}
use lib.Dec.{eqb, leb}
use lib.ListN.{length, drop}
use Rattle.octets.specs.Answers.{Said}
use Rattle.std.specs.Prelude.{if◌then◌else◌, Ok, Err}
use Rattle.octets.specs.Lent.{lend}
use Rattle.octets.specs.declared.Refusal.{Refusal}
use Rattle.octets.specs.declared.Refusal.TheVariants.{LengthTooLarge, OutputTooShort, StoreFull, NotAPart}
use Rattle.octets.proofs.Checks.{never}
use Rattle.layout.specs.Layout.{Reached, reached, halted, read}
use Rattle.deliver.specs.Deliver.{deliver}
use Rattle.deliver.specs.declared.SmsDeliver.{SmsDeliver}
use Rattle.message_store.specs.Part.{Part, Arrived, arrival_of}
use Rattle.message_store.specs.Store.{begins, coding_in, is_held, block, key_octets, opened_with, with_part, closed, slot_at, with_slot, slot_with, free_slot, fits, Message, message_in, missing_of, shown_of}
use Rattle.reassembly.specs.declared.MessageDropped.{MessageDropped}
use Rattle.reassembly.specs.declared.MessageTaken.{MessageTaken}
use Rattle.part_number.specs.Numbering.{numbered}
use Rattle.part_number.specs.declared.PartNumber.{PartNumber}
use Rattle.reassembly.specs.declared.PartAccepted.{PartAccepted}
use Rattle.reassembly.specs.Calls.{in_slot, told, storing, joining, placing_as, arriving, gathering, accepting, message_making, closed_by, handing, taking_from, dropping_from}
use Rattle.message_store.proofs.Slots.{put_back}

-- ---- accepting: where the answer is a refusal the list is as it was

abbrev pub Unchanged : List ℕ → Said PartAccepted × List ℕ → Type 0
Unchanged was r = (why : Refusal) → r.0 ≡ Err why → r.1 ≡ was

told_not : (n : PartNumber) (m : Message) (why : Refusal) → told n m ≡ Err why → ⊥
unfolding told
told_not n m why e = never e

joining_unchanged : (n : PartNumber) (dcs : ℕ) (p : Part) (slot : List ℕ) → Unchanged slot (joining n dcs p slot)
unfolding joining
joining_unchanged n dcs p slot = by_tests (eqb (coding_in slot) dcs) (is_held n.number slot) (begins (p.udl ∷ p.octets) (block n.number slot))
  where
    answers : Bool → Bool → Bool → Said PartAccepted × List ℕ
    answers a b c = if not a then (Err NotAPart, slot) else if not b then storing n p slot else if c then (told n (message_in n.total slot), slot) else (Err NotAPart, slot)

    by_tests : (a b c : Bool) → Unchanged slot (answers a b c)
    by_tests false b c why e = refl
    by_tests true false c why e = absurd (told_not n (message_in n.total (with_part n.number p slot)) why e)
    by_tests true true true why e = refl
    by_tests true true false why e = refl

placing_unchanged : (key : List ℕ) (n : PartNumber) (dcs : ℕ) (p : Part) (store : List ℕ) → Unchanged store (placing_as key n dcs p store)
unfolding placing_as
placing_unchanged key n dcs p store = by_tests (eqb (slot_with key store) 16) (eqb (free_slot store) 16)
  where
    answers : Bool → Bool → Said PartAccepted × List ℕ
    answers a b =
        if not a then in_slot (slot_with key store) (joining n dcs p (slot_at (slot_with key store) store)) store
        else if not b then in_slot (free_slot store) (storing n p (opened_with key dcs (slot_at (free_slot store) store))) store
        else (Err StoreFull, store)

    by_tests : (a b : Bool) → Unchanged store (answers a b)
    by_tests false b why e = ap (λ (s : List ℕ). with_slot (slot_with key store) s store) (joining_unchanged n dcs p (slot_at (slot_with key store) store) why e) ∙ put_back (slot_with key store) store
    by_tests true false why e = absurd (told_not n (message_in n.total (with_part n.number p (opened_with key dcs (slot_at (free_slot store) store)))) why e)
    by_tests true true why e = refl

pub accepting_unchanged : (octets store : List ℕ) → Unchanged store (accepting octets store)
unfolding accepting
accepting_unchanged octets store = by_reached (read deliver octets)
  where
    by_arrival : (x : Said Arrived) → Unchanged store (arriving x store)
    by_arrival (Err why) w e = refl
    by_arrival (Ok a) w e = placing_unchanged (key_octets a.key) (numbered a.key.reference a.key.total a.number) a.dcs a.part store w e

    by_fit : (m : SmsDeliver) (t : Bool) → Unchanged store (if t then arriving (arrival_of m) store else (Err LengthTooLarge, store))
    by_fit m true w e = by_arrival (arrival_of m) w e
    by_fit m false w e = refl

    by_reached : (x : Reached SmsDeliver) → Unchanged store (gathering x store)
    by_reached (halted why) w e = refl
    by_reached (reached m n) w e = by_fit m (fits store) w e

-- ---- taking: nothing changes but where the message is given whole, whatever slot was found

abbrev pub Left : List ℕ → List ℕ → Said MessageTaken × List ℕ × List ℕ → Type 0
Left store out r = ((dcs n : ℕ) → r.0 ≡ Ok (MessageTaken.Whole dcs n) → ⊥) → (r.1 ≡ store) × (r.2 ≡ out)

handing_unchanged : (total : ℕ) (slot out : List ℕ) → Left slot out (handing total slot out)
unfolding handing message_making lend
handing_unchanged total slot out = by_tests (eqb (length (missing_of m)) 0) (leb (length (shown_of m)) (length out))
  where
    m : Message
    m = message_in total slot

    lent : Bool → Said MessageTaken × List ℕ
    lent t = if t then (Ok (MessageTaken.Whole m.dcs (length (shown_of m))), shown_of m ++ drop (length (shown_of m)) out) else (Err OutputTooShort, out)

    by_tests : (a b : Bool) → Left slot out (if a then ((lent b).0, closed_by (lent b).0 slot, (lent b).1) else (Ok MessageTaken.NotWhole, slot, out))
    by_tests false b h = (refl, refl)
    by_tests true true h = absurd (h m.dcs (length (shown_of m)) refl)
    by_tests true false h = (refl, refl)

pub taking_unchanged : (found : Said ℕ) (total : ℕ) (store out : List ℕ) → Left store out (taking_from found total store out)
taking_unchanged (Err why) total store out h = (refl, refl)
taking_unchanged (Ok k) total store out h = by_test (eqb k 16) h
  where
    handed : Said MessageTaken × List ℕ × List ℕ
    handed = handing total (slot_at k store) out

    by_test : (t : Bool) → Left store out (if t then (Ok MessageTaken.NotOpen, store, out) else (handed.0, with_slot k handed.1 store, handed.2))
    by_test true h = (refl, refl)
    by_test false h =
        let (s, o) = handing_unchanged total (slot_at k store) out h in
        (ap (λ (x : List ℕ). with_slot k x store) s ∙ put_back k store, o)

-- ---- dropping: nothing changes but where the message is dropped

pub dropping_unchanged : (found : Said ℕ) (store : List ℕ) → ((dropping_from found store).0 ≡ Ok MessageDropped.Done → ⊥) → (dropping_from found store).1 ≡ store
dropping_unchanged (Err why) store h = refl
dropping_unchanged (Ok k) store h = by_test (eqb k 16) h
  where
    answers : Bool → Said MessageDropped × List ℕ
    answers t = if t then (Ok MessageDropped.NotOpen, store) else (Ok MessageDropped.Done, with_slot k (closed (slot_at k store)) store)

    by_test : (t : Bool) → ((answers t).0 ≡ Ok MessageDropped.Done → ⊥) → (answers t).1 ≡ store
    by_test true h = refl
    by_test false h = absurd (h refl)
