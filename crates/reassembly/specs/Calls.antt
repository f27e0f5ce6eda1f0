-- What the four calls answer, and every octet of the store and of a lent output afterwards.
use Rattle.std.specs.Prelude.{ℕ, not, List, [], ◌∷◌, ◌++◌, length, drop, replicate, eqb, leb, ltb, if◌then◌else◌, Ok, Err}
use Rattle.octets.specs.Answers.{Said, fine}
use Rattle.octets.specs.Held.{holding}
use Rattle.octets.specs.Lent.{Making, made, lend}
use Rattle.octets.specs.declared.Refusal.TheVariants.{LengthTooLarge, StoreFull, NotAPart}
use Rattle.address.specs.declared.SMSAddress.{SMSAddress}
use Rattle.layout.specs.Layout.{Reached, reached, halted, read}
use Rattle.deliver.specs.Deliver.{deliver}
use Rattle.deliver.specs.declared.SmsDeliver.{SmsDeliver}
use Rattle.part_number.specs.Numbering.{numbered, unnumbered}
use Rattle.part_number.specs.declared.PartNumber.{PartNumber}
use Rattle.part_number.specs.declared.Reference.{Reference}
use Rattle.reassembly.specs.declared.MessageDropped.{MessageDropped}
use Rattle.reassembly.specs.declared.MessageTaken.{MessageTaken}
use Rattle.reassembly.specs.declared.PartAccepted.{PartAccepted}
use Rattle.message_store.specs.Part.{Key, Part, Arrived, key_of, arrival_of}
use Rattle.message_store.specs.Store.{begins, is_held, coding_in, block, key_octets, opened_with, with_part, closed, store_octets, slot_at, with_slot, slot_with, slot_of, free_slot, fits, Message, message_in, missing_of, shown_of}

-- ---- a store begins empty

unfoldable pub emptied : List ℕ → Said Unit × List ℕ
emptied store = if leb store_octets (length store) then (fine, replicate store_octets 0 ++ drop store_octets store) else (Err LengthTooLarge, store)

-- ---- a part comes

-- accepted: the numbers of its message, as it then is, that are missing
unfoldable pub told : PartNumber → Message → Said PartAccepted
told n m = Ok (record { part = n; missing = holding 8 (missing_of m) })

-- the blank answer, beside a refusal: no part, and no number missing
unfoldable pub blank : PartAccepted
blank = record { part = unnumbered; missing = holding 8 [] }

-- an answer, and the store with slot k as it then is (where the slot is as it was, so is the store: the law `put_back`)
abbrev pub in_slot : {A : Type 0} → ℕ → A × List ℕ → List ℕ → A × List ℕ
in_slot k r store = (r.0, with_slot k r.1 store)

-- the part stored in a slot: the answer, and the slot
abbrev pub storing : PartNumber → Part → List ℕ → Said PartAccepted × List ℕ
storing n p slot = let now = with_part n.number p slot in (told n (message_in n.total now), now)

-- its message is open in the slot: 28 for another coding scheme, or other UDL or data; the same UDL and data change nothing
unfoldable pub joining : PartNumber → ℕ → Part → List ℕ → Said PartAccepted × List ℕ
joining n dcs p slot =
    let same = begins (p.udl ∷ p.octets) (block n.number slot) in
    if not (eqb (coding_in slot) dcs) then (Err NotAPart, slot)
    else if not (is_held n.number slot) then storing n p slot
    else if same then (told n (message_in n.total slot), slot)
    else (Err NotAPart, slot)

-- an open message is joined; a new one is opened in a free slot: 27 where there is none
unfoldable pub placing_as : List ℕ → PartNumber → ℕ → Part → List ℕ → Said PartAccepted × List ℕ
placing_as key n dcs p store =
    let k = slot_with key store in
    let free = free_slot store in
    if not (eqb k 16) then in_slot k (joining n dcs p (slot_at k store)) store
    else if not (eqb free 16) then in_slot free (storing n p (opened_with key dcs (slot_at free store))) store
    else (Err StoreFull, store)

abbrev pub placing : Arrived → List ℕ → Said PartAccepted × List ℕ
placing a store = placing_as (key_octets a.key) (numbered a.key.reference a.key.total a.number) a.dcs a.part store

abbrev pub arriving : Said Arrived → List ℕ → Said PartAccepted × List ℕ
arriving (Ok a) store = placing a store
arriving (Err why) store = (Err why, store)

-- the reader's refusals, then 1, then the part's
abbrev pub gathering : Reached SmsDeliver → List ℕ → Said PartAccepted × List ℕ
gathering (halted why) store = (Err why, store)
gathering (reached m n) store = if fits store then arriving (arrival_of m) store else (Err LengthTooLarge, store)

unfoldable pub accepting : List ℕ → List ℕ → Said PartAccepted × List ℕ
accepting octets store = gathering (read deliver octets) store

-- ---- a message is taken

-- a whole message: coding scheme, and what is shown of it
unfoldable pub message_making : Message → Making MessageTaken
message_making m = let shown = shown_of m in made shown (MessageTaken.Whole m.dcs (length shown))

-- a slot is closed where its message was given whole
abbrev pub closed_by : Said MessageTaken → List ℕ → List ℕ
closed_by (Ok (MessageTaken.Whole dcs n)) slot = closed slot
closed_by (Ok MessageTaken.NotOpen) slot = slot
closed_by (Ok MessageTaken.NotWhole) slot = slot
closed_by (Err why) slot = slot

-- the message of a slot: not whole; else lent to the output (23 where it doesn't fit), and the slot is closed
unfoldable pub handing : ℕ → List ℕ → List ℕ → Said MessageTaken × List ℕ × List ℕ
handing total slot out =
    let m = message_in total slot in
    let lent = lend (message_making m) out in
    if eqb (length (missing_of m)) 0 then (lent.0, closed_by lent.0 slot, lent.1) else (Ok MessageTaken.NotWhole, slot, out)

-- the slot of a message, 16 where it is not open; 1 where a length field in the store passes its array or the store is too short
unfoldable pub finding : Key → List ℕ → Said ℕ
finding key store = if fits store then Ok (slot_of key store) else Err LengthTooLarge

abbrev pub taking_from : Said ℕ → ℕ → List ℕ → List ℕ → Said MessageTaken × List ℕ × List ℕ
taking_from (Ok k) total store out =
    let handed = handing total (slot_at k store) out in
    if eqb k 16 then (Ok MessageTaken.NotOpen, store, out) else (handed.0, with_slot k handed.1 store, handed.2)
taking_from (Err why) total store out = (Err why, store, out)

unfoldable pub taking : Key → List ℕ → List ℕ → Said MessageTaken × List ℕ × List ℕ
taking key store out = taking_from (finding key store) key.total store out

-- by address, reference with its width, and total: 1 also where the address's length passes its array
unfoldable pub finding_by : SMSAddress → Reference → ℕ → List ℕ → Said ℕ
finding_by a reference total store = if ltb 290 a.address.length then Err LengthTooLarge else finding (key_of a reference total) store

unfoldable pub taking_by : SMSAddress → Reference → ℕ → List ℕ → List ℕ → Said MessageTaken × List ℕ × List ℕ
taking_by a reference total store out = taking_from (finding_by a reference total store) total store out

-- ---- a message is dropped

abbrev pub dropping_from : Said ℕ → List ℕ → Said MessageDropped × List ℕ
dropping_from (Ok k) store = if eqb k 16 then (Ok MessageDropped.NotOpen, store) else (Ok MessageDropped.Done, with_slot k (closed (slot_at k store)) store)
dropping_from (Err why) store = (Err why, store)

unfoldable pub dropping : Key → List ℕ → Said MessageDropped × List ℕ
dropping key store = dropping_from (finding key store) store

unfoldable pub dropping_by : SMSAddress → Reference → ℕ → List ℕ → Said MessageDropped × List ℕ
dropping_by a reference total store = dropping_from (finding_by a reference total store) store
