-- What the calls do to a store that only they wrote.
-- Assumes nothing.
use Prim.Native.Nat.{ℕ, zero, ◌+◌, ◌*◌, ◌≤◌, ◌<◌}
use mathlib.Core.Path.{◌≡◌, refl, sym, ap, ◌∙◌, subst}
use mathlib.Core.Bool.{Bool, true, false}
use mathlib.Core.List.{List, ◌++◌}
use mathlib.Core.Logic.{◌⊎◌, inl, inr}
use mathlib.Core.Option.{none, some}
use native.Mathlib.Omega.{arith}
use borrow.Author.Tests.{eqb-true, eqb-false, le-leb, le-ltb}
use lib.Dec.{eqb, leb}
use lib.ListN.{length, get_or, take, drop, replicate, length-append, length-replicate, length-take, get_or-replicate, get_or-append}
use lib.Seq.{get_or-take, get_or-drop}
use Rattle.octets.specs.Answers.{Said, fine}
use Rattle.std.specs.Prelude.{if◌then◌else◌, Ok, Err}
use Rattle.octets.specs.Each.{Octets}
use Rattle.octets.specs.Lent.{lend}
use Rattle.octets.specs.declared.Refusal.{Refusal}
use Rattle.octets.specs.declared.Refusal.TheVariants.{OutputTooShort}
use Rattle.octets.specs.Held.{filled}
use Rattle.octets.proofs.Checks.{never}
use Rattle.octets.proofs.Places.{given}
use Rattle.address.specs.declared.SMSAddress.{SMSAddress}
use Rattle.layout.specs.Layout.{Reached, reached, halted, read}
use Rattle.deliver.specs.Deliver.{deliver}
use Rattle.deliver.specs.declared.SmsDeliver.{SmsDeliver}
use Rattle.part_number.specs.Numbering.{numbering_in}
use Rattle.part_number.specs.declared.PartNumber.{PartNumber}
use Rattle.part_number.specs.declared.Reference.{Reference}
use Rattle.part_number.proofs.Range.{numbered_in_range, numbered_header}
use Rattle.message_store.specs.Part.{Key, Named, Arrived, key_of, arrived_as, arrival_of}
use Rattle.message_store.specs.Store.{is_open, belongs, slot_fits, closed, store_octets, slot_at, with_slot, slot_with, slot_of, Message, message_in, missing_of, shown_of, held_of}
use Rattle.reassembly.specs.declared.MessageDropped.{MessageDropped}
use Rattle.reassembly.specs.declared.MessageTaken.{MessageTaken}
use Rattle.reassembly.specs.declared.PartAccepted.{PartAccepted}
use Rattle.reassembly.specs.Calls.{emptied, arriving, gathering, accepting, message_making, closed_by, handing, finding, finding_by, taking, taking_by, dropping, dropping_by}
use Rattle.reassembly.proofs.Arrival.{Fits, read_fits}
use Rattle.message_store.proofs.First.{true_false, first_none}
use Rattle.message_store.proofs.Slots.{Room, slot_size, put_back}
use Rattle.reassembly_claims.specs.Claims.{part_read, arrival_in, Joined, Turned, taken_of, Took, Dropped}
use Rattle.reassembly_claims.proofs.Slot.{belongs_one, belongs_closed, length_closed, closed_closed, closed_fits}
use Rattle.reassembly_claims.proofs.Held.{others_stay, is_gone, Sound, sound_fits, sound_after}
use Rattle.reassembly_claims.proofs.Step.{some_none, Valid, slot_inside, slot_belongs, held_there, held_none, placing_does}

-- ---- a part that was read

take_short : (n : ℕ) (l : List ℕ) → length (take n l) ≤ n
take_short n l = let e = length-take n l in omega arith

module _ (m : SmsDeliver) (fit : Fits m) where
  abbrev says : Said PartNumber
  says = numbering_in m.tp_udhi m.tp_dcs m.tp_user_data_length (filled m.tp_user_data)

  valid_of : (a : Arrived) → arrival_of m ≡ Ok a → Valid a
  unfolding arrival_of
  valid_of a e = by_number says refl e
    where
      by_number : (x : Said PartNumber) → says ≡ x → arrived_as m.tp_originating_address m.tp_dcs m.tp_user_data_length (filled m.tp_user_data) x ≡ Ok a → Valid a
      by_number (Err why) p q = absurd (never (sym q))
      by_number (Ok n) p q =
          let (b, c, d, f) = numbered_in_range m.tp_udhi m.tp_dcs m.tp_user_data_length (filled m.tp_user_data) p in
          let header = numbered_header m.tp_udhi m.tp_dcs m.tp_user_data_length (filled m.tp_user_data) p in
          let text = take_short m.tp_originating_address.address.length m.tp_originating_address.address.octets in
          let it : Arrived = record { key = key_of m.tp_originating_address n.reference n.total; dcs = m.tp_dcs; number = n.number; part = record { udl = m.tp_user_data_length; octets = filled m.tp_user_data } } in
          let it_is : Valid it = record { named = omega (arith, text, fit.address_fits); total_high = c; number_low = d; number_high = f; own = fit.own; few = fit.few; small = (header, fit.udl_few, fit.few) } in
          subst Valid (given q) it_is

pub valid_arrival : (s : List ℕ) → Octets s → (a : Arrived) → arrival_in s ≡ Ok a → Valid a
valid_arrival s o a e = by_reached (read deliver s) refl e
  where
    by_reached : (x : Reached SmsDeliver) → read deliver s ≡ x → part_read x ≡ Ok a → Valid a
    by_reached (halted why) p q = absurd (never (sym q))
    by_reached (reached m n) p q = valid_of m (read_fits s o m n p) a q

-- ---- a part comes

-- it is refused by the reader or as no part; or it is a part, and what becomes of it
abbrev pub Comes : List ℕ → List ℕ → Said PartAccepted × List ℕ → Type 0
Comes octets store r =
    ((why : Refusal) × (arrival_in octets ≡ Err why) × (r ≡ (Err why, store)))
    ⊎ ((a : Arrived) × (arrival_in octets ≡ Ok a) × ((Joined a store r.0 r.1 × Sound r.1) ⊎ Turned a store r.0 r.1))

pub accepting_does : (octets : List ℕ) → Octets octets → (store : List ℕ) → Sound store → Comes octets store (accepting octets store)
unfolding accepting
accepting_does octets o store s = by_reached (read deliver octets) refl
  where
    by_arrival : (x : Said Arrived) → arrival_in octets ≡ x → Comes octets store (arriving x store)
    by_arrival (Err why) e = inl (why, e, refl)
    by_arrival (Ok a) e = inr (a, e, placing_does a (valid_arrival octets o a e) store s)

    by_reached : (x : Reached SmsDeliver) → read deliver octets ≡ x → Comes octets store (gathering x store)
    by_reached (halted why) e = inl (why, ap part_read e, refl)
    by_reached (reached m n) e = rw (sound_fits store s) (by_arrival (arrival_of m) (ap part_read e))

-- ---- a slot is closed

module _ (key : Key) (named : Named key) (store : List ℕ) (s : Sound store) (open-slot : slot_of key store ≡ 16 → ⊥) where
  abbrev k : ℕ
  k = slot_of key store

  abbrev later : List ℕ
  later = with_slot k (closed (slot_at k store)) store

  inside : k < 16
  inside = slot_inside key store open-slot

  size : length (slot_at k store) ≡ 2356
  size = slot_size store s.room k inside

  shut : (other : Key) → belongs other (closed (slot_at k store)) ≡ false
  shut other = belongs_closed other (closed (slot_at k store)) (closed_closed (slot_at k store) size)

  not_elsewhere : (j : ℕ) → j < 16 → (j ≡ k → ⊥) → belongs key (slot_at j store) ≡ false
  not_elsewhere j h ne = by_test (belongs key (slot_at j store)) refl
    where
      by_test : (t : Bool) → belongs key (slot_at j store) ≡ t → belongs key (slot_at j store) ≡ false
      by_test true e = absurd (ne (s.distinct key named j k h inside e (slot_belongs key store open-slot)))
      by_test false e = e

  closing_gone : held_of key later ≡ none
  closing_gone = is_gone store s.room k inside (closed (slot_at k store)) (length_closed (slot_at k store) size) key (shut key) not_elsewhere

  closing_others : (other : Key) → (other ≡ key → ⊥) → held_of other later ≡ held_of other store
  closing_others other ne = others_stay store s.room k inside (closed (slot_at k store)) (length_closed (slot_at k store) size) other was (shut other)
    where
      by_test : (t : Bool) → belongs other (slot_at k store) ≡ t → belongs other (slot_at k store) ≡ false
      by_test true e = absurd (ne (belongs_one (slot_at k store) other key e (slot_belongs key store open-slot)))
      by_test false e = e

      was : belongs other (slot_at k store) ≡ false
      was = by_test (belongs other (slot_at k store)) refl

  closing_sound : Sound later
  closing_sound = sound_after store s k inside (closed (slot_at k store)) (length_closed (slot_at k store) size) (closed_fits (slot_at k store) size) (λ o. true_false o (closed_closed (slot_at k store) size)) (λ o. true_false o (closed_closed (slot_at k store) size)) (λ other n b j h ne. true_false b (shut other))

-- ---- a message is dropped

pub dropping_does : (key : Key) → Named key → (store : List ℕ) → Sound store → Dropped key store (dropping key store).0 (dropping key store).1 × Sound (dropping key store).1
unfolding dropping finding
dropping_does key named store s = rw (sound_fits store s) (by_slot (eqb (slot_of key store) 16) refl)
  where
    answers : Bool → Said MessageDropped × List ℕ
    answers t = if t then (Ok MessageDropped.NotOpen, store) else (Ok MessageDropped.Done, with_slot (slot_of key store) (closed (slot_at (slot_of key store) store)) store)

    by_slot : (t : Bool) → eqb (slot_of key store) 16 ≡ t → Dropped key store (answers t).0 (answers t).1 × Sound (answers t).1
    by_slot true e =
        let n = held_none key store (eqb-true (slot_of key store) 16 e) in
        (record { says = rw n; its_message = n; others = λ other h ne. refl; unchanged = λ h. refl }, s)
    by_slot false e =
        let ne = eqb-false (slot_of key store) 16 e in
        let h = held_there key store ne in
        (record { says = rw h; its_message = closing_gone key named store s ne; others = λ other n d. closing_others key named store s ne other d; unchanged = λ z. some_none (sym h ∙ z) }, closing_sound key named store s ne)

-- ---- a message is taken

module _ (key : Key) (named : Named key) (store : List ℕ) (s : Sound store) (out : List ℕ) where
  abbrev TakesAs : Said MessageTaken × List ℕ × List ℕ → Type 0
  TakesAs r = Took key store out r.0 r.1 r.2 × Sound r.1

  abbrev its : ℕ
  its = slot_of key store

  abbrev m : Message
  m = message_in key.total (slot_at its store)

  abbrev put : Said MessageTaken × List ℕ × List ℕ → Said MessageTaken × List ℕ × List ℕ
  put r = (r.0, with_slot its r.1 store, r.2)

  -- one that is open
  handing_does : (its ≡ 16 → ⊥) → TakesAs (put (handing key.total (slot_at its store) out))
  unfolding handing message_making taken_of lend
  handing_does ne = by_missing (eqb (length (missing_of m)) 0) refl (leb (length (shown_of m)) (length out)) refl
    where
      held : held_of key store ≡ some m
      held = held_there key store ne

      lent : Bool → Said MessageTaken × List ℕ
      lent t = if t then (Ok (MessageTaken.Whole m.dcs (length (shown_of m))), shown_of m ++ drop (length (shown_of m)) out) else (Err OutputTooShort, out)

      answers : Bool → Bool → Said MessageTaken × List ℕ × List ℕ
      answers w t = if w then ((lent t).0, closed_by (lent t).0 (slot_at its store), (lent t).1) else (Ok MessageTaken.NotWhole, slot_at its store, out)

      by_missing : (w : Bool) → eqb (length (missing_of m)) 0 ≡ w → (t : Bool) → leb (length (shown_of m)) (length out) ≡ t → TakesAs (put (answers w t))
      by_missing false e t p = rw (put_back its store) (record { answers = rw (held, e); its_message = refl; others = λ other n d. refl; unchanged = λ h. (refl, refl) }, s)
      by_missing true e true p = (
        record { answers = rw (held, e, p); its_message = closing_gone key named store s ne; others = λ other n d. closing_others key named store s ne other d; unchanged = λ h. absurd (h m.dcs (length (shown_of m)) refl) },
        closing_sound key named store s ne,
      )
      by_missing true e false p = rw (put_back its store) (record { answers = rw (held, e, p); its_message = refl; others = λ other n d. refl; unchanged = λ h. (refl, refl) }, s)

  pub taking_does : TakesAs (taking key store out)
  unfolding taking finding taken_of
  taking_does = rw (sound_fits store s) (by_slot (eqb its 16) refl)
    where
      by_slot : (t : Bool) → eqb its 16 ≡ t → TakesAs (if t then (Ok MessageTaken.NotOpen, store, out) else put (handing key.total (slot_at its store) out))
      by_slot true e = let n = held_none key store (eqb-true its 16 e) in (record { answers = rw n; its_message = refl; others = λ other h d. refl; unchanged = λ h. (refl, refl) }, s)
      by_slot false e = handing_does (eqb-false its 16 e)

-- ---- the calls name a message by address, reference and total: its key can be named, and they do what is said by the key

module _ (a : SMSAddress) (r : Reference) (t : ℕ) (short : a.address.length ≤ 290) (store : List ℕ) where
  pub key_named : Named (key_of a r t)
  key_named = omega (arith, take_short a.address.length a.address.octets)

  pub takes_by_key : (out : List ℕ) → taking_by a r t store out ≡ taking (key_of a r t) store out
  unfolding taking_by finding_by taking
  takes_by_key out = rw (le-ltb 290 a.address.length short)

  pub drops_by_key : dropping_by a r t store ≡ dropping (key_of a r t) store
  unfolding dropping_by finding_by dropping
  drops_by_key = rw (le-ltb 290 a.address.length short)

-- ---- a store that begins empty

closed_slot_fits : (slot : List ℕ) → is_open slot ≡ false → slot_fits slot ≡ true
unfolding slot_fits
closed_slot_fits slot e = rw e

module _ (lent : List ℕ) (room : store_octets ≤ length lent) where
  zeros : List ℕ
  zeros = replicate store_octets 0

  length_zeros : length zeros ≡ store_octets
  unfolding zeros
  length_zeros = length-replicate store_octets (zero)

  begun : List ℕ
  begun = zeros ++ drop store_octets lent

  emptied_is : emptied lent ≡ (fine, begun)
  unfolding emptied begun zeros
  emptied_is = rw (le-leb store_octets (length lent) room)

  begun_room : Room begun
  unfolding begun
  begun_room = rw (length-append zeros (drop store_octets lent), length_zeros) (omega arith)

  begun_closed : (j : ℕ) → j < 16 → is_open (slot_at j begun) ≡ false
  unfolding begun zeros
  begun_closed j h =
      let e : get_or (slot_at j begun) 0 0 ≡ 0 =
      get_or-take 2356 (drop (j * 2356) begun) 0 0 (omega arith) ∙ get_or-drop (j * 2356) begun 0 0 ∙ get_or-append zeros (drop store_octets lent) 0 (j * 2356 + 0) (rw length_zeros (omega arith))
      ∙ get_or-replicate store_octets (j * 2356 + 0) 0 0 (omega arith) in
      rw e

  pub begun_none : (key : Key) → held_of key (emptied lent).1 ≡ none
  unfolding slot_with
  begun_none key =
      let nowhere : slot_of key begun ≡ 16 = first_none (λ j. belongs key (slot_at j begun)) 16 0 (λ j a b. belongs_closed key (slot_at j begun) (begun_closed j (omega arith))) in
      rw emptied_is (held_none key begun nowhere)

  pub begun_sound : Sound (emptied lent).1
  begun_sound = rw emptied_is (record {
    room = begun_room;
    fit = λ j h. closed_slot_fits (slot_at j begun) (begun_closed j h);
    distinct = λ key n i j a b p q. true_false p (belongs_closed key (slot_at i begun) (begun_closed i a));
    owned = λ j h o. true_false o (begun_closed j h);
    small = λ j h o. true_false o (begun_closed j h);
  })
