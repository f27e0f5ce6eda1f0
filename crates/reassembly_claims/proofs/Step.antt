-- What becomes of a part that comes.
-- Assumes nothing.
use Rattle.octets.specs.Answers.{Said}
use Prim.Native.Nat.{ℕ, zero, suc, ◌+◌, ◌-◌, ◌≤◌, ◌<◌}
use mathlib.Core.Path.{◌≡◌, refl, sym, ap, ◌∙◌, subst}
use mathlib.Core.Bool.{Bool, true, false, not}
use mathlib.Core.List.{List, [], ◌∷◌}
use mathlib.Core.Logic.{◌⊎◌, inl, inr}
use mathlib.Core.Option.{Option, none, some}
use native.Mathlib.Omega.{arith}
use borrow.Author.Tests.{eqb-true, eqb-false, eq-eqb, ne_eqb, ltb-true, ltb-false, not-true, not-false}
use lib.Dec.{eqb, ltb}
use lib.ListN.{length, get_or, set, drop, replicate, length-drop}
use lib.Seq.{length-take-le, set-get_or}
use Rattle.std.specs.Prelude.{if◌then◌else◌, Err}
use Rattle.octets.specs.declared.Refusal.TheVariants.{StoreFull, NotAPart}
use Rattle.coding.specs.Coding.{coding_of, data_octets}
use Rattle.part_number.specs.declared.Reference.TheVariants.{Eight}
use Rattle.message_store.specs.Part.{Key, Named, Part, Arrived}
use Rattle.message_store.specs.Store.{begins, is_open, is_held, coding_in, part_at, block, belongs, holding, opened_for, with_part, slot_at, with_slot, slot_with, slot_of, free_slot, Message, message_in, held_of}
use Rattle.part_number.specs.Numbering.{numbered}
use Rattle.part_number.specs.declared.PartNumber.{PartNumber}
use Rattle.reassembly.specs.declared.PartAccepted.{PartAccepted}
use Rattle.reassembly.specs.Calls.{in_slot, told, storing, joining, placing_as, placing}
use Rattle.message_store.proofs.First.{true_false, first_bounds, first_passes, first_before}
use Rattle.message_store.proofs.Slots.{slot_size, put_back}
use Rattle.reassembly_claims.specs.Claims.{held_with, adding, GoesWith, Joined, SixteenOpen, Turned}
use Rattle.reassembly_claims.proofs.Slot.{belongs_one, belongs_closed, length_with, same_belongs, same_coding, still_open, with_fits, holds_it, holds_others, holding_at, holdings_with, length_opened, opened_belongs, opened_other, opened_coding, opened_holds, holdings_opened, opened_fits, same_held, held_same, held_not_none}
use Rattle.reassembly_claims.proofs.Held.{others_stay, is_there, SmallPart, Small, Sound, sound_after}
use Rattle.reassembly_claims.proofs.Pigeonhole.{Shared, pigeonhole}

pub some_none : {A B : Type 0} {a : A} → ◌≡◌ {A = Option A} (some a) none → B
some_none e = let z : ◌≡◌ {A = ℕ} 0 1 = cc in absurd (omega arith)

pub none_at : (n i : ℕ) → get_or (replicate {A = Option Part} n none) i none ≡ none
none_at zero i = refl
none_at (suc n) zero = refl
none_at (suc n) (suc i) = none_at n i

-- what a part that was read is like
pub record Valid (a : Arrived) : Type 0 where
  pub named : Named a.key
  pub total_high : a.key.total ≤ 8
  pub number_low : 1 ≤ a.number
  pub number_high : a.number ≤ a.key.total
  pub own : length a.part.octets ≡ data_octets (coding_of a.dcs) a.part.udl
  pub few : length a.part.octets ≤ 255
  pub small : SmallPart a.part

-- the slot of an open message
module _ (key : Key) (store : List ℕ) where
  test : ℕ → Bool
  test k = belongs key (slot_at k store)

  pub slot_inside : (slot_of key store ≡ 16 → ⊥) → slot_of key store < 16
  unfolding slot_with
  slot_inside ne = let b = first_bounds (λ k. belongs key (slot_at k store)) 16 0 in omega (arith, b.1)

  pub slot_belongs : (slot_of key store ≡ 16 → ⊥) → belongs key (slot_at (slot_of key store) store) ≡ true
  unfolding slot_with
  slot_belongs ne = let b = first_bounds (λ k. belongs key (slot_at k store)) 16 0 in first_passes (λ k. belongs key (slot_at k store)) 16 0 (omega (arith, b.1))

  pub none_before : (j : ℕ) → j < slot_of key store → belongs key (slot_at j store) ≡ false
  unfolding slot_with
  none_before j h = first_before (λ k. belongs key (slot_at k store)) 16 0 j (omega arith) h

  pub held_there : (slot_of key store ≡ 16 → ⊥) → held_of key store ≡ some (message_in key.total (slot_at (slot_of key store) store))
  unfolding held_of
  held_there ne = rw (ne_eqb (slot_of key store) 16 ne)

  pub held_none : slot_of key store ≡ 16 → held_of key store ≡ none
  unfolding held_of
  held_none e = rw (eq-eqb (slot_of key store) 16 e)

-- a free slot
module _ (store : List ℕ) where
  free_inside : (free_slot store ≡ 16 → ⊥) → free_slot store < 16
  unfolding free_slot
  free_inside ne = let b = first_bounds (λ k. not (is_open (slot_at k store))) 16 0 in omega (arith, b.1)

  free_closed : (free_slot store ≡ 16 → ⊥) → is_open (slot_at (free_slot store) store) ≡ false
  unfolding free_slot
  free_closed ne = let b = first_bounds (λ k. not (is_open (slot_at k store))) 16 0 in not-true _ (first_passes (λ k. not (is_open (slot_at k store))) 16 0 (omega (arith, b.1)))

  all_open : free_slot store ≡ 16 → (k : ℕ) → k < 16 → is_open (slot_at k store) ≡ true
  unfolding free_slot
  all_open e k h = not-false _ (first_before (λ k. not (is_open (slot_at k store))) 16 0 k (omega arith) (rw e h))

  -- what is held is in a slot
  pub held_slot : (key : Key) → (held_of key store ≡ none → ⊥) → slot_of key store ≡ 16 → ⊥
  held_slot key ne e = ne (held_none key store e)

-- all slots are open: 16 messages are
module _ (store : List ℕ) (s : Sound store) (all : (k : ℕ) → k < 16 → is_open (slot_at k store) ≡ true) where
  nobody : Key
  nobody = record { ton = 0; npi = 0; text = []; reference = Eight 0; total = 0 }

  owner_if : (k : ℕ) (t : Bool) → ltb k 16 ≡ t → Key
  owner_if k true e = (s.owned k (ltb-true k 16 e) (all k (ltb-true k 16 e))).0
  owner_if k false e = nobody

  owner : ℕ → Key
  owner k = owner_if k (ltb k 16) refl

  owner_there : (k : ℕ) → k < 16 → Named (owner k) × (belongs (owner k) (slot_at k store) ≡ true)
  unfolding owner owner_if
  owner_there k h = by_test (ltb k 16) refl
    where
      by_test : (t : Bool) (e : ltb k 16 ≡ t) → Named (owner_if k t e) × (belongs (owner_if k t e) (slot_at k store) ≡ true)
      by_test true e = let o = s.owned k (ltb-true k 16 e) (all k (ltb-true k 16 e)) in (o.1, o.2)
      by_test false e = let l = ltb-false k 16 e in absurd (omega arith)

  sixteen_open : SixteenOpen store
  sixteen_open = record {
    message = owner;
    different = λ i j h l e. s.distinct (owner i) (owner_there i h).0 i j h l (owner_there i h).1 (subst (λ (k : Key). belongs k (slot_at j store) ≡ true) (sym e) (owner_there j l).1);
    opened = λ k h e. not_gone k h e (eqb (slot_of (owner k) store) 16) refl;
  }
    where
      not_gone : (k : ℕ) (h : k < 16) → held_of (owner k) store ≡ none → (t : Bool) → eqb (slot_of (owner k) store) 16 ≡ t → ⊥
      not_gone k h e true q = let is = eqb-true (slot_of (owner k) store) 16 q in true_false (owner_there k h).1 (none_before (owner k) store k (rw is h))
      not_gone k h e false q = some_none (sym (held_there (owner k) store (eqb-false _ _ q)) ∙ e)

-- a slot is free: 16 messages are not open, since each would be in another of the other slots
module _ (store : List ℕ) (k : ℕ) (inside : k < 16) (free : is_open (slot_at k store) ≡ false) (all : SixteenOpen store) where
  place_if : (i : ℕ) → Bool → ℕ
  place_if i t = if t then slot_of (all.message i) store else k

  -- of the 16 messages, and the free slot
  place : ℕ → ℕ
  place i = place_if i (ltb i 16)

  place_is : (i : ℕ) (t : Bool) → ltb i 16 ≡ t → place i ≡ place_if i t
  unfolding place
  place_is i t e = ap (place_if i) e

  in_slot_lem : (i : ℕ) → i < 16 → slot_of (all.message i) store ≡ 16 → ⊥
  in_slot_lem i h = held_slot store (all.message i) (all.opened i h)

  place_inside : (i : ℕ) → i ≤ 16 → place i < 16
  unfolding place_if
  place_inside i h = by_test (ltb i 16) refl
    where
      by_test : (t : Bool) → ltb i 16 ≡ t → place i < 16
      by_test true e = rw (place_is i true e) (slot_inside (all.message i) store (in_slot_lem i (ltb-true i 16 e)))
      by_test false e = rw (place_is i false e) inside

  not_free : (i : ℕ) → i < 16 → slot_of (all.message i) store ≡ k → ⊥
  not_free i h e = true_false (rw e at (slot_belongs (all.message i) store (in_slot_lem i h))) (belongs_closed (all.message i) (slot_at k store) free)

  not_sixteen : ⊥
  unfolding place_if
  not_sixteen = by_shared (pigeonhole 16 place place_inside)
    where
      by_shared : Shared place 16 → ⊥
      by_shared (i, j, l, m, e) = by_test (ltb i 16) refl (ltb j 16) refl
        where
          by_test : (t : Bool) → ltb i 16 ≡ t → (u : Bool) → ltb j 16 ≡ u → ⊥
          by_test true p true q =
              let a = ltb-true i 16 p in
              let b = ltb-true j 16 q in
              let same : slot_of (all.message i) store ≡ slot_of (all.message j) store = sym (place_is i true p) ∙ e ∙ place_is j true q in
              let one = belongs_one (slot_at (slot_of (all.message j) store) store) (all.message i) (all.message j) (rw same at (slot_belongs (all.message i) store (in_slot_lem i a))) (slot_belongs (all.message j) store (in_slot_lem j b)) in
              let n = all.different i j a b one in
              omega arith
          by_test true p false q = not_free i (ltb-true i 16 p) (sym (place_is i true p) ∙ e ∙ place_is j false q)
          by_test false p u q = let n = ltb-false i 16 p in omega arith

module _ (a : Arrived) (v : Valid a) (store : List ℕ) (s : Sound store) where
  abbrev key : Key
  key = a.key

  abbrev numbers : PartNumber
  numbers = numbered key.reference key.total a.number

  abbrev tell : Message → Said PartAccepted
  tell = told numbers

  abbrev Becomes : Said PartAccepted × List ℕ → Type 0
  Becomes r = (Joined a store r.0 r.1 × Sound r.1) ⊎ Turned a store r.0 r.1

  -- ---- the message is open in slot k
  module _ (k : ℕ) (inside : k < 16) (its : belongs key (slot_at k store) ≡ true) (before : (j : ℕ) → j < k → belongs key (slot_at j store) ≡ false) (held : held_of key store ≡ some (message_in key.total (slot_at k store))) where
    abbrev slot : List ℕ
    slot = slot_at k store

    size : length slot ≡ 2356
    size = slot_size store s.room k inside

    abbrev m : Message
    m = message_in key.total slot

    at_number : get_or m.parts (a.number - 1) none ≡ holding a.number slot
    unfolding message_in
    at_number = let n : 1 + (a.number - 1) ≡ a.number = omega (arith, v.number_low) in holding_at 1 key.total slot (a.number - 1) (omega (arith, v.number_low, v.number_high)) ∙ ap (λ (n : ℕ). holding n slot) n

    -- another coding scheme
    other_coding : (coding_in slot ≡ a.dcs → ⊥) → Turned a store (Err NotAPart) store
    unfolding message_in
    other_coding ne = record { same = refl; why = inl (refl, λ g. ne (subst (GoesWith a) held g).0) }

    module _ (coding : coding_in slot ≡ a.dcs) where
      own : length a.part.octets ≡ data_octets (coding_of (coding_in slot)) a.part.udl
      own = rw coding v.own

      -- a number that is missing
      module _ (missing : is_held a.number slot ≡ false) where
        abbrev now : List ℕ
        now = with_part a.number a.part slot

        eight : a.number ≤ 8
        eight = omega (arith, v.number_high, v.total_high)

        not_held : holding a.number slot ≡ none
        unfolding holding
        not_held = rw missing

        message_now : message_in key.total now ≡ adding a (held_of key store)
        unfolding message_in adding
        message_now = rw held (λ i. record {
          dcs = (same_coding slot size a.number v.number_low eight a.part v.few ∙ coding) i;
          parts = holdings_with slot size a.number v.number_low key.total v.number_high v.total_high a.part v.few own i;
        })

        others_not : (other : Key) → (other ≡ key → ⊥) → belongs other slot ≡ false
        others_not other ne = by_test (belongs other slot) refl
          where
            by_test : (t : Bool) → belongs other slot ≡ t → belongs other slot ≡ false
            by_test true e = absurd (ne (belongs_one slot other key e its))
            by_test false e = e

        joins : Joined a store (tell (message_in key.total now)) (with_slot k now store) × Sound (with_slot k now store)
        unfolding message_in
        joins =
            let long : length now ≡ 2356 = length_with slot size a.number v.number_low eight a.part v.few in
            let alike : (other : Key) → Named other → belongs other now ≡ belongs other slot = same_belongs slot size a.number v.number_low eight a.part v.few in (
              record {
                goes = subst (GoesWith a) (sym held) (coding, inl (at_number ∙ not_held));
                not_full = λ e z. some_none (sym held ∙ e);
                copy = λ e. some_none (sym (subst (λ (h : Option Message). held_with a h ≡ some a.part) held e) ∙ at_number ∙ not_held);
                its_message = is_there store s.room k inside now long key (alike key v.named ∙ its) before ∙ ap some message_now;
                others = λ other n ne. others_stay store s.room k inside now long other (others_not other ne) (alike other n ∙ others_not other ne);
                tells = ap tell message_now;
              },
              sound_after store s k inside now long (with_fits slot size a.number v.number_low eight a.part v.few ∙ s.fit k inside)
                  (λ o. (key, v.named, alike key v.named ∙ its))
                  (λ o n l h p e. small_with a.number n p l h e (s.small k inside (was_open o) n l h p))
                  (λ other n b j h ne. alone other n (sym (alike other n) ∙ b) j h ne),
            )
          where
            -- the slot was open, and its other parts are as they were
            was_open : is_open now ≡ true → is_open slot ≡ true
            was_open o = sym (still_open slot size a.number v.number_low eight a.part v.few) ∙ o

            small_with : (m n : ℕ) (p : Part) → 1 ≤ n → n ≤ 8 → holding n now ≡ some p → (holding n slot ≡ some p → SmallPart p) → SmallPart p
            small_with m n p l h e was = by_number (eqb n a.number) refl
              where
                by_number : (t : Bool) → eqb n a.number ≡ t → SmallPart p
                by_number true q =
                    let is = eqb-true n a.number q in
                    let it : some a.part ≡ some p = sym (holds_it slot size a.number v.number_low eight a.part v.few own) ∙ rw is at e in
                    let part_is : a.part ≡ p = cc in
                    rw part_is at v.small
                by_number false q = was (sym (holds_others slot size a.number v.number_low eight a.part v.few n l h (eqb-false n a.number q)) ∙ e)

            alone : (other : Key) → Named other → belongs other slot ≡ true → (j : ℕ) → j < 16 → (j ≡ k → ⊥) → belongs other (slot_at j store) ≡ false
            alone other n b j h ne = by_test (belongs other (slot_at j store)) refl
              where
                by_test : (t : Bool) → belongs other (slot_at j store) ≡ t → belongs other (slot_at j store) ≡ false
                by_test true e = absurd (ne (s.distinct other n j k h inside e b))
                by_test false e = e

      -- a number that is held
      module _ (is-held : is_held a.number slot ≡ true) where
        block_size : 0 < length (block a.number slot)
        block_size = let e : length (block a.number slot) ≡ 256 = length-take-le 256 (drop (part_at a.number) slot) (rw (length-drop (part_at a.number) slot, size) (omega (arith, v.number_high, v.total_high))) in omega arith

        -- the same part: nothing changes
        same_again : begins (a.part.udl ∷ a.part.octets) (block a.number slot) ≡ true → Joined a store (tell m) store × Sound store
        unfolding message_in adding
        same_again e =
            let there : get_or m.parts (a.number - 1) none ≡ some a.part = at_number ∙ same_held slot a.number a.part is-held own e in
            let as_was : adding a (held_of key store) ≡ m = rw held (λ i. record { dcs = sym coding i; parts = (ap (set m.parts (a.number - 1)) (sym there) ∙ set-get_or m.parts (a.number - 1) none) i }) in
            (record { goes = subst (GoesWith a) (sym held) (coding, inr there); not_full = λ z w. some_none (sym held ∙ z); copy = λ z. refl; its_message = held ∙ ap some (sym as_was); others = λ other n ne. refl; tells = ap tell (sym as_was) }, s)

        -- another part
        not_same : begins (a.part.udl ∷ a.part.octets) (block a.number slot) ≡ false → Turned a store (Err NotAPart) store
        unfolding message_in
        not_same e = record { same = refl; why = inl (refl, λ g. against (subst (GoesWith a) held g)) }
          where
            against : GoesWith a (some m) → ⊥
            against (c, inl n) = held_not_none a.number slot is-held (sym at_number ∙ n)
            against (c, inr p) = true_false (held_same slot a.number a.part is-held own block_size (sym at_number ∙ p)) e

    -- what joining comes to
    joining_does : Becomes (in_slot k (joining numbers a.dcs a.part slot) store)
    unfolding joining
    joining_does = by_coding (eqb (coding_in slot) a.dcs) refl (is_held a.number slot) refl (begins (a.part.udl ∷ a.part.octets) (block a.number slot)) refl
      where
        back : with_slot k slot store ≡ store
        back = put_back k store

        answers : Bool → Bool → Bool → Said PartAccepted × List ℕ
        answers c h b =
            if not c then (Err NotAPart, slot)
            else if not h then storing numbers a.part slot
            else if b then (tell (message_in key.total slot), slot)
            else (Err NotAPart, slot)

        by_coding : (c : Bool) → eqb (coding_in slot) a.dcs ≡ c → (h : Bool) → is_held a.number slot ≡ h
            → (b : Bool) → begins (a.part.udl ∷ a.part.octets) (block a.number slot) ≡ b → Becomes (in_slot k (answers c h b) store)
        by_coding false p h q b r = rw back (inr (other_coding (eqb-false _ _ p)))
        by_coding true p false q b r = inl (joins (eqb-true _ _ p) q)
        by_coding true p true q true r = rw back (inl (same_again (eqb-true _ _ p) q r))
        by_coding true p true q false r = rw back (inr (not_same (eqb-true _ _ p) q r))

  -- ---- the message is new: a free slot is opened
  module _ (new : slot_of key store ≡ 16) where
    nowhere : (j : ℕ) → j < 16 → belongs key (slot_at j store) ≡ false
    nowhere j h = none_before key store j (rw new h)

    module _ (k : ℕ) (inside : k < 16) (free : is_open (slot_at k store) ≡ false) where
      abbrev was : List ℕ
      was = slot_at k store

      was_size : length was ≡ 2356
      was_size = slot_size store s.room k inside

      abbrev fresh : List ℕ
      fresh = opened_for key a.dcs was

      fresh_size : length fresh ≡ 2356
      fresh_size = length_opened key v.named a.dcs was was_size

      abbrev then_now : List ℕ
      then_now = with_part a.number a.part fresh

      number_eight : a.number ≤ 8
      number_eight = omega (arith, v.number_high, v.total_high)

      -- it holds that part only
      first_small : Small then_now
      first_small n l h p e = by_number (eqb n a.number) refl
        where
          fresh_own : length a.part.octets ≡ data_octets (coding_of (coding_in fresh)) a.part.udl
          fresh_own = rw (opened_coding key v.named a.dcs was was_size) v.own

          by_number : (t : Bool) → eqb n a.number ≡ t → SmallPart p
          by_number true q =
              let is = eqb-true n a.number q in
              let it : some a.part ≡ some p = sym (holds_it fresh fresh_size a.number v.number_low number_eight a.part v.few fresh_own) ∙ rw is at e in
              let part_is : a.part ≡ p = cc in
              rw part_is at v.small
          by_number false q =
              some_none (sym e ∙ holds_others fresh fresh_size a.number v.number_low number_eight a.part v.few n l h (eqb-false n a.number q) ∙ opened_holds key v.named a.dcs was was_size n l h)

      opens : Joined a store (tell (message_in key.total then_now)) (with_slot k then_now store) × Sound (with_slot k then_now store)
      unfolding message_in adding
      opens =
          let fresh_coding : coding_in fresh ≡ a.dcs = opened_coding key v.named a.dcs was was_size in
          let long : length then_now ≡ 2356 = length_with fresh fresh_size a.number v.number_low number_eight a.part v.few in
          let alike : (other : Key) → Named other → belongs other then_now ≡ belongs other fresh = same_belongs fresh fresh_size a.number v.number_low number_eight a.part v.few in
          let held : held_of key store ≡ none = held_none key store new in
          let message_now : message_in key.total then_now ≡ adding a (held_of key store) = rw held (λ i. record {
            dcs = (same_coding fresh fresh_size a.number v.number_low number_eight a.part v.few ∙ fresh_coding) i;
            parts = (holdings_with fresh fresh_size a.number v.number_low key.total v.number_high v.total_high a.part v.few (rw fresh_coding v.own)
                ∙ ap (λ (ps : List (Option Part)). set ps (a.number - 1) (some a.part)) (holdings_opened key v.named a.dcs was was_size key.total v.total_high)) i;
          }) in (
            record {
              goes = subst (GoesWith a) (sym held) (tt, inl (none_at key.total (a.number - 1)));
              not_full = λ z all. not_sixteen store k inside free all;
              copy = λ e. some_none (sym (subst (λ (h : Option Message). held_with a h ≡ some a.part) held e) ∙ none_at key.total (a.number - 1));
              its_message = is_there store s.room k inside then_now long key (alike key v.named ∙ opened_belongs key v.named a.dcs was was_size) (λ j h. nowhere j (omega arith)) ∙ ap some message_now;
              others = λ other n ne. others_stay store s.room k inside then_now long other (belongs_closed other was free) (alike other n ∙ opened_other key v.named a.dcs was was_size other ne);
              tells = ap tell message_now;
            },
            sound_after store s k inside then_now long
                (with_fits fresh fresh_size a.number v.number_low number_eight a.part v.few ∙ opened_fits key v.named a.dcs was was_size v.total_high)
                (λ o. (key, v.named, alike key v.named ∙ opened_belongs key v.named a.dcs was was_size))
                (λ o. first_small)
                (λ other n b j h ne. subst (λ (o : Key). belongs o (slot_at j store) ≡ false) (sym (belongs_one fresh other key (sym (alike other n) ∙ b) (opened_belongs key v.named a.dcs was was_size))) (nowhere j h)),
          )

  -- ---- what becomes of the part
  pub placing_does : Becomes (placing a store)
  unfolding placing_as
  placing_does = by_slot (eqb (slot_of key store) 16) refl (eqb (free_slot store) 16) refl
    where
      answers : Bool → Bool → Said PartAccepted × List ℕ
      answers c f =
          if not c then in_slot (slot_of key store) (joining numbers a.dcs a.part (slot_at (slot_of key store) store)) store
          else if not f then in_slot (free_slot store) (storing numbers a.part (opened_for key a.dcs (slot_at (free_slot store) store))) store
          else (Err StoreFull, store)

      by_slot : (c : Bool) → eqb (slot_of key store) 16 ≡ c → (f : Bool) → eqb (free_slot store) 16 ≡ f → Becomes (answers c f)
      by_slot false p f q =
          let ne = eqb-false (slot_of key store) 16 p in
          joining_does (slot_of key store) (slot_inside key store ne) (slot_belongs key store ne) (none_before key store) (held_there key store ne)
      by_slot true p false q = inl (opens (eqb-true _ _ p) (free_slot store) (free_inside store (eqb-false _ _ q)) (free_closed store (eqb-false _ _ q)))
      by_slot true p true q = inr (record { same = refl; why = inr (refl, held_none key store (eqb-true _ _ p), sixteen_open store s (all_open store (eqb-true _ _ q))) })
