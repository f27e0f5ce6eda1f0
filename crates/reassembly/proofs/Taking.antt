-- What taking and dropping a message come to, case by case.
-- Assumes nothing.
use Rattle.reassembly.specs.declared.MessageDropped.{MessageDropped}
use Rattle.reassembly.specs.declared.MessageTaken.{MessageTaken}
use Rattle.std.specs.Prelude.{Ok, Err, Some, None}
use Prim.Native.Nat.{ℕ, suc, ◌+◌, ◌*◌, ◌≤◌, ◌<◌}
use mathlib.Core.Path.{◌≡◌, refl, sym, ap, ◌∙◌}
use mathlib.Core.Bool.{Bool, true, false, ◌&&◌}
use mathlib.Core.List.{List, [], ◌∷◌, ◌++◌}
use native.Mathlib.Nat.{add-zero, zero-add}
use native.Mathlib.Omega.{arith}
use borrow.Author.Tests.{ne_eqb, lt-ltb, le-ltb, le-leb, lt-leb, leb-true}
use borrow.Rule.Slice.PartMut.{set_mid_at}
use lib.Dec.{leb, ltb}
use lib.ListN.{length, get_or, set, take, drop, replicate}
use lib.Seq.{sets, get_or-drop, get_or-take}
use mathlib.Core.Logic.{⊎_elim}
use Rattle.octets.specs.Answers.{Said}
use Rattle.octets.specs.Held.{holding}
use Rattle.octets.specs.declared.Held.{Held}
use Rattle.octets.specs.Lent.{Wrote, lend}
use Rattle.octets.specs.declared.Refusal.{Refusal}
use Rattle.octets.specs.declared.Refusal.TheVariants.{LengthTooLarge, OutputTooShort}
use Rattle.octets.proofs.Checks.{never}
use Rattle.octets.proofs.Choice.{and_true, chosen}
use Rattle.octets.proofs.Laws.{sets_start}
use Rattle.octets.proofs.Places.{given}
use Rattle.address.specs.declared.SMSAddress.{SMSAddress}
use Rattle.part_number.specs.declared.Reference.{Reference}
use Rattle.message_store.specs.Part.{key_of}
use Rattle.message_store.specs.Store.{begins, is_open, has_key, key_octets, slot_fits, closed, slot_at, with_slot, slot_with, fits, Message, message_in, missing_of, shown_of}
use Rattle.reassembly.specs.Internal.{slot_found}
use Rattle.reassembly.specs.Calls.{message_making, handing, finding, finding_by, taking_by, dropping_by}
use Rattle.message_store.proofs.AtStart.{begins_is}
use Rattle.message_store.proofs.Keys.{written_cut}
use Rattle.message_store.proofs.Slots.{slot_found as slot_is, slot_past, Room, slot_size, slot_bounds, found_has, fits_room, fits_slot}

no_length : (xs : List ℕ) → length xs ≡ 0 → xs ≡ []
no_length [] e = refl
no_length (x ∷ xs) e = absurd (omega arith)

-- how many octets are held
pub count_is : {n : ℕ} (xs : List ℕ) {h : Held n} → h ≡ holding n xs → h.length ≡ length xs
unfolding holding
count_is xs e = rw e

-- a length that was found to fit
pub fits_few : (b : Bool) (x n : ℕ) → b ≡ leb x n → b ≡ true → x ≤ n
fits_few b x n is met = leb-true x n (sym is ∙ met)

-- ---- the message of a slot

module _ (total : ℕ) (slot out : List ℕ) where
  abbrev m : Message
  m = message_in total slot

  abbrev Handed : Type 0
  Handed = Said MessageTaken × List ℕ × List ℕ

  module _ (count : ℕ) (is : count ≡ length (missing_of m)) where
    pub hands_not : (count ≡ 0 → ⊥) → ◌≡◌ {A = Handed} (Ok MessageTaken.NotWhole, slot, out) (handing total slot out)
    unfolding handing
    hands_not ne = rw (← is, ne_eqb count 0 ne)

    module _ (none : count ≡ 0) where
      pub nothing_missing : missing_of m ≡ []
      nothing_missing = no_length (missing_of m) (sym is ∙ none)

      module _ (n : ℕ) (shown : List ℕ) (w : Wrote 0 (shown_of m) (replicate 4080 0) n shown) (few : n ≤ 4080) where
        size : n ≡ length (shown_of m)
        size = w.place ∙ zero-add _

        pub shown_cut : (n ≤ length shown) × (take n shown ≡ shown_of m)
        shown_cut = let c = written_cut 4080 (shown_of m) shown n (omega (arith, size)) w in (c.0, c.1)

        pub hands_short : length out < n → ◌≡◌ {A = Handed} (Err OutputTooShort, slot, out) (handing total slot out)
        unfolding handing message_making lend
        hands_short h = rw (← is, none, ← size, lt-leb n (length out) h)

        pub hands_done : n ≤ length out → (later : List ℕ) → later ≡ sets out 0 (take n shown) → ◌≡◌ {A = Handed} (Ok (MessageTaken.Whole (get_or slot 1 0) n), set slot 0 0, later) (handing total slot out)
        unfolding handing message_making lend message_in
        hands_done h later e =
            let l : later ≡ shown_of m ++ drop (length (shown_of m)) out = e ∙ ap (sets out 0) shown_cut.1 ∙ sets_start (shown_of m) out (omega (arith, size)) in
            rw (l, ← is, none, ← size, le-leb n (length out) h)

-- what a slot's message lacks, as it is held
pub hands_missing : (total : ℕ) (slot out : List ℕ) (h : Held 8) → h ≡ holding 8 (missing_of (message_in total slot)) → (h.length ≡ 0 → ⊥)
    → ◌≡◌ {A = Said MessageTaken × List ℕ × List ℕ} (Ok MessageTaken.NotWhole, slot, out) (handing total slot out)
hands_missing total slot out h is ne = hands_not total slot out h.length (count_is (missing_of (message_in total slot)) is) ne

-- ---- the slot of a message

-- an open slot's number of parts is the key's
open_total : (slot key : List ℕ) → has_key key slot ≡ true → 0 < length key → slot_fits slot ≡ true → get_or key 0 0 ≤ 8
unfolding has_key slot_fits
open_total slot [] e h f = absurd (omega arith)
open_total slot (t ∷ key) e h f =
    let (o, b) = and_true (is_open slot) (begins (t ∷ key) (drop 10 slot)) e in
    let q = begins_is (t ∷ key) (drop 10 slot) b in
    let first_is : get_or (drop 10 slot) 0 0 ≡ t = sym (get_or-take (suc (length key)) (drop 10 slot) 0 0 (omega arith)) ∙ ap (λ (l : List ℕ). get_or l 0 0) q in
    let there : get_or slot 10 0 ≡ t = sym (get_or-drop 10 slot 0 0) ∙ first_is in
    let g : (leb (get_or slot 16 0 * 256 + get_or slot 17 0) 290 && leb (get_or slot 10 0) 8) ≡ true = rw o at f in
    let (x, y) = and_true (leb (get_or slot 16 0 * 256 + get_or slot 17 0) 290) (leb (get_or slot 10 0) 8) g in
    let z = leb-true (get_or slot 10 0) 8 y in
    omega (arith, z, there)

module _ (a : SMSAddress) (r : Reference) (t : ℕ) (store : List ℕ) where
  abbrev key : List ℕ
  key = key_octets (key_of a r t)

  pub finds_long : 290 < a.address.length → Err LengthTooLarge ≡ finding_by a r t store
  unfolding finding_by
  finds_long h = rw (lt-ltb _ _ h)

  module _ (short : a.address.length ≤ 290) where
    pub finds_unfit : fits store ≡ false → Err LengthTooLarge ≡ finding_by a r t store
    unfolding finding_by finding
    finds_unfit f = rw (le-ltb _ _ short, f)

    pub finds : fits store ≡ true → (name : List ℕ) → name ≡ key → Ok (slot_with name store) ≡ finding_by a r t store
    unfolding finding_by finding
    finds f name is = rw (le-ltb _ _ short, f, is)

  -- what was found
  module _ (k : ℕ) (found : Ok k ≡ finding_by a r t store) where
    pub found_is : (fits store ≡ true) × (k ≡ slot_with key store)
    unfolding finding_by finding
    found_is =
        ⊎_elim (λ (l, q). absurd (never (sym q)))
        (λ (l, q). ⊎_elim (λ (f, e). (f, sym (given e))) (λ (f, e). absurd (never (sym e))) (chosen (fits store) q))
        (chosen (ltb 290 a.address.length) (sym found))

    pub room : Room store
    room = fits_room store found_is.0

    -- the parts of an open message are at most 8
    pub total_few : k < 16 → t ≤ 8
    unfolding key_octets
    total_few h = open_total (slot_at k store) key (found_has key store k found_is.1 h) (omega arith) (fits_slot store found_is.0 k h)

    none_open : 16 ≤ k → k ≡ 16
    none_open h = let b = slot_bounds key store in omega (arith, found_is.1)

    -- ---- taking and dropping

    pub takes_none : (out : List ℕ) → 16 ≤ k → ◌≡◌ {A = Said MessageTaken × List ℕ × List ℕ} (Ok MessageTaken.NotOpen, store, out) (taking_by a r t store out)
    unfolding taking_by
    takes_none out h = rw (← found, none_open h)

    pub takes_open : (out : List ℕ) → k < 16 → {s : List ℕ} → s ≡ slot_at k store → (x : Said MessageTaken × List ℕ × List ℕ) → x ≡ handing t s out
        → ◌≡◌ {A = Said MessageTaken × List ℕ × List ℕ} (x.0, with_slot k x.1 store, x.2) (taking_by a r t store out)
    unfolding taking_by
    takes_open out h {s} cut x e =
        let y : x ≡ handing t (slot_at k store) out = e ∙ ap (λ (s : List ℕ). handing t s out) cut in
        rw (← found, ne_eqb k 16 (λ q. omega arith)) (ap (λ (z : Said MessageTaken × List ℕ × List ℕ). (z.0, with_slot k z.1 store, z.2)) y)

    pub drops_none : 16 ≤ k → ◌≡◌ {A = Said MessageDropped × List ℕ} (Ok MessageDropped.NotOpen, store) (dropping_by a r t store)
    unfolding dropping_by
    drops_none h = rw (← found, none_open h)

    pub drops_open : k < 16 → ◌≡◌ {A = Said MessageDropped × List ℕ} (Ok MessageDropped.Done, set store (k * 2356) 0) (dropping_by a r t store)
    unfolding dropping_by
    drops_open h =
        let at : set store (k * 2356) 0 ≡ with_slot k (closed (slot_at k store)) store =
        ap (λ (i : ℕ). set store i 0) (sym (add-zero (k * 2356))) ∙ sym (set_mid_at (k * 2356) 2356 0 store 0 (rw (slot_size store room k h) (omega arith))) in
        rw (← found, ne_eqb k 16 (λ q. omega arith), at)

  -- a refusal changes nothing
  module _ (why : Refusal) (found : Err why ≡ finding_by a r t store) where
    pub takes_refused : (out : List ℕ) → ◌≡◌ {A = Said MessageTaken × List ℕ × List ℕ} (Err why, store, out) (taking_by a r t store out)
    unfolding taking_by
    takes_refused out = rw (← found)

    pub drops_refused : ◌≡◌ {A = Said MessageDropped × List ℕ} (Err why, store) (dropping_by a r t store)
    unfolding dropping_by
    drops_refused = rw (← found)

-- ---- the slot that was found

pub found_there : (r : Said ℕ) {j : ℕ} → Ok (Some j) ≡ slot_found r → (Ok j ≡ r) × (j < 16)
found_there (Ok k) e = let (same, h) = slot_is k (given e) in (ap Ok same, h)
found_there (Err why) e = absurd (never e)

pub found_none : (r : Said ℕ) → Ok None ≡ slot_found r → (k : ℕ) × (Ok k ≡ r) × (16 ≤ k)
found_none (Ok k) e = (k, refl, slot_past k (given e))
found_none (Err why) e = absurd (never e)

pub found_refused : (r : Said ℕ) {why : Refusal} → Err why ≡ slot_found r → Err why ≡ r
found_refused (Ok k) e = absurd (never (sym e))
found_refused (Err w) e = cc
