-- The slots of a store: where they are, and one that is put back as it was.
-- Assumes nothing.
use Rattle.std.specs.Prelude.{Some, None, Option as Maybe, Bool, ltb, if◌then◌else◌}
use Rattle.std.proofs.lemmas.Option.{same_Some, none-some}
use Prim.Native.Nat.{ℕ, ◌+◌, ◌-◌, ◌*◌, ◌≤◌, ◌<◌}
use mathlib.Core.Path.{refl, ◌≡◌, ap, ◌∙◌, sym}
use mathlib.Core.Bool.{false, true, not}
use mathlib.Core.List.{List, ◌++◌}
use native.Mathlib.Omega.{arith}
use borrow.Author.Tests.{leb-true, eqb-true, not-false, ltb-false, ltb-true, lt-ltb, eq-eqb, ne_eqb}
use lib.Dec.{leb, eqb}
use Rattle.std.specs.Simd.{first_chunks}
use Rattle.std.specs.List.{AllWithin, HoldsAt}
use Rattle.std.specs.Bool.{MatchBool}
use Rattle.std.proofs.Common.{MatchOption, zero, suc, [], ◌/◌}
use Rattle.std.proofs.lemmas.List.{drop-drop, drop-take}
use native.Mathlib.Nat.{suc-mul}
use lib.ListN.{get_or, length, take, drop, length-drop, take-append-drop}
use lib.Seq.{length-take-le, take-take, take_all}
use Rattle.octets.proofs.Choice.{and_true}
use Rattle.octets.proofs.Laws.{part_is}
use Rattle.message_store.specs.Store.{Slots, part_at, block, slot_there, first, is_open, has_key, slot_fits, store_octets, slot_at, with_slot, slot_with, free_slot, fits}
use Rattle.message_store.proofs.First.{true_false, first_none, first_is, first_bounds, first_before, first_passes}

abbrev pub Room : List ℕ → Type 0
Room store = store_octets ≤ length store

pub slot_size : (store : List ℕ) → Room store → (k : ℕ) → k < 16 → length (slot_at k store) ≡ 2356
slot_size store room k h = length-take-le 2356 (drop (k * 2356) store) (rw length-drop (omega arith))

-- a slot as the code cuts it out
pub cut_is : (store : List ℕ) (k : ℕ) → take (k * 2356 + 2356 - k * 2356) (drop (k * 2356) store) ≡ slot_at k store
cut_is store k = part_is (k * 2356) 2356 store

pub cut_size : (store : List ℕ) → Room store → (k : ℕ) → k < 16 → length (take (k * 2356 + 2356 - k * 2356) (drop (k * 2356) store)) ≡ 2356
cut_size store room k h = ap length (cut_is store k) ∙ slot_size store room k h

-- a slot that is as it was
pub put_back : (k : ℕ) (store : List ℕ) → with_slot k (slot_at k store) store ≡ store
put_back k store = ap (λ (r : List ℕ). take (k * 2356) store ++ r) (take-append-drop 2356 (drop (k * 2356) store)) ∙ take-append-drop (k * 2356) store

-- ---- the slots as arrays

-- an array of n octets
chunk_at : (n count : ℕ) (xs : List ℕ) (k : ℕ) → k < count → get_or (first_chunks n count xs) k [] ≡ take n (drop (k * n) xs)
chunk_at n zero xs k h = absurd (omega arith)
chunk_at n (suc count) xs zero h = let none : 0 ≡ 0 * n = omega arith in ap (λ m. take n (drop m xs)) none
chunk_at n (suc count) xs (suc k) h = chunk_at n count (drop n xs) k (omega arith) ∙ ap (take n) (drop-drop (k * n) n xs ∙ ap (λ m. drop m xs) (omega (arith, suc-mul k n)))

length_chunks : (n count : ℕ) (xs : List ℕ) → length (first_chunks n count xs) ≡ count
length_chunks n zero xs = refl
length_chunks n (suc count) xs = ap suc (length_chunks n count (drop n xs))

pub slots_cut : (store : List ℕ) → Room store → (slots : List (List ℕ)) → slots ≡ first_chunks 2356 (length (take store_octets store) / 2356) (take store_octets store) → Slots store slots
slots_cut store room slots e =
    let count : length (take store_octets store) / 2356 ≡ 16 = omega (arith, length-take-le store_octets store room) in
    let is : slots ≡ first_chunks 2356 16 (take store_octets store) = rw count at e in
    record {
      count = ap length is ∙ length_chunks 2356 16 (take store_octets store);
      each = λ k h. let split : store_octets ≡ k * 2356 + (store_octets - k * 2356) = omega arith in
          ap (λ l. get_or l k []) is ∙ chunk_at 2356 16 (take store_octets store) k h
          ∙ ap (λ m. take 2356 (drop (k * 2356) (take m store))) split
          ∙ ap (take 2356) (drop-take (k * 2356) (store_octets - k * 2356) store)
          ∙ take-take 2356 (store_octets - k * 2356) (drop (k * 2356) store) (omega arith);
    }

-- the blocks of a slot
pub blocks_cut : (slot : List ℕ) → length slot ≡ 2356 → {blocks : List (List ℕ)} → blocks ≡ first_chunks 256 (length (take (2356 - part_at 1) (drop (part_at 1) slot)) / 256) (take (2356 - part_at 1) (drop (part_at 1) slot))
    → (length blocks ≡ 8) × ((i : ℕ) → i < 8 → get_or blocks i [] ≡ block (i + 1) slot)
blocks_cut slot size {blocks} e =
    let all : take (2356 - part_at 1) (drop (part_at 1) slot) ≡ drop (part_at 1) slot = take_all (2356 - part_at 1) (drop (part_at 1) slot) (rw length-drop (omega arith)) in
    let count : length (drop (part_at 1) slot) / 256 ≡ 8 = rw length-drop (omega arith) in
    let is : blocks ≡ first_chunks 256 8 (drop (part_at 1) slot) = rw (all, count) at e in (
      ap length is ∙ length_chunks 256 8 (drop (part_at 1) slot),
      λ i h.
          let at : part_at 1 + i * 256 ≡ part_at (i + 1) = omega arith in
          ap (λ l. get_or l i []) is ∙ chunk_at 256 8 (drop (part_at 1) slot) i h ∙ ap (take 256) (drop-drop (i * 256) (part_at 1) slot ∙ ap (λ m. drop m slot) at),
    )

module _ {store : List ℕ} {slots : List (List ℕ)} (s : Slots store slots) (test : List ℕ → Bool) where
  -- what a search among them answers
  pub slot_first : (r : Maybe ℕ) → MatchOption r (AllWithin (λ x. test x ≡ false) slots 0 (length slots)) (λ i. (i < length slots) × HoldsAt (λ x. test x ≡ true) slots i × AllWithin (λ x. test x ≡ false) slots 0 i)
      → r ≡ slot_there (first (λ k. test (slot_at k store)) 16 0)
  slot_first None h = rw (first_none (λ k. test (slot_at k store)) 16 0 (λ j a b. rw (← s.each j b) (h j [] a (omega (arith, s.count)))))
  slot_first (Some k) (b, e, h) =
      let inside : k < 16 = omega (arith, s.count) in
      rw (first_is (λ k. test (slot_at k store)) 16 0 k (omega arith) inside (rw (← s.each k inside) (e [])) (λ i a c. rw (← s.each i (omega arith)) (h i [] a c)), lt-ltb k 16 inside)

  -- whether all of them pass
  pub slots_pass : (r : Bool) → MatchBool r (AllWithin (λ x. test x ≡ true) slots 0 (length slots)) ((k : ℕ) × (k < length slots) × HoldsAt (λ x. test x ≡ false) slots k)
      → r ≡ eqb (first (λ k. not (test (slot_at k store))) 16 0) 16
  slots_pass true h = sym (eq-eqb _ _ (first_none (λ k. not (test (slot_at k store))) 16 0 (λ j a b. let e : test (slot_at j store) ≡ true = rw (← s.each j b) (h j [] a (omega (arith, s.count))) in ap not e)))
  slots_pass false (k, b, e) =
      let inside : k < 16 = omega (arith, s.count) in
      let fails : test (slot_at k store) ≡ false = rw (← s.each k inside) (e []) in
      sym (ne_eqb _ _ (λ z. true_false (ap not fails) (first_before (λ k. not (test (slot_at k store))) 16 0 k (omega arith) (omega (arith, z)))))

-- ---- the slot of a message, and a free one

pub slot_bounds : (key store : List ℕ) → slot_with key store ≤ 16
unfolding slot_with
slot_bounds key store = (first_bounds (λ k. has_key key (slot_at k store)) 16 0).1

pub free_bounds : (store : List ℕ) → free_slot store ≤ 16
unfolding free_slot
free_bounds store = (first_bounds (λ k. not (is_open (slot_at k store))) 16 0).1

pub found_has : (key store : List ℕ) (k : ℕ) → k ≡ slot_with key store → k < 16 → has_key key (slot_at k store) ≡ true
unfolding slot_with
found_has key store k is h = rw is (first_passes (λ j. has_key key (slot_at j store)) 16 0 (rw (← is) h))

-- ---- a store whose length fields fit

module _ (store : List ℕ) (e : fits store ≡ true) where
  both : (leb store_octets (length store) ≡ true) × (eqb (first (λ k. not (slot_fits (slot_at k store))) 16 0) 16 ≡ true)
  unfolding fits
  both = and_true (leb store_octets (length store)) (eqb (first (λ k. not (slot_fits (slot_at k store))) 16 0) 16) e

  pub fits_room : Room store
  fits_room = leb-true store_octets (length store) both.0

  pub fits_slot : (k : ℕ) → k < 16 → slot_fits (slot_at k store) ≡ true
  fits_slot k h =
      let all = eqb-true (first (λ j. not (slot_fits (slot_at j store))) 16 0) 16 both.1 in
      not-false _ (first_before (λ j. not (slot_fits (slot_at j store))) 16 0 k (omega arith) (omega (arith, all)))

-- ---- a slot that was found

module _ (k : ℕ) where
  pub slot_found : {j : ℕ} → Some j ≡ slot_there k → (j ≡ k) × (j < 16)
  slot_found {j} = by (ltb k 16) refl
    where
      by : (t : Bool) → ltb k 16 ≡ t → Some j ≡ (if t then Some k else None) → (j ≡ k) × (j < 16)
      by true t e = let same = same_Some j k e in (same, omega (arith, ltb-true k 16 t))
      by false t e = absurd (none-some j (sym e))

  pub slot_past : ◌≡◌ {A = Maybe ℕ} None (slot_there k) → 16 ≤ k
  slot_past = by (ltb k 16) refl
    where
      by : (t : Bool) → ltb k 16 ≡ t → ◌≡◌ {A = Maybe ℕ} None (if t then Some k else None) → 16 ≤ k
      by true t e = absurd (none-some k e)
      by false t e = ltb-false k 16 t
