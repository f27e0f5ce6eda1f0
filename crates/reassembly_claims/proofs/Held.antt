-- What a store holds of a message, once a slot is another.
-- Assumes nothing.
use Prim.Native.Nat.{ℕ, ◌+◌, ◌-◌, ◌*◌, ◌≤◌, ◌<◌}
use mathlib.Core.Path.{◌≡◌, refl, sym, ap, ◌∙◌}
use mathlib.Core.Bool.{Bool, true, false, not}
use mathlib.Core.List.{List}
use mathlib.Core.Option.{none, some}
use native.Mathlib.Omega.{arith}
use borrow.Author.Tests.{eqb-true, eqb-false, ne_eqb, ltb-true, ltb-false, le-leb}
use lib.Dec.{eqb, ltb}
use lib.ListN.{length}
use Rattle.std.specs.Prelude.{if◌then◌else◌}
use Rattle.user_data_header.specs.Header.{header_octets}
use Rattle.message_store.specs.Part.{Key, Named, Part}
use Rattle.message_store.specs.Store.{is_open, belongs, slot_fits, holding, slot_at, with_slot, slot_with, slot_of, fits, message_in, held_of}
use Rattle.message_store.proofs.First.{true_false, first_bounds, first_passes, first_none, first_is, first_same}
use Rattle.message_store.proofs.Slots.{Room}
use Rattle.reassembly_claims.proofs.Runs.{length_replaced, same_slot, slot_before, slot_after}

-- ---- one slot is another

module _ (store : List ℕ) (room : Room store) (k : ℕ) (inside : k < 16) (now : List ℕ) (size : length now ≡ 2356) where
  abbrev after : List ℕ
  after = with_slot k now store

  pub room_after : Room after
  room_after = rw (length_replaced 2356 store now k size (omega arith)) room

  pub slot_now : slot_at k after ≡ now
  slot_now = same_slot 2356 store now k size (omega arith)

  pub slot_else : (j : ℕ) → j < 16 → (j ≡ k → ⊥) → slot_at j after ≡ slot_at j store
  slot_else j h ne = by_order (ltb j k) refl
    where
      by_order : (t : Bool) → ltb j k ≡ t → slot_at j after ≡ slot_at j store
      by_order true e = let l = ltb-true j k e in slot_before 2356 store now k size (omega arith) (j * 2356) (omega arith)
      by_order false e =
          let l = ltb-false j k e in
          let place : j * 2356 ≡ k * 2356 + 2356 + (j * 2356 - (k * 2356 + 2356)) = omega arith in
          rw place (slot_after 2356 store now k size (omega arith) (j * 2356 - (k * 2356 + 2356)))

  -- a test of slots is as before but at k
  tested : (test : List ℕ → Bool) → test now ≡ test (slot_at k store) → (j : ℕ) → j < 16 → test (slot_at j after) ≡ test (slot_at j store)
  tested test e j h = by_place (eqb j k) refl
    where
      by_place : (t : Bool) → eqb j k ≡ t → test (slot_at j after) ≡ test (slot_at j store)
      by_place true q = let is = eqb-true j k q in rw (is, slot_now) e
      by_place false q = ap test (slot_else j h (eqb-false j k q))

  -- a message that neither the old nor the new slot belongs to stays as it is
  pub others_stay : (key : Key) → belongs key (slot_at k store) ≡ false → belongs key now ≡ false → held_of key after ≡ held_of key store
  unfolding held_of slot_with
  others_stay key was is =
      rw same (by_place (eqb (slot_of key store) 16) refl)
    where
      same : slot_of key after ≡ slot_of key store
      same = first_same (λ j. belongs key (slot_at j after)) (λ j. belongs key (slot_at j store)) 16 0 (λ j a b. tested (belongs key) (is ∙ sym was) j (omega arith))

      by_place : (t : Bool) → eqb (slot_of key store) 16 ≡ t
          → (if eqb (slot_of key store) 16 then none else some (message_in key.total (slot_at (slot_of key store) after))) ≡ (if eqb (slot_of key store) 16 then none else some (message_in key.total (slot_at (slot_of key store) store)))
      by_place true e = rw e
      by_place false e =
          let bounds = first_bounds (λ j. belongs key (slot_at j store)) 16 0 in
          let ne = eqb-false (slot_of key store) 16 e in
          let there : belongs key (slot_at (slot_of key store) store) ≡ true = first_passes (λ j. belongs key (slot_at j store)) 16 0 (omega (arith, bounds.1)) in
          let other : slot_of key store ≡ k → ⊥ = λ q. true_false (rw q at there) was in
          rw (e, slot_else (slot_of key store) (omega (arith, bounds.1)) other)

  -- one that the new slot belongs to, and no slot before it, is there
  pub is_there : (key : Key) → belongs key now ≡ true → ((j : ℕ) → j < k → belongs key (slot_at j store) ≡ false) → held_of key after ≡ some (message_in key.total now)
  unfolding held_of slot_with
  is_there key b none_before =
      let place : slot_of key after ≡ k = first_is (λ j. belongs key (slot_at j after)) 16 0 k (omega arith) (omega arith) (rw slot_now b) (λ i c d. rw (slot_else i (omega arith) (λ q. omega arith)) (none_before i d)) in
      rw (place, ne_eqb k 16 (λ q. omega arith), slot_now)

  -- one that no slot belongs to is not
  pub is_gone : (key : Key) → belongs key now ≡ false → ((j : ℕ) → j < 16 → (j ≡ k → ⊥) → belongs key (slot_at j store) ≡ false) → held_of key after ≡ none
  unfolding held_of slot_with
  is_gone key b none-else =
      let place : slot_of key after ≡ 16 = first_none (λ j. belongs key (slot_at j after)) 16 0 (λ j c d. by_place j (omega arith) (eqb j k) refl) in
      rw place
    where
      by_place : (j : ℕ) → j < 16 → (t : Bool) → eqb j k ≡ t → belongs key (slot_at j after) ≡ false
      by_place j h true q = let is = eqb-true j k q in rw (is, slot_now) b
      by_place j h false q = let ne = eqb-false j k q in rw (slot_else j h ne) (none-else j h ne)

-- ---- a store that only these calls wrote: large enough, its length fields fit, no two slots belong to one message, and each open slot belongs to one and holds parts as they come

abbrev pub Owned : List ℕ → Type 0
Owned slot = (key : Key) × Named key × (belongs key slot ≡ true)

-- what a header of 6 octets at least leaves of a part
abbrev pub SmallPart : Part → Type 0
SmallPart p = (6 ≤ header_octets p.octets) × (p.udl ≤ 255) × (length p.octets ≤ 255)

abbrev pub Small : List ℕ → Type 0
Small slot = (n : ℕ) → 1 ≤ n → n ≤ 8 → (p : Part) → holding n slot ≡ some p → SmallPart p

pub record Sound (store : List ℕ) : Type 0 where
  pub room : Room store
  pub fit : (j : ℕ) → j < 16 → slot_fits (slot_at j store) ≡ true
  pub distinct : (key : Key) → Named key → (i j : ℕ) → i < 16 → j < 16 → belongs key (slot_at i store) ≡ true → belongs key (slot_at j store) ≡ true → i ≡ j
  pub owned : (j : ℕ) → j < 16 → is_open (slot_at j store) ≡ true → Owned (slot_at j store)
  pub small : (j : ℕ) → j < 16 → is_open (slot_at j store) ≡ true → Small (slot_at j store)

pub sound_fits : (store : List ℕ) → Sound store → fits store ≡ true
unfolding fits
sound_fits store s = rw (le-leb _ _ s.room, first_none (λ k. not (slot_fits (slot_at k store))) 16 0 (λ j a b. ap not (s.fit j (omega arith))))

module _ (store : List ℕ) (s : Sound store) (k : ℕ) (inside : k < 16) (now : List ℕ) (size : length now ≡ 2356) where
  pub sound_after : slot_fits now ≡ true → (is_open now ≡ true → Owned now) → (is_open now ≡ true → Small now)
      → ((key : Key) → Named key → belongs key now ≡ true → (j : ℕ) → j < 16 → (j ≡ k → ⊥) → belongs key (slot_at j store) ≡ false)
      → Sound (with_slot k now store)
  sound_after f o few alone = record {
    room = room_after store s.room k inside now size;
    fit = λ j h. fit_at j h (eqb j k) refl;
    distinct = λ key n i j a b p q. by_places key n i j a b p q (eqb i k) refl (eqb j k) refl;
    owned = λ j h. owned_at j h (eqb j k) refl;
    small = λ j h. small_at j h (eqb j k) refl;
  }
    where
      at_k : slot_at k (with_slot k now store) ≡ now
      at_k = slot_now store s.room k inside now size

      else_at : (j : ℕ) → j < 16 → (j ≡ k → ⊥) → slot_at j (with_slot k now store) ≡ slot_at j store
      else_at = slot_else store s.room k inside now size

      fit_at : (j : ℕ) → j < 16 → (t : Bool) → eqb j k ≡ t → slot_fits (slot_at j (with_slot k now store)) ≡ true
      fit_at j h true q = let is = eqb-true j k q in rw (is, at_k) f
      fit_at j h false q = rw (else_at j h (eqb-false j k q)) (s.fit j h)

      owned_at : (j : ℕ) → j < 16 → (t : Bool) → eqb j k ≡ t → is_open (slot_at j (with_slot k now store)) ≡ true → Owned (slot_at j (with_slot k now store))
      owned_at j h true q = let is = eqb-true j k q in rw (is, at_k) o
      owned_at j h false q = rw (else_at j h (eqb-false j k q)) (s.owned j h)

      small_at : (j : ℕ) → j < 16 → (t : Bool) → eqb j k ≡ t → is_open (slot_at j (with_slot k now store)) ≡ true → Small (slot_at j (with_slot k now store))
      small_at j h true q = let is = eqb-true j k q in rw (is, at_k) few
      small_at j h false q = rw (else_at j h (eqb-false j k q)) (s.small j h)

      by_places : (key : Key) → Named key → (i j : ℕ) → i < 16 → j < 16 → belongs key (slot_at i (with_slot k now store)) ≡ true → belongs key (slot_at j (with_slot k now store)) ≡ true
          → (t : Bool) → eqb i k ≡ t → (u : Bool) → eqb j k ≡ u → i ≡ j
      by_places key n i j a b p q true e true f = eqb-true i k e ∙ sym (eqb-true j k f)
      by_places key n i j a b p q true e false f =
          let is = eqb-true i k e in
          let ne = eqb-false j k f in
          true_false (rw (else_at j b ne) at q) (alone key n (rw (is, at_k) at p) j b ne)
      by_places key n i j a b p q false e true f =
          let is = eqb-true j k f in
          let ne = eqb-false i k e in
          true_false (rw (else_at i a ne) at p) (alone key n (rw (is, at_k) at q) i a ne)
      by_places key n i j a b p q false e false f = s.distinct key n i j a b (rw (else_at i a (eqb-false i k e)) at p) (rw (else_at j b (eqb-false j k f)) at q)
