-- What joining a message and placing a part come to, case by case.
-- Assumes nothing.
use Rattle.std.specs.Prelude.{Err}
use Rattle.octets.specs.Answers.{Said}
use Rattle.reassembly.specs.declared.PartAccepted.{PartAccepted}
use Prim.Native.Nat.{ℕ, ◌+◌, ◌-◌, ◌≤◌, ◌<◌}
use mathlib.Core.Path.{◌≡◌, sym, ap, ◌∙◌}
use mathlib.Core.Bool.{true, false}
use mathlib.Core.List.{List, ◌∷◌}
use native.Mathlib.Omega.{arith}
use native.Mathlib.Numerals.{add-one}
use borrow.Author.Tests.{eq-eqb, ne_eqb}
use lib.ListN.{length, get_or, take, drop}
use lib.Seq.{drop-cons}
use Rattle.octets.specs.declared.Refusal.TheVariants.{StoreFull, NotAPart}
use Rattle.part_number.specs.declared.PartNumber.{PartNumber}
use Rattle.message_store.specs.Part.{Part}
use Rattle.message_store.specs.Store.{begins, coding_in, part_at, block, slot_at, slot_with, free_slot, opened_with, message_in}
use Rattle.reassembly.specs.Calls.{in_slot, told, storing, joining, placing_as}
use Rattle.message_store.proofs.Slots.{slot_bounds, free_bounds}

module _ (n : PartNumber) (dcs : ℕ) (p : Part) (slot : List ℕ) where
  pub joins_coding : (coding_in slot ≡ dcs → ⊥) → (Err NotAPart, slot) ≡ joining n dcs p slot
  unfolding joining
  joins_coding ne = rw (ne_eqb _ _ ne)

  module _ (coding : coding_in slot ≡ dcs) where
    pub joins_new : get_or slot (1 + n.number) 0 ≡ 0 → storing n p slot ≡ joining n dcs p slot
    unfolding joining
    joins_new e = rw (eq-eqb _ _ coding, e)

    module _ (held : get_or slot (1 + n.number) 0 ≡ 0 → ⊥) (size : length slot ≡ 2356) (high : n.number ≤ 8) where
      block_is : block n.number slot ≡ get_or slot (part_at n.number) 0 ∷ take 255 (drop (part_at n.number + 1) slot)
      block_is = rw add-one (ap (take 256) (drop-cons slot (part_at n.number) 0 (omega arith)))

      pub joins_udl : (get_or slot (part_at n.number) 0 ≡ p.udl → ⊥) → (Err NotAPart, slot) ≡ joining n dcs p slot
      unfolding joining begins
      joins_udl ne = rw (eq-eqb _ _ coding, ne_eqb _ _ held, block_is, ne_eqb p.udl (get_or slot (part_at n.number) 0) (λ e. ne (sym e)))

      -- the data as the code cuts them out
      module _ (udl : get_or slot (part_at n.number) 0 ≡ p.udl) where
        abbrev cut : List ℕ
        cut = take (part_at n.number + 256 - (part_at n.number + 1)) (drop (part_at n.number + 1) slot)

        data_cut : take 255 (drop (part_at n.number + 1) slot) ≡ cut
        data_cut = let e : part_at n.number + 256 - (part_at n.number + 1) ≡ 255 = omega arith in rw e

        pub joins_other : begins p.octets cut ≡ false → (Err NotAPart, slot) ≡ joining n dcs p slot
        unfolding joining begins
        joins_other e = rw (eq-eqb _ _ coding, ne_eqb _ _ held, block_is, data_cut, e, eq-eqb p.udl (get_or slot (part_at n.number) 0) (sym udl))

        pub joins_again : begins p.octets cut ≡ true → (told n (message_in n.total slot), slot) ≡ joining n dcs p slot
        unfolding joining begins
        joins_again e = rw (eq-eqb _ _ coding, ne_eqb _ _ held, block_is, data_cut, e, eq-eqb p.udl (get_or slot (part_at n.number) 0) (sym udl))

module _ (key : List ℕ) (n : PartNumber) (dcs : ℕ) (p : Part) (store : List ℕ) where
  pub places_open : (k : ℕ) → k ≡ slot_with key store → k < 16 → {s : List ℕ} → s ≡ slot_at k store → (x : Said PartAccepted × List ℕ) → x ≡ joining n dcs p s
      → in_slot k x store ≡ placing_as key n dcs p store
  unfolding placing_as
  places_open k is h cut x e = ap (λ (z : Said PartAccepted × List ℕ). in_slot k z store) (e ∙ ap (joining n dcs p) cut) ∙ rw (← is, ne_eqb k 16 (λ q. omega arith))

  module _ (j : ℕ) (found : j ≡ slot_with key store) (past : 16 ≤ j) where
    new : slot_with key store ≡ 16
    new = let b = slot_bounds key store in omega arith

    pub places_new : (k : ℕ) → k ≡ free_slot store → k < 16 → {s : List ℕ} → s ≡ slot_at k store → (x : Said PartAccepted × List ℕ) → x ≡ storing n p (opened_with key dcs s)
        → in_slot k x store ≡ placing_as key n dcs p store
    unfolding placing_as
    places_new k is h cut x e = ap (λ (z : Said PartAccepted × List ℕ). in_slot k z store) (e ∙ ap (λ (s : List ℕ). storing n p (opened_with key dcs s)) cut) ∙ rw (eq-eqb _ _ new, ← is, ne_eqb k 16 (λ q. omega arith))

    pub places_full : (k : ℕ) → k ≡ free_slot store → 16 ≤ k → ◌≡◌ {A = Said PartAccepted × List ℕ} (Err StoreFull, store) (placing_as key n dcs p store)
    unfolding placing_as
    places_full k is h = let b = free_bounds store in let full : free_slot store ≡ 16 = omega arith in rw (eq-eqb _ _ new, eq-eqb _ _ full)
