-- A slot: opened, with a part, closed.
-- Assumes nothing.
use Prim.Native.Nat.{ℕ, zero, suc, ◌+◌, ◌-◌, ◌*◌, ◌/◌, ◌%◌, ◌≤◌, ◌<◌}
use mathlib.Core.Path.{◌≡◌, refl, sym, ap, ap₂, ◌∙◌}
use mathlib.Core.Bool.{Bool, true, false, ◌&&◌}
use mathlib.Core.List.{List, [], ◌∷◌, ◌++◌, append_assoc}
use mathlib.Core.Option.{none, some}
use native.Mathlib.Nat.{add-suc, suc-add, add-zero}
use native.Mathlib.Omega.{arith}
use borrow.Author.Tests.{eqb-true, eqb-false, ltb-true, ltb-false, le-leb}
use lib.Dec.{eqb, ltb}
use lib.ListN.{length, get_or, set, take, drop, replicate, length-set, length-replicate, get_or-replicate, get_or-append}
use lib.Seq.{length-sets, take_at, take-take, drop-set-lt, get_or-set_other, get_or-set_same, ext_get_or}
use Rattle.octets.proofs.Laws.{sets_start}
use Rattle.coding.specs.Coding.{coding_of, data_octets}
use Rattle.part_number.specs.declared.Reference.{Reference}
use Rattle.part_number.specs.declared.Reference.TheVariants.{Eight, Sixteen}
use Rattle.message_store.specs.Part.{Key, Named, Part}
use Rattle.message_store.specs.Store.{begins, is_open, coding_in, is_held, part_at, block, reference_octets, key_octets, has_key, belongs, slot_fits, part_of, holding, holdings, opened_with, opened_for, with_part, closed}
use Rattle.message_store.proofs.AtStart.{begins_itself, begins_first, begins_is, is_begins}
use Rattle.message_store.proofs.Keys.{length_key, one_key}
use Rattle.message_store.proofs.Shown.{length_holdings}
use Rattle.reassembly_claims.proofs.Runs.{cut_before, cut_after, get_d_before, drop_there}

-- a slot belongs to one message
open_and : (a b : Bool) → (a && b) ≡ true → (a ≡ true) × (b ≡ true)
open_and true b e = (refl, e)
open_and false b e = let z : ◌≡◌ {A = ℕ} 0 1 = cc in absurd (omega arith)

pub belongs_open : (k : Key) (slot : List ℕ) → belongs k slot ≡ true → (is_open slot ≡ true) × (begins (key_octets k) (drop 10 slot) ≡ true)
unfolding has_key
belongs_open k slot e = open_and _ _ e

pub belongs_one : (slot : List ℕ) (j k : Key) → belongs j slot ≡ true → belongs k slot ≡ true → j ≡ k
belongs_one slot j k a b = one_key (drop 10 slot) j k (belongs_open j slot a).1 (belongs_open k slot b).1

pub belongs_closed : (k : Key) (slot : List ℕ) → is_open slot ≡ false → belongs k slot ≡ false
unfolding has_key
belongs_closed k slot e = rw e

-- ---- a slot with a part

module _ (slot : List ℕ) (size : length slot ≡ 2356) (n : ℕ) (low : 1 ≤ n) (high : n ≤ 8) (p : Part) (few : length p.octets ≤ 255) where
  abbrev now : List ℕ
  now = with_part n p slot

  marked : List ℕ
  marked = set slot (1 + n) 1

  length_marked : length marked ≡ 2356
  unfolding marked
  length_marked = length-set slot (1 + n) 1 ∙ size

  pub length_with : length now ≡ 2356
  unfolding with_part marked
  length_with = length-sets marked (part_at n) (p.udl ∷ p.octets) ∙ length_marked

  -- the octets before the parts, but the mark
  pub other_octet : (j : ℕ) → j < 308 → (j ≡ 1 + n → ⊥) → get_or now j 0 ≡ get_or slot j 0
  unfolding with_part marked
  other_octet j h ne = get_d_before (p.udl ∷ p.octets) marked (part_at n) j 0 (omega arith) ∙ get_or-set_other slot (1 + n) j 1 0 ne

  pub marked_held : is_held n now ≡ true
  unfolding with_part marked
  marked_held =
      let e : get_or now (1 + n) 0 ≡ 1 = get_d_before (p.udl ∷ p.octets) marked (part_at n) (1 + n) 0 (omega arith) ∙ get_or-set_same slot (1 + n) 1 0 (omega arith) in
      rw e

  pub other_held : (m : ℕ) → m ≤ 8 → (m ≡ n → ⊥) → is_held m now ≡ is_held m slot
  other_held m h ne = rw (other_octet (1 + m) (omega arith) (λ e. ne (omega arith)))

  pub still_open : is_open now ≡ is_open slot
  still_open = rw (other_octet 0 (omega arith) (λ e. omega arith))

  pub same_coding : coding_in now ≡ coding_in slot
  same_coding = other_octet 1 (omega arith) (λ e. omega arith)

  -- the key
  key_part : take 298 (drop 10 now) ≡ take 298 (drop 10 slot)
  unfolding with_part marked
  key_part = cut_before (p.udl ∷ p.octets) marked 10 298 (part_at n) (omega arith) ∙ ap (take 298) (drop-set-lt 10 slot (1 + n) 1 (omega arith))

  pub same_key : (k : Key) → Named k → begins (key_octets k) (drop 10 now) ≡ begins (key_octets k) (drop 10 slot)
  same_key k h =
      let short : length (key_octets k) ≤ 298 = rw length_key (omega arith) in
      sym (begins_first (key_octets k) (drop 10 now) 298 short) ∙ ap (begins (key_octets k)) key_part ∙ begins_first (key_octets k) (drop 10 slot) 298 short

  pub same_belongs : (k : Key) → Named k → belongs k now ≡ belongs k slot
  unfolding has_key
  same_belongs k h = rw (still_open, same_key k h)

  -- the parts
  pub other_block : (m : ℕ) → 1 ≤ m → (m ≡ n → ⊥) → block m now ≡ block m slot
  unfolding with_part marked
  other_block m h ne = by_order (ltb m n) refl ∙ ap (take 256) (drop-set-lt (part_at m) slot (1 + n) 1 (omega arith))
    where
      by_order : (t : Bool) → ltb m n ≡ t → block m now ≡ block m marked
      by_order true e = let l = ltb-true m n e in cut_before (p.udl ∷ p.octets) marked (part_at m) 256 (part_at n) (omega arith)
      by_order false e = let l = ltb-false m n e in cut_after (p.udl ∷ p.octets) marked (part_at m) 256 (part_at n) (omega arith)

  its_block : block n now ≡ p.udl ∷ take 255 (p.octets ++ drop (part_at n + suc (length p.octets)) marked)
  unfolding with_part marked
  its_block = ap (take 256) (drop_there (p.udl ∷ p.octets) marked (part_at n) (rw length_marked (omega arith)))

  pub its_part : (dcs : ℕ) → length p.octets ≡ data_octets (coding_of dcs) p.udl → part_of dcs (block n now) ≡ p
  unfolding part_of
  its_part dcs e =
      let rest : List ℕ = drop (part_at n + suc (length p.octets)) marked in
      let data_are : take (data_octets (coding_of dcs) p.udl) (take 255 (p.octets ++ rest)) ≡ p.octets =
      take-take (data_octets (coding_of dcs) p.udl) 255 (p.octets ++ rest) (omega arith) ∙ take_at p.octets rest (data_octets (coding_of dcs) p.udl) e in
      ap (λ (b : List ℕ). part_of dcs b) its_block ∙ (λ i. record { udl = p.udl; octets = data_are i })

  -- so the slot holds that part, and the others as before
  pub holds_it : length p.octets ≡ data_octets (coding_of (coding_in slot)) p.udl → holding n now ≡ some (p)
  unfolding holding
  holds_it e = rw (marked_held, same_coding, its_part (coding_in slot) e)

  pub holds_others : (m : ℕ) → 1 ≤ m → m ≤ 8 → (m ≡ n → ⊥) → holding m now ≡ holding m slot
  unfolding holding
  holds_others m l h ne = rw (other_held m h ne, same_coding, other_block m l ne)

-- ---- what is held, number by number

pub holding_at : (n count : ℕ) (slot : List ℕ) (i : ℕ) → i < count → get_or (holdings n count slot) i none ≡ holding (n + i) slot
unfolding holdings
holding_at n zero slot i h = absurd (omega arith)
holding_at n (suc count) slot zero h = ap (λ (k : ℕ). holding k slot) (sym (add-zero n))
holding_at n (suc count) slot (suc i) h = holding_at (suc n) count slot i (omega arith) ∙ ap (λ (k : ℕ). holding k slot) (suc-add n i ∙ sym (add-suc n i))

module _ (slot : List ℕ) (size : length slot ≡ 2356) (n : ℕ) (low : 1 ≤ n) (total : ℕ) (high : n ≤ total) (eight : total ≤ 8) (p : Part) (few : length p.octets ≤ 255)
    (own : length p.octets ≡ data_octets (coding_of (coding_in slot)) p.udl) where
  pub holdings_with : holdings 1 total (with_part n p slot) ≡ set (holdings 1 total slot) (n - 1) (some p)
  holdings_with = ext_get_or none _ _ (length_holdings 1 total (with_part n p slot) ∙ sym (length-set (holdings 1 total slot) (n - 1) (some p) ∙ length_holdings 1 total slot)) at_each
    where
      by_number : (i : ℕ) → i < total → (t : Bool) → eqb i (n - 1) ≡ t → get_or (holdings 1 total (with_part n p slot)) i none ≡ get_or (set (holdings 1 total slot) (n - 1) (some p)) i none
      by_number i h true e =
          let is : i ≡ n - 1 = eqb-true i (n - 1) e in
          let number : 1 + i ≡ n = omega arith in
          holding_at 1 total (with_part n p slot) i h ∙ rw (number, is) (holds_it slot size n low (omega arith) p few own ∙ sym (get_or-set_same (holdings 1 total slot) (n - 1) (some p) none (rw length_holdings (omega arith))))
      by_number i h false e =
          let ne = eqb-false i (n - 1) e in
          holding_at 1 total (with_part n p slot) i h ∙ holds_others slot size n low (omega arith) p few (1 + i) (omega arith) (omega arith) (λ q. ne (omega arith))
          ∙ sym (get_or-set_other (holdings 1 total slot) (n - 1) i (some p) none ne ∙ holding_at 1 total slot i h)

      at_each : (i : ℕ) → i < length (holdings 1 total (with_part n p slot)) → get_or (holdings 1 total (with_part n p slot)) i none ≡ get_or (set (holdings 1 total slot) (n - 1) (some p)) i none
      at_each i h = by_number i (rw length_holdings at h) (eqb i (n - 1)) refl

-- ---- a slot opened for a message

module _ (key : Key) (named : Named key) (dcs : ℕ) (slot : List ℕ) (size : length slot ≡ 2356) where
  abbrev opened : List ℕ
  opened = opened_for key dcs slot

  front : List ℕ
  front = 1 ∷ dcs ∷ replicate 8 0 ++ key_octets key

  length_front : length front ≡ 10 + length (key_octets key)
  unfolding front
  length_front = omega arith

  rest : List ℕ
  rest = drop (length front) slot

  opened_is : opened ≡ front ++ rest
  unfolding opened_with front rest
  opened_is = sets_start front slot (rw (length_front, length_key key, size) (omega arith))

  pub length_opened : length opened ≡ 2356
  unfolding opened_with
  length_opened = length-sets slot 0 (1 ∷ dcs ∷ replicate 8 0 ++ key_octets key) ∙ size

  pub opened_open : is_open opened ≡ true
  unfolding front
  opened_open = rw opened_is

  pub opened_coding : coding_in opened ≡ dcs
  unfolding front
  opened_coding = rw opened_is

  opened_key : drop 10 opened ≡ key_octets key ++ rest
  unfolding front
  opened_key = rw opened_is

  pub opened_belongs : belongs key opened ≡ true
  unfolding has_key
  opened_belongs = rw (opened_open, opened_key, begins_itself (key_octets key) rest)

  pub opened_other : (k : Key) → (k ≡ key → ⊥) → belongs k opened ≡ false
  opened_other k ne = by_test (belongs k opened) refl
    where
      by_test : (t : Bool) → belongs k opened ≡ t → belongs k opened ≡ false
      by_test true e = absurd (ne (belongs_one opened k key e opened_belongs))
      by_test false e = e

  -- no part is held
  pub opened_holds : (m : ℕ) → 1 ≤ m → m ≤ 8 → holding m opened ≡ none
  unfolding holding front
  opened_holds zero l h = absurd (omega arith)
  opened_holds (suc m) l h =
      let n : 1 + suc m ≡ suc (suc m) = omega arith in
      let e : get_or opened (1 + suc m) 0 ≡ 0 = rw (n, opened_is) (ap (λ (xs : List ℕ). get_or xs m 0) (append_assoc (replicate 8 0) (key_octets key) rest) ∙ get_or-append (replicate 8 0) (key_octets key ++ rest) 0 m (omega arith) ∙ get_or-replicate 8 m 0 0 (omega arith)) in
      rw e

  pub holdings_opened : (total : ℕ) → total ≤ 8 → holdings 1 total opened ≡ replicate total none
  holdings_opened total h = ext_get_or none _ _ (length_holdings 1 total opened ∙ sym (length-replicate total none)) at_each
    where
      at_each : (i : ℕ) → i < length (holdings 1 total opened) → get_or (holdings 1 total opened) i none ≡ get_or (replicate total none) i none
      at_each i l = let k : i < total = rw length_holdings at l in holding_at 1 total opened i k ∙ opened_holds (1 + i) (omega arith) (omega arith) ∙ sym (get_or-replicate total i none none k)

  -- its length fields fit
  length_fields : (get_or opened 10 0 ≡ key.total) × (get_or opened 16 0 ≡ length key.text / 256) × (get_or opened 17 0 ≡ length key.text % 256)
  unfolding front key_octets
  length_fields = rw opened_is (by_reference key.reference)
    where
      with_reference : Reference → List ℕ
      with_reference r = (1 ∷ dcs ∷ replicate 8 0 ++ (key.total ∷ reference_octets r ++ key.ton ∷ key.npi ∷ length key.text / 256 ∷ length key.text % 256 ∷ key.text)) ++ rest

      by_reference : (r : Reference) → (get_or (with_reference r) 10 0 ≡ key.total) × (get_or (with_reference r) 16 0 ≡ length key.text / 256) × (get_or (with_reference r) 17 0 ≡ length key.text % 256)
      by_reference (Eight r) = (refl, refl, refl)
      by_reference (Sixteen r) = (refl, refl, refl)

  pub opened_fits : key.total ≤ 8 → slot_fits opened ≡ true
  unfolding slot_fits
  opened_fits h =
      let (t, a, b) = length_fields in
      let n : length key.text / 256 * 256 + length key.text % 256 ≤ 290 = omega arith in
      rw (opened_open, t, a, b, le-leb _ _ n, le-leb _ _ h)

-- ---- a part changes no length field

module _ (slot : List ℕ) (size : length slot ≡ 2356) (n : ℕ) (low : 1 ≤ n) (high : n ≤ 8) (p : Part) (few : length p.octets ≤ 255) where
  pub with_fits : slot_fits (with_part n p slot) ≡ slot_fits slot
  unfolding slot_fits
  with_fits =
      let other = other_octet slot size n low high p few in
      rw (still_open slot size n low high p few, other 10 (omega arith) (λ e. omega arith), other 16 (omega arith) (λ e. omega arith), other 17 (omega arith) (λ e. omega arith))

-- ---- a slot closed

module _ (slot : List ℕ) (size : length slot ≡ 2356) where
  pub length_closed : length (closed slot) ≡ 2356
  length_closed = length-set slot 0 0 ∙ size

  pub closed_closed : is_open (closed slot) ≡ false
  closed_closed = rw (get_or-set_same slot 0 0 0 (omega arith))

  pub closed_fits : slot_fits (closed slot) ≡ true
  unfolding slot_fits
  closed_fits = rw closed_closed

-- ---- the same part

-- a slot that holds a number with the part's UDL and data, and only such a one
module _ (slot : List ℕ) (n : ℕ) (p : Part) (held : is_held n slot ≡ true) (own : length p.octets ≡ data_octets (coding_of (coding_in slot)) p.udl) where
  pub same_held : begins (p.udl ∷ p.octets) (block n slot) ≡ true → holding n slot ≡ some p
  unfolding holding part_of
  same_held e =
      let t : take (suc (length p.octets)) (block n slot) ≡ p.udl ∷ p.octets = begins_is (p.udl ∷ p.octets) (block n slot) e in
      rw held (ap some (same_part (block n slot) t))
    where
      same_part : (b : List ℕ) → take (suc (length p.octets)) b ≡ p.udl ∷ p.octets → part_of (coding_in slot) b ≡ p
      same_part [] e = let z : ◌≡◌ {A = ℕ} 0 (suc (length p.octets)) = ap length e in absurd (omega arith)
      same_part (x ∷ b) e =
          let u : x ≡ p.udl = ap (λ (l : List ℕ). get_or l 0 0) e in
          let d : take (length p.octets) b ≡ p.octets = ap (drop 1) e in
          let d' : take (data_octets (coding_of (coding_in slot)) x) b ≡ p.octets = ap (λ (k : ℕ). take k b) (ap (data_octets (coding_of (coding_in slot))) u ∙ sym own) ∙ d in
          λ i. record { udl = u i; octets = d' i }

  pub held_same : 0 < length (block n slot) → holding n slot ≡ some p → begins (p.udl ∷ p.octets) (block n slot) ≡ true
  unfolding holding part_of
  held_same some-octets e =
      let is : some (part_of (coding_in slot) (block n slot)) ≡ some p = rw held at e in
      let part_is : part_of (coding_in slot) (block n slot) ≡ p = cc in
      is_begins (p.udl ∷ p.octets) (block n slot) (by_block (block n slot) some-octets part_is)
    where
      by_block : (b : List ℕ) → 0 < length b → part_of (coding_in slot) b ≡ p → take (suc (length p.octets)) b ≡ p.udl ∷ p.octets
      by_block [] h e = absurd (omega arith)
      by_block (x ∷ b) h e =
          let u : x ≡ p.udl = ap (λ (q : Part). q.udl) e in
          let d : take (data_octets (coding_of (coding_in slot)) x) b ≡ p.octets = ap (λ (q : Part). q.octets) e in
          let n : length p.octets ≡ data_octets (coding_of (coding_in slot)) x = own ∙ ap (data_octets (coding_of (coding_in slot))) (sym u) in
          ap₂ (λ (a : ℕ) (l : List ℕ). a ∷ l) u (ap (λ (k : ℕ). take k b) n ∙ d)

pub held_not_none : (n : ℕ) (slot : List ℕ) → is_held n slot ≡ true → holding n slot ≡ none → ⊥
unfolding holding
held_not_none n slot h e =
    let q : some (part_of (coding_in slot) (block n slot)) ≡ none = rw h at e in
    let z : ◌≡◌ {A = ℕ} 0 1 = cc in absurd (omega arith)
