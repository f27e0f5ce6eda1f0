-- Stretches of a list that is stored to, and a stretch that is replaced by another as long.
-- Assumes nothing.
use Prim.Native.Nat.{ℕ, zero, suc, ◌+◌, ◌*◌, ◌≤◌, ◌<◌}
use mathlib.Core.Path.{◌≡◌, refl, sym, ap, ◌∙◌}
use mathlib.Core.List.{List, [], ◌∷◌, ◌++◌, append_assoc}
use native.Mathlib.Nat.{le_refl}
use native.Mathlib.Omega.{arith}
use lib.ListN.{length, get_or, set, take, drop, length-append, length-drop}
use lib.Seq.{sets, sets-eq, length-take-le, take_at, drop_at, take-append-le, drop-append-le, drop-append-add, take-take, drop-drop, take-set-le, drop-set-lt, get_or-set_other}

-- ---- a run of stores changes nothing before or after it

take_sets : (vs l : List ℕ) (n i : ℕ) → n ≤ i → take n (sets l i vs) ≡ take n l
take_sets [] l n i h = refl
take_sets (v ∷ vs) l n i h = take_sets vs (set l i v) n (suc i) (omega arith) ∙ take-set-le n l i v h

drop_sets : (vs l : List ℕ) (n i : ℕ) → i + length vs ≤ n → drop n (sets l i vs) ≡ drop n l
drop_sets [] l n i h = refl
drop_sets (v ∷ vs) l n i h = drop_sets vs (set l i v) n (suc i) (omega arith) ∙ drop-set-lt n l i v (omega arith)

-- a stretch of the first n
pub cut_of_first : (a c n : ℕ) (l : List ℕ) → a + c ≤ n → take c (drop a (take n l)) ≡ take c (drop a l)
cut_of_first zero c n l h = take-take c n l (omega arith)
cut_of_first (suc a) c zero l h = absurd (omega arith)
cut_of_first (suc a) c (suc n) [] h = refl
cut_of_first (suc a) c (suc n) (x ∷ l) h = cut_of_first a c n l (omega arith)

pub cut_before : (vs l : List ℕ) (a c i : ℕ) → a + c ≤ i → take c (drop a (sets l i vs)) ≡ take c (drop a l)
cut_before vs l a c i h = sym (cut_of_first a c i (sets l i vs) h) ∙ ap (λ (x : List ℕ). take c (drop a x)) (take_sets vs l i i (le_refl i)) ∙ cut_of_first a c i l h

pub cut_after : (vs l : List ℕ) (a c i : ℕ) → i + length vs ≤ a → take c (drop a (sets l i vs)) ≡ take c (drop a l)
cut_after vs l a c i h = ap (take c) (drop_sets vs l a i h)

pub get_d_before : (vs l : List ℕ) (i j d : ℕ) → j < i → get_or (sets l i vs) j d ≡ get_or l j d
get_d_before [] l i j d h = refl
get_d_before (v ∷ vs) l i j d h = get_d_before vs (set l i v) (suc i) j d (omega arith) ∙ get_or-set_other l i j v d (λ e. omega arith)

-- what stands from there on
pub drop_there : (vs l : List ℕ) (i : ℕ) → i + length vs ≤ length l → drop i (sets l i vs) ≡ vs ++ drop (i + length vs) l
drop_there vs l i h = ap (drop i) (sets-eq vs l i h ∙ append_assoc (take i l) vs (drop (i + length vs) l)) ∙ drop_at (take i l) _ i (length-take-le i l (omega arith))

-- ---- one is replaced by another as long

module _ (S : ℕ) (store slot : List ℕ) (k : ℕ) (size : length slot ≡ S) (room : k * S + S ≤ length store) where
  abbrev replaced : List ℕ
  replaced = take (k * S) store ++ (slot ++ drop S (drop (k * S) store))

  front : length (take (k * S) store) ≡ k * S
  front = length-take-le (k * S) store (omega arith)

  pub length_replaced : length replaced ≡ length store
  length_replaced = rw (length-append (take (k * S) store) (slot ++ drop S (drop (k * S) store)), front, length-append slot (drop S (drop (k * S) store)), length-drop S (drop (k * S) store), length-drop (k * S) store, size) (omega arith)

  pub same_slot : take S (drop (k * S) replaced) ≡ slot
  same_slot = ap (take S) (drop_at (take (k * S) store) _ (k * S) front) ∙ take_at slot _ S size

  pub slot_before : (a : ℕ) → a + S ≤ k * S → take S (drop a replaced) ≡ take S (drop a store)
  slot_before a h =
      ap (take S) (drop-append-le a (take (k * S) store) _ (rw front (omega arith)))
      ∙ take-append-le S (drop a (take (k * S) store)) _ (rw (length-drop a (take (k * S) store), front) (omega arith))
      ∙ cut_of_first a S (k * S) store h

  pub slot_after : (d : ℕ) → take S (drop (k * S + S + d) replaced) ≡ take S (drop (k * S + S + d) store)
  slot_after d =
      let e : k * S + S + d ≡ length (take (k * S) store) + (length slot + d) = rw (front, size) (omega arith) in
      let again : k * S + (S + d) ≡ k * S + S + d = omega arith in
      ap (take S)
      (ap (λ (n : ℕ). drop n replaced) e ∙ drop-append-add (take (k * S) store) _ (length slot + d) ∙ drop-append-add slot _ d ∙ drop-drop d S (drop (k * S) store) ∙ drop-drop (S + d) (k * S) store
      ∙ ap (λ (n : ℕ). drop n store) again)
