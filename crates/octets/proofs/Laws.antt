-- Arrays that are filled in order, and lent buffers.
-- Assumes nothing.
use Rattle.std.specs.Prelude.{Ok, Err}
use Prim.Native.Nat.{ℕ, zero, suc, ◌+◌, ◌-◌, ◌<◌, ◌≤◌}
use mathlib.Core.Path.{◌≡◌, refl, sym, ap, ◌∙◌}
use mathlib.Core.List.{List, [], ◌∷◌, ◌++◌, append-nil, append_assoc}
use native.Mathlib.Omega.{arith}
use native.Mathlib.Nat.{add-zero, zero-add, sub-zero, zero-sub, suc-sub-suc, add-suc, suc-add}
use borrow.Author.Tests.{le-leb, lt-leb, leb-true, leb-false}
use mathlib.Core.Bool.{Bool, true, false}
use lib.Dec.{leb}
use borrow.Rule.Slice.PartMut.{put_mid}
use lib.ListN.{length, take, drop, set, replicate, length-append, length-replicate, length-drop, drop_of_length-le}
use lib.Seq.{drop-drop, sets, sets-eq, length-sets, length-take-le, take_at, take_all, set-set}
use Rattle.octets.specs.Answers.{Said}
use Rattle.octets.specs.declared.Refusal.{Refusal}
use Rattle.octets.specs.declared.Refusal.TheVariants.{OutputTooShort}
use Rattle.octets.specs.Arrays.{pad, cleared_array}
use Rattle.octets.specs.Lent.{Making, refused, made, lend, Wrote}

-- ---- storing one list after the other

pub sets_append : (xs ys l : List ℕ) (i : ℕ) → sets (sets l i xs) (i + length xs) ys ≡ sets l i (xs ++ ys)
sets_append [] ys l i = rw add-zero
sets_append (x ∷ xs) ys l i = rw (add-suc, ← suc-add) (sets_append xs ys (set l i x) (suc i))

drop_zeros : (k n : ℕ) → drop {A = ℕ} k (replicate n 0) ≡ replicate (n - k) 0
drop_zeros zero n = rw sub-zero
drop_zeros (suc k) zero = rw zero-sub
drop_zeros (suc k) (suc n) = rw suc-sub-suc (drop_zeros k n)

-- from the start of a buffer that is long enough
pub sets_start : (xs l : List ℕ) → length xs ≤ length l → sets l 0 xs ≡ xs ++ drop (length xs) l
sets_start xs l h = let e : 0 + length xs ≤ length l = rw zero-add h in sets-eq xs l 0 e ∙ rw zero-add

-- over the whole of a list
pub sets_full : (xs l : List ℕ) → length xs ≡ length l → sets l 0 xs ≡ xs
sets_full xs l e = sets_start xs l (omega arith) ∙ rw (drop_of_length-le l {i = length xs} (omega arith)) (append-nil xs)

-- from the start of an array of zeros
pub sets_zeros : (n : ℕ) (xs : List ℕ) → length xs ≤ n → sets (replicate n 0) 0 xs ≡ pad n xs
unfolding pad
sets_zeros n xs h = sets_start xs (replicate n 0) (rw length-replicate h) ∙ rw drop_zeros

-- a full array has no zeros at its end
pub pad_full : (n : ℕ) (xs : List ℕ) → length xs ≡ n → pad n xs ≡ xs
unfolding pad
pad_full n xs e = let z : n - length xs ≡ 0 = omega arith in rw z (append-nil xs)

-- what lies before the length of a padded array
pub take_pad : (n : ℕ) (xs : List ℕ) → take (length xs) (pad n xs) ≡ xs
unfolding pad
take_pad n xs = take_at xs _ (length xs) refl

-- a reader leaves an array cleared
pub cleared_pad : (n : ℕ) (xs : List ℕ) → cleared_array n (length xs) (pad n xs) ≡ pad n xs
cleared_pad n xs = ap (pad n) (take_pad n xs)

-- a cleared array holds what the array held
pub take_cleared : (n k : ℕ) (xs : List ℕ) → length xs ≡ n → take k (cleared_array n k xs) ≡ take k xs
take_cleared n k xs e = by (leb k n) refl
  where
    by : (b : Bool) → leb k n ≡ b → take k (cleared_array n k xs) ≡ take k xs
    by true h =
        let size : length (take k xs) ≡ k = length-take-le k xs (omega (arith, leb-true k n h)) in
        ap (λ m. take m (cleared_array n k xs)) (sym size) ∙ take_pad n (take k xs)
    by false h =
        let all : take k xs ≡ xs = take_all k xs (omega (arith, leb-false k n h)) in
        rw (all, pad_full n xs e) all

-- ---- a stretch of a string, as the code cuts it out

module _ (at n : ℕ) (s : List ℕ) where
  pub part_is : take (at + n - at) (drop at s) ≡ take n (drop at s)
  part_is = let e : at + n - at ≡ n = omega arith in rw e

  pub part_size : at + n ≤ length s → length (take n (drop at s)) ≡ n
  part_size h = length-take-le n (drop at s) (rw length-drop (omega arith))

-- ---- storing piece by piece: with `rest` stored from `at` on, the list is `whole`, and the place behind is `end`

pub record Left (whole : List ℕ) (end : ℕ) (l : List ℕ) (at : ℕ) (rest : List ℕ) : Type 0 where
  pub place : at + length rest ≡ end
  pub list : sets l at rest ≡ whole

pub left_start : (l : List ℕ) (at : ℕ) (xs : List ℕ) → Left (sets l at xs) (at + length xs) l at xs
left_start l at xs = record { place = refl; list = refl }

pub left_step : {whole : List ℕ} {end : ℕ} {l : List ℕ} {at : ℕ} {rest xs : List ℕ} {next : ℕ} {after : List ℕ} (rest' : List ℕ)
    → Left whole end l at rest → Wrote at xs l next after → rest ≡ xs ++ rest' → Left whole end after next rest'
left_step {l = l} {at} {rest} {xs} rest' left wrote e = record {
  place = rw wrote.place (omega (arith, left.place, simp length-append at (ap length e)));
  list = rw (wrote.place, wrote.list, sets_append xs rest' l at, ← e) left.list;
}

-- and one element more, over which what is left is stored
pub left_over : {whole : List ℕ} {end : ℕ} {l : List ℕ} {at : ℕ} {rest : List ℕ} {next : ℕ} {after : List ℕ} (xs rest' : List ℕ) (y : ℕ)
    → Left whole end l at rest → Wrote at (xs ++ y ∷ []) l next after → rest ≡ xs ++ rest' → 0 < length rest' → Left whole end after (at + length xs) rest'
left_over xs [] y left wrote e h = absurd (omega (arith, h))
left_over {l = l} {at} xs (z ∷ zs) y left wrote e h =
    let one : Wrote at xs l (at + length xs) (sets l at xs) = record { place = refl; list = refl } in
    let step = left_step (z ∷ zs) left one e in
    let over : sets (sets l at (xs ++ y ∷ [])) (at + length xs) (z ∷ zs) ≡ sets (sets l at xs) (at + length xs) (z ∷ zs) = rw (← sets_append xs (y ∷ []) l at, set-set) in
    record { place = step.place; list = rw wrote.list (over ∙ step.list) }

-- what is stored next fits where the whole does
pub left_fits : {whole : List ℕ} {end : ℕ} {l : List ℕ} {at : ℕ} {rest : List ℕ} (xs more : List ℕ) → Left whole end l at rest → rest ≡ xs ++ more → {n : ℕ} → end ≤ n → at + length xs ≤ n
left_fits xs more left e h = omega (arith, left.place, simp length-append at (ap length e))

pub left_end : {whole : List ℕ} {end : ℕ} {l : List ℕ} {at : ℕ} {rest : List ℕ} → Left whole end l at rest → rest ≡ [] → (at ≡ end) × (l ≡ whole)
left_end {l = l} {at} left e = (sym (add-zero at) ∙ rw e at left.place, rw e at left.list)

-- one octet stored
pub wrote_one : (at x : ℕ) (l : List ℕ) → Wrote at (x ∷ []) l (at + 1) (set l at x)
wrote_one at x l = record { place = refl; list = refl }

-- ---- parts of a writer, one after the other

pub wrote_then : {at mid next : ℕ} {xs ys l m n : List ℕ} → Wrote at xs l mid m → Wrote mid ys m next n → Wrote at (xs ++ ys) l next n
wrote_then {at} {mid} {next} {xs} {ys} {l} first second = record {
  place = second.place ∙ rw (first.place, length-append) (omega arith);
  list = second.list ∙ rw (first.list, first.place, sets_append xs ys l at);
}

-- a chain of them from the start: what is written, the place reached, and that the buffer keeps its length
pub record Chain (l xs : List ℕ) (n at : ℕ) (after : List ℕ) : Type 0 where
  pub is : Wrote 0 xs l at after
  pub place : at ≡ n
  pub kept : length after ≡ length l

-- the buffer keeps its length
pub kept_by : {at next : ℕ} {xs l after : List ℕ} → Wrote at xs l next after → length after ≡ length l
kept_by {at} {xs = xs} {l} w = ap length w.list ∙ length-sets l at xs

pub chain_start : {xs l after : List ℕ} {at : ℕ} → Wrote 0 xs l at after → Chain l xs (length xs) at after
chain_start w = record { is = w; place = w.place ∙ zero-add _; kept = kept_by w }

pub chain_step : {l xs ys m after : List ℕ} {n at next : ℕ} → Chain l xs n at m → Wrote at ys m next after → Chain l (xs ++ ys) (n + length ys) next after
chain_step c w = record { is = wrote_then c.is w; place = w.place ∙ rw c.place; kept = kept_by w ∙ c.kept }

-- ---- the three ways in which a writer ends

module _ {A : Type 0} {m : Making A} (l : List ℕ) where
  pub lent_refused : (r : Refusal) → m ≡ refused r → ◌≡◌ {A = Said A × List ℕ} (Err r, l) (lend m l)
  unfolding lend
  lent_refused r e = rw e

  module _ {xs : List ℕ} {told : A} (e : m ≡ made xs told) where
    pub lent_short : length l < length xs → ◌≡◌ {A = Said A × List ℕ} (Err OutputTooShort, l) (lend m l)
    unfolding lend
    lent_short h = rw (e, lt-leb (length xs) (length l) h)

    pub lent_done : {l' : List ℕ} → length xs ≤ length l → l' ≡ sets l 0 xs → ◌≡◌ {A = Said A × List ℕ} (Ok told, l') (lend m l)
    unfolding lend
    lent_done h p = rw (e, le-leb (length xs) (length l) h, p, sets_start xs l h)

-- octets copied to a part of a list are set there
pub set_part : (at : ℕ) (l xs : List ℕ) → at + length xs ≤ length l → put_mid at (length xs) l xs ≡ sets l at xs
set_part at l xs h = rw (sets-eq xs l at h, drop-drop (length xs) at l, append_assoc)

-- the octets that a part of a writer stored
pub lent_written : {m : Making ℕ} {n : ℕ} {xs l' : List ℕ} (l : List ℕ) → m ≡ made xs (length xs) → length xs ≤ length l → Wrote 0 xs l n l' → ◌≡◌ {A = Said ℕ × List ℕ} (Ok n, l') (lend m l)
lent_written l e h w = rw (w.place, zero-add) (lent_done l e h w.list)
