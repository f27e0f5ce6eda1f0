-- Strings taken from the columns one after the other, and put into them.
-- Assumes nothing.
use Prim.Native.Nat.{ℕ, zero, suc, ◌+◌, ◌^◌, ◌<◌, ◌≤◌}
use mathlib.Core.Path.{◌≡◌, refl, sym, ◌∙◌, ap}
use mathlib.Core.Bool.{Bool, true, false}
use mathlib.Core.List.{List, [], ◌∷◌, ◌++◌, append-nil, append_assoc}
use mathlib.Core.Logic.{◌⊎◌, inl, inr, ⊎_elim}
use native.Mathlib.Nat.{add-zero, add-suc, suc-add, not-suc-le-zero}
use native.Mathlib.Numerals.{add-one}
use native.Mathlib.Omega.{arith}
use borrow.Author.Tests.{eqb-true, eqb-false, ltb-true, ltb-false}
use lib.Dec.{eqb, ltb}
use lib.ListN.{length, get_or, set, take, drop, length-set, length-drop, length-map, get_or-map}
use lib.Seq.{sets, length-sets, take-suc, take_all, get_or-drop, get_or-set_same, get_or-set_other, ext_get_or}
use Rattle.octets.specs.Lent.{Wrote}
use Rattle.octets.proofs.Laws.{wrote_then}
use Rattle.columns.specs.Blocks.{strings_in, joined, lengths, sum, columns, dealt}
use Rattle.columns.specs.Internal.{has, start_of, place_of, Raised, Starts, picked, scattered}
use Rattle.columns.proofs.Columns.{AtMost, length_columns, columns_dealt}
use Rattle.columns.proofs.Laws.{lengths_in}
use Rattle.columns.proofs.Places.{has_one, has_none, has_next, start_first, start_all, place_next, place_inside, place_first, place_last, at_most_at, octet_at_place, column_octet, sum_next, sum_take, starts_next}

-- ---- both ways: the string at hand lies within the octets, its places within the block

module _ (ns : List ℕ) (i : ℕ) where
  pub string_inside : sum (take i ns) + get_or ns i 0 ≤ sum ns
  string_inside = omega (arith, sum_next i ns, sum_take (suc i) ns)

  pub places_inside : {body : ℕ} {places : List ℕ} → Starts ns body i places → AtMost 255 ns → i < length ns → (k : ℕ) → k < get_or ns i 0 → get_or places k 0 < body + sum ns
  places_inside s h l k p = omega (arith, s.each k (omega (arith, at_most_at 255 ns h i)), place_inside ns i k l p)

  -- so that the places can be raised
  pub places_raised : {body : ℕ} {places : List ℕ} → Starts ns body i places → AtMost 255 ns → i < length ns → body + sum ns < 2 ^ 64 → (get_or ns i 0 ≤ 255) × ((k : ℕ) → k < get_or ns i 0 → get_or places k 0 + 1 < 2 ^ 64)
  places_raised s h l room = (at_most_at 255 ns h i, λ k p. omega (arith, room, places_inside s h l k p))

-- ---- taken from the columns

joined_next : (ss : List (List ℕ)) (i : ℕ) → i < length ss → joined (take (suc i) ss) ≡ joined (take i ss) ++ get_or ss i []
unfolding joined
joined_next [] i h = absurd (not-suc-le-zero h)
joined_next (s ∷ ss) zero h = append-nil s
joined_next (s ∷ ss) (suc i) h = rw (joined_next ss i (omega arith)) (sym (append_assoc s (joined (take i ss)) (get_or ss i [])))

-- octets that are each where a string has them are the string
picked_is : (places os s : List ℕ) (j : ℕ) → j ≤ length s → ((k : ℕ) → k < j → get_or os (get_or places k 0) 0 ≡ get_or s k 0) → picked j places os ≡ take j s
unfolding picked
picked_is places os s zero h each = refl
picked_is places os s (suc j) h each = rw (picked_is places os s j (omega arith) (λ k l. each k (omega arith)), each j (omega arith)) (sym (take-suc s j 0 (omega arith)))

module _ (ns block : List ℕ) (body : ℕ) (few : AtMost 255 ns) (whole : body + sum ns ≡ length block) where
  abbrev ss : List (List ℕ)
  ss = dealt 255 ns (drop body block)

  rest_size : length (drop body block) ≡ sum ns
  rest_size = length-drop body block ∙ omega arith

  lengths_are : lengths ss ≡ ns
  lengths_are = (columns_dealt 255 ns (drop body block) few rest_size).1

  count_is : length ss ≡ length ns
  count_is = sym (length-map ss length) ∙ ap length lengths_are

  length_is : (i : ℕ) → length (get_or ss i []) ≡ get_or ns i 0
  length_is i = sym (get_or-map length ss i []) ∙ ap (λ (l : List ℕ). get_or l i 0) lengths_are

  string_taken : (i : ℕ) (places : List ℕ) → i < length ns → Starts ns body i places → picked (get_or ns i 0) places block ≡ get_or ss i []
  string_taken i places l s = picked_is places block (get_or ss i []) (get_or ns i 0) (omega (arith, length_is i)) there ∙ take_all (get_or ns i 0) (get_or ss i []) (omega (arith, length_is i))
    where
      there : (k : ℕ) → k < get_or ns i 0 → get_or block (get_or places k 0) 0 ≡ get_or (get_or ss i []) k 0
      there k p = rw (s.each k (omega (arith, at_most_at 255 ns few i)), ← get_or-drop body block (place_of ns i k) 0) (sym (octet_at_place 255 ns (drop body block) few rest_size i k l p))

pub record Taking (block : List ℕ) (body : ℕ) (ns octets₀ places octets : List ℕ) (at i : ℕ) : Type 0 where
  pub few : AtMost 255 ns
  pub whole : body + sum ns ≡ length block
  pub room : sum ns ≤ length octets₀
  pub starts : Starts ns body i places
  pub here : at ≡ sum (take i ns)
  pub wrote : Wrote 0 (joined (take i (dealt 255 ns (drop body block)))) octets₀ at octets

pub taking_start : {ns block octets places : List ℕ} {body : ℕ} → AtMost 255 ns → body + sum ns ≡ length block → sum ns ≤ length octets → Starts ns body 0 places → Taking block body ns octets places octets 0 0
unfolding sum joined
taking_start few whole room s = record { few = few; whole = whole; room = room; starts = s; here = refl; wrote = record { place = refl; list = refl } }

module _ {ns block octets₀ places octets : List ℕ} {body at i : ℕ} (t : Taking block body ns octets₀ places octets at i) where
  pub taking_next : i < length ns → {next : ℕ} {after raised : List ℕ} → Wrote at (picked (get_or ns i 0) places block) octets next after → Raised (get_or ns i 0) places raised
      → Taking block body ns octets₀ raised after next (i + 1)
  taking_next l {next} {after} {raised} w r =
      let is = string_taken ns block body t.few t.whole i places l t.starts in
      let both : Wrote 0 (joined (take i (dealt 255 ns (drop body block))) ++ get_or (dealt 255 ns (drop body block)) i []) octets₀ next after = wrote_then t.wrote (rw is at w) in
      record {
        few = t.few;
        whole = t.whole;
        room = t.room;
        starts = rw add-one (starts_next t.starts l r);
        here = rw add-one (omega (arith, w.place, t.here, sum_next i ns, ap length is, length_is ns block body t.few t.whole i));
        wrote = rw (add-one, joined_next (dealt 255 ns (drop body block)) i (omega (arith, count_is ns block body t.few t.whole))) both;
      }

  pub taking_end : length ns ≤ i → Wrote 0 (joined (dealt 255 ns (drop body block))) octets₀ at octets
  taking_end h = rw (take_all i (dealt 255 ns (drop body block)) (omega (arith, count_is ns block body t.few t.whole))) at t.wrote

-- ---- put into the columns

-- an octet of a list over which others are stored
sets_outside : (vs l : List ℕ) (at p : ℕ) → (p < at) ⊎ (at + length vs ≤ p) → get_or (sets l at vs) p 0 ≡ get_or l p 0
sets_outside [] l at p h = refl
sets_outside (v ∷ vs) l at p h =
    sets_outside vs (set l at v) (suc at) p (⊎_elim (λ b. inl (omega arith)) (λ a. inr (omega arith)) h)
    ∙ get_or-set_other l at p v 0 (⊎_elim {C = p ≡ at → ⊥} (λ b e. omega arith) (λ a e. omega arith) h)

sets_inside : (vs l : List ℕ) (at q : ℕ) → q < length vs → at + length vs ≤ length l → get_or (sets l at vs) (at + q) 0 ≡ get_or vs q 0
sets_inside [] l at q h f = absurd (not-suc-le-zero h)
sets_inside (v ∷ vs) l at zero h f = rw add-zero (sets_outside vs (set l at v) (suc at) at (inl (omega arith)) ∙ get_or-set_same l at v 0 (omega arith))
sets_inside (v ∷ vs) l at (suc q) h f = rw (add-suc, ← suc-add) (sets_inside vs (set l at v) (suc at) q (omega arith) (rw length-set (omega arith)))

-- place p isn't in what is left of a column: of string i the first m octets are put, of those before it all
abbrev pub Put : List ℕ → ℕ → ℕ → ℕ → ℕ → Type 0
Put ns body i m p = (k : ℕ) → k < 255 → body + (place_of ns i k + has k m) ≤ p → p < body + start_of (suc k) ns → ⊥

-- what is put is as it is to be
pub record Placing (ns : List ℕ) (body : ℕ) (whole : List ℕ) (i m : ℕ) (out : List ℕ) : Type 0 where
  pub kept : length out ≡ length whole
  pub there : (p : ℕ) → Put ns body i m p → get_or out p 0 ≡ get_or whole p 0

-- one octet more
placing_octet : {ns whole out : List ℕ} {body i m place x : ℕ} → Placing ns body whole i m out → m < 255 → place ≡ body + place_of ns i m → place < length whole → x ≡ get_or whole place 0
    → Placing ns body whole i (suc m) (set out place x)
placing_octet {ns} {whole} {out} {body} {i} {m} {place} {x} s few e inside is = record { kept = length-set out place x ∙ s.kept; there = λ p put. by_place p put (eqb p place) refl }
  where
    before : (p : ℕ) → (p ≡ place → ⊥) → Put ns body i (suc m) p → Put ns body i m p
    before p other put k l a b = by_column (eqb k m) refl
      where
        by_column : (t : Bool) → eqb k m ≡ t → ⊥
        by_column true q =
            let same : k ≡ m = eqb-true k m q in
            put k l (omega (arith, ap (λ (n : ℕ). place_of ns i n) same, has_one k (suc m) (omega arith), has_none k m (omega arith), other)) b
        by_column false q = put k l (rw add-one at (rw (← has_next k m (eqb-false k m q)) at a)) b

    by_place : (p : ℕ) → Put ns body i (suc m) p → (t : Bool) → eqb p place ≡ t → get_or (set out place x) p 0 ≡ get_or whole p 0
    by_place p put true q = rw (eqb-true p place q, get_or-set_same out place x 0 (omega (arith, s.kept))) is
    by_place p put false q = get_or-set_other out place p x 0 (eqb-false p place q) ∙ s.there p (before p (eqb-false p place q) put)

module _ (ns os : List ℕ) (body : ℕ) (few : AtMost 255 ns) (enough : sum ns ≤ length os) where
  abbrev cols : List ℕ
  cols = columns 255 (strings_in ns os)

  cols_size : length cols ≡ sum ns
  cols_size =
      let en = lengths_in ns os enough in
      length_columns 255 (strings_in ns os) (rw en few) ∙ ap sum en

  -- nothing is put yet, and what is outside the columns stays
  outside : (p : ℕ) → Put ns body 0 0 p → body ≤ p → (k : ℕ) → k ≤ 255 → body + start_of k ns ≤ p
  outside p put h zero l = omega (arith, start_first ns)
  outside p put h (suc k) l = by_test (outside p put h k (omega arith)) (ltb p (body + start_of (suc k) ns)) refl
    where
      by_test : body + start_of k ns ≤ p → (t : Bool) → ltb p (body + start_of (suc k) ns) ≡ t → body + start_of (suc k) ns ≤ p
      by_test a true e = absurd (put k (omega arith) (omega (arith, place_first ns k, has_none k 0 (omega arith))) (ltb-true _ _ e))
      by_test a false e = ltb-false _ _ e

  module _ (out₀ : List ℕ) (room : body + sum ns ≤ length out₀) where
    abbrev whole : List ℕ
    whole = sets out₀ body cols

    pub placing_start : Placing ns body whole 0 0 out₀
    placing_start = record { kept = sym (length-sets out₀ body cols); there = λ p put. sym (sets_outside cols out₀ body p (where_is p put (ltb p body) refl)) }
      where
        where_is : (p : ℕ) → Put ns body 0 0 p → (t : Bool) → ltb p body ≡ t → (p < body) ⊎ (body + length cols ≤ p)
        where_is p put true e = inl (ltb-true p body e)
        where_is p put false e = inr (omega (arith, outside p put (ltb-false p body e) 255 (omega arith), start_all 255 ns few, cols_size))

    whole_at : (i k : ℕ) → i < length ns → k < get_or ns i 0 → get_or whole (body + place_of ns i k) 0 ≡ get_or os (sum (take i ns) + k) 0
    whole_at i k l p = sets_inside cols out₀ body (place_of ns i k) (omega (arith, cols_size, place_inside ns i k l p)) (omega (arith, cols_size)) ∙ column_octet 255 ns os few enough i k l p

    module _ {i : ℕ} {places : List ℕ} (l : i < length ns) (s : Starts ns body i places) where
      -- the octets of one string
      placing_octets : {out : List ℕ} → Placing ns body whole i 0 out → (m : ℕ) → m ≤ get_or ns i 0 → Placing ns body whole i m (scattered m places (drop (sum (take i ns)) os) out)
      unfolding scattered
      placing_octets p zero h = p
      placing_octets p (suc m) h =
          let under : m < 255 = omega (arith, at_most_at 255 ns few i) in
          let size = length-sets out₀ body cols in
          placing_octet (placing_octets p m (omega arith)) under (s.each m under) (omega (arith, size, s.each m under, place_inside ns i m l (omega arith)))
          (rw (get_or-drop, s.each m under) (sym (whole_at i m l (omega arith))))

      pub placing_string : {out : List ℕ} {at : ℕ} → at ≡ sum (take i ns) → Placing ns body whole i 0 out → Placing ns body whole (i + 1) 0 (scattered (get_or ns i 0) places (drop at os) out)
      placing_string {out} {at} e p =
          let all = placing_octets p (get_or ns i 0) (omega arith) in
          rw (e, add-one) (record {
            kept = all.kept;
            there = λ q put. all.there q (λ k h a b. put k h (omega (arith, place_next ns i k l, has_none k 0 (omega arith))) b);
          })

    -- all is put
    pub placing_end : {i : ℕ} {out : List ℕ} → length ns ≤ i → Placing ns body whole i 0 out → Wrote body cols out₀ (body + sum (take i ns)) out
    placing_end {i} {out} h p = record {
      place = rw (take_all i ns h, cols_size);
      list = ext_get_or 0 out whole p.kept (λ q l. p.there q (λ k f a b. omega (arith, place_last ns k i h)));
    }

pub record Putting (os ns out₀ : List ℕ) (body : ℕ) (out places : List ℕ) (at i : ℕ) : Type 0 where
  pub few : AtMost 255 ns
  pub enough : sum ns ≤ length os
  pub room : body + sum ns ≤ length out₀
  pub starts : Starts ns body i places
  pub here : at ≡ sum (take i ns)
  pub placing : Placing ns body (sets out₀ body (columns 255 (strings_in ns os))) i 0 out

pub putting_start : {os ns out places : List ℕ} {body : ℕ} → AtMost 255 ns → sum ns ≤ length os → body + sum ns ≤ length out → Starts ns body 0 places → Putting os ns out body out places 0 0
unfolding sum
putting_start {os} {ns} {out} {body = body} few enough room s =
    record { few = few; enough = enough; room = room; starts = s; here = refl; placing = placing_start ns os body few enough out room }

module _ {os ns out₀ out places : List ℕ} {body at i : ℕ} (t : Putting os ns out₀ body out places at i) where
  pub putting_next : i < length ns → {after raised : List ℕ} → after ≡ scattered (get_or ns i 0) places (drop at os) out → Raised (get_or ns i 0) places raised → Putting os ns out₀ body after raised (at + get_or ns i 0) (i + 1)
  putting_next l e r = record {
    few = t.few;
    enough = t.enough;
    room = t.room;
    starts = rw add-one (starts_next t.starts l r);
    here = rw add-one (omega (arith, t.here, sum_next i ns));
    placing = rw e (placing_string ns os body t.few t.enough out₀ t.room l t.starts t.here t.placing);
  }

  pub putting_end : length ns ≤ i → Wrote body (columns 255 (strings_in ns os)) out₀ (body + at) out
  putting_end h = rw t.here (placing_end ns os body t.few t.enough out₀ t.room h t.placing)
