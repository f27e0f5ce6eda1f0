-- The parts that each hold the most that they can are a cutting; no cutting has fewer, and of those with as many each part in turn holds the most. No other cutting is so.
-- Assumes nothing.
use Prim.Native.Nat.{ℕ, zero, suc, ◌+◌, ◌-◌, ◌*◌, ◌<◌, ◌≤◌}
use mathlib.Core.Path.{◌≡◌, refl, sym, ◌∙◌, ap, ap₂}
use mathlib.Core.Bool.{Bool, true, false}
use mathlib.Core.List.{List, [], ◌∷◌, ◌++◌}
use mathlib.Core.Option.{some}
use mathlib.Core.Logic.{◌⊎◌, inl, inr, ⊎_elim}
use native.Mathlib.Omega.{arith}
use borrow.Author.Tests.{eqb-true, eqb-false, leb-true, leb-false, ltb-true, ltb-false}
use lib.Dec.{eqb, leb, ltb}
use lib.ListN.{length, get_or, take, drop, length-append, length-take, length-drop, take-append-drop, get_or-append, get_or-eq_default}
use lib.Seq.{get_or-drop, get_or-take, drop-nil, drop-append-add, drop-append-le, drop_at, take_all, length-take-le, take_at}
use Rattle.gsm7.specs.Writing.{septets_of}
use Rattle.concatenation.specs.Cutting.{joined, Part, Parts, Cutting, AsMuch, Taken, most, cut_into, parts_of}
use Rattle.concatenation.proofs.Escapes.{Escapes, escapes_drop, text_escapes}

-- ---- the most that the first part can hold

abbrev Most : List ℕ → Type 0
Most ss = ((get_or ss 152 0 ≡ 0x1b) × (most ss ≡ 152)) ⊎ ((get_or ss 152 0 ≡ 0x1b → ⊥) × (most ss ≡ 153))

most_is : (ss : List ℕ) → Most ss
unfolding most
most_is ss = by_test (eqb (get_or ss 152 0) 0x1b) refl
  where
    by_test : (t : Bool) → eqb (get_or ss 152 0) 0x1b ≡ t → Most ss
    by_test true e = inl (eqb-true _ _ e, rw e)
    by_test false e = inr (eqb-false _ _ e, rw e)

-- an element that is not 0 is there
there : (ss : List ℕ) (i : ℕ) → get_or ss i 0 ≡ 0x1b → i < length ss
there ss i e = by_test (ltb i (length ss)) refl
  where
    by_test : (t : Bool) → ltb i (length ss) ≡ t → i < length ss
    by_test true p = ltb-true _ _ p
    by_test false p = absurd (omega (arith, sym e ∙ get_or-eq_default ss 0 (ltb-false _ _ p)))

module _ (ss : List ℕ) (w : Escapes ss) where
  last_of : (k : ℕ) → k ≤ length ss → get_or (take k ss) (length (take k ss) - 1) 0 ≡ get_or (take k ss) (k - 1) 0
  last_of k h = rw (length-take-le k ss h)

  fits : (k : ℕ) → k ≤ 153 → k ≤ length ss → (0 < k → get_or ss (k - 1) 0 ≡ 0x1b → ⊥) → Part (take k ss)
  fits zero small h n = (omega arith, λ e. omega arith)
  fits (suc k) small h n =
      let e₁ : suc k - 1 ≡ k = omega arith in (
        rw (length-take-le (suc k) ss h) small,
        λ e. n (omega arith) (rw e₁ (sym (get_or-take (suc k) ss k 0 (omega arith)) ∙ rw (length-take-le (suc k) ss h, e₁) at e)),
      )

  -- what it holds is a part
  first_part : Part (take (most ss) ss)
  first_part = ⊎_elim escape plain (most_is ss)
    where
      escape : (get_or ss 152 0 ≡ 0x1b) × (most ss ≡ 152) → Part (take (most ss) ss)
      escape m =
          let h = there ss 152 m.0 in
          rw m.1 (fits 152 (omega arith) (omega arith) (λ p e. (w 151 e).1 m.0))

      all : length ss < 153 → Part (take 153 ss)
      all h = rw (take_all 153 ss (omega arith)) (omega arith, λ e. let l = (w (length ss - 1) e).0 in omega arith)

      plain : (get_or ss 152 0 ≡ 0x1b → ⊥) × (most ss ≡ 153) → Part (take (most ss) ss)
      plain m = rw m.1 (by_length (leb 153 (length ss)) refl)
        where
          by_length : (t : Bool) → leb 153 (length ss) ≡ t → Part (take 153 ss)
          by_length true e = fits 153 (omega arith) (leb-true _ _ e) (λ p. m.0)
          by_length false e = all (leb-false _ _ e)

-- no part of the septets' start is longer
pub longest : (p rest : List ℕ) → Part p → length p ≤ most (p ++ rest)
longest p rest h = ⊎_elim escape (λ m. omega (arith, m.1, h.0)) (most_is (p ++ rest))
  where
    by_length : (t : Bool) → leb (length p) 152 ≡ t → (get_or (p ++ rest) 152 0 ≡ 0x1b) → length p ≤ 152
    by_length true e q = leb-true _ _ e
    by_length false e q =
        let l : 152 < length p = leb-false _ _ e in
        let i : length p - 1 ≡ 152 = omega arith in
        absurd (h.1 (rw i (sym (get_or-append p rest 0 152 l) ∙ q)))

    escape : (get_or (p ++ rest) 152 0 ≡ 0x1b) × (most (p ++ rest) ≡ 152) → length p ≤ most (p ++ rest)
    escape m = rw m.1 (by_length (leb (length p) 152) refl m.0)

pub most_near : (ss : List ℕ) → (152 ≤ most ss) × (most ss ≤ 153)
most_near ss = ⊎_elim (λ m. (omega (arith, m.1), omega (arith, m.1))) (λ m. (omega (arith, m.1), omega (arith, m.1))) (most_is ss)

-- ---- the parts are a cutting

pub shorter : (n : ℕ) (s : ℕ) (ss : List ℕ) → length (s ∷ ss) ≤ suc n → length (drop (most (s ∷ ss)) (s ∷ ss)) ≤ n
shorter n s ss h = rw length-drop (omega (arith, most_near (s ∷ ss)))

cut_joined : (n : ℕ) (ss : List ℕ) → length ss ≤ n → joined (cut_into n ss) ≡ ss
unfolding joined cut_into
cut_joined zero [] h = refl
cut_joined zero (s ∷ ss) h = absurd (omega arith)
cut_joined (suc n) [] h = refl
cut_joined (suc n) (s ∷ ss) h = rw (cut_joined n (drop (most (s ∷ ss)) (s ∷ ss)) (shorter n s ss h)) (take-append-drop (most (s ∷ ss)) (s ∷ ss))

cut_parts : (n : ℕ) (ss : List ℕ) → Escapes ss → Parts (cut_into n ss)
unfolding cut_into
cut_parts zero ss w = tt
cut_parts (suc n) [] w = tt
cut_parts (suc n) (s ∷ ss) w =
    (first_part (s ∷ ss) w, cut_parts n (drop (most (s ∷ ss)) (s ∷ ss)) (escapes_drop (most (s ∷ ss)) (s ∷ ss) w))

-- ---- without its first septets, a cutting has no more parts than before

part_drop : (d : ℕ) (p : List ℕ) → d < length p → Part p → Part (drop d p)
part_drop d p l h =
    let i : d + (length p - d - 1) ≡ length p - 1 = omega arith in
    (rw length-drop (omega (arith, h.0)), λ e. h.1 (rw (← i) (sym (get_or-drop d p (length p - d - 1) 0) ∙ rw length-drop at e)))

Dropped : ℕ → List (List ℕ) → Type 0
Dropped d ps = (qs : List (List ℕ)) × (joined qs ≡ drop d (joined ps)) × Parts qs × (length qs ≤ length ps)

dropped : (d : ℕ) (ps : List (List ℕ)) → Parts ps → Dropped d ps
unfolding joined Dropped
dropped d [] h = ([], sym (drop-nil d), tt, omega arith)
dropped d (p ∷ ps) h = by_length (leb (length p) d) refl (dropped (d - length p) ps h.1)
  where
    by_length : (t : Bool) → leb (length p) d ≡ t → Dropped (d - length p) ps → Dropped d (p ∷ ps)
    by_length true e r =
        let l : length p ≤ d = leb-true _ _ e in
        let i : length p + (d - length p) ≡ d = omega arith in
        (r.0, r.1 ∙ sym (drop-append-add p (joined ps) (d - length p)) ∙ rw i, r.2, omega (arith, r.3))
    by_length false e r =
        let l : d < length p = leb-false _ _ e in
        (drop d p ∷ ps, sym (drop-append-le d p (joined ps) (omega arith)), (part_drop d p l h.0, h.1), omega arith)

-- ---- so no cutting has fewer parts, and none holds more in the first part that differs

module _ (s : ℕ) (ss p : List ℕ) (ps : List (List ℕ)) (c : Cutting (s ∷ ss) (p ∷ ps)) where
  split : p ++ joined ps ≡ s ∷ ss
  unfolding joined
  split = c.whole

  under : length p ≤ most (s ∷ ss)
  under = rw split at (longest p (joined ps) c.parts.0)

  after : (k : ℕ) → length p ≤ k → drop k (s ∷ ss) ≡ drop (k - length p) (joined ps)
  after k h =
      let i : length p + (k - length p) ≡ k = omega arith in
      ap (drop k) (sym split) ∙ ap (λ (n : ℕ). drop n (p ++ joined ps)) (sym i) ∙ drop-append-add p (joined ps) (k - length p)

  -- the first part is as long as the longest: the same is left
  left : length p ≡ length (take (most (s ∷ ss)) (s ∷ ss)) → joined ps ≡ drop (most (s ∷ ss)) (s ∷ ss)
  left e =
      let k = most (s ∷ ss) in
      sym (drop_at p (joined ps) (length p) refl) ∙ ap (drop (length p)) (split ∙ sym (take-append-drop k (s ∷ ss))) ∙ drop_at (take k (s ∷ ss)) (drop k (s ∷ ss)) (length p) (sym e)

  under_first : length p ≤ length (take (most (s ∷ ss)) (s ∷ ss))
  under_first = rw length-take (omega (arith, under, simp length-append at (ap length split)))

fewest : (n : ℕ) (ss : List ℕ) → length ss ≤ n → (qs : List (List ℕ)) → Cutting ss qs → length (cut_into n ss) ≤ length qs
unfolding cut_into joined Dropped
fewest zero ss h qs c = omega arith
fewest (suc n) [] h qs c = omega arith
fewest (suc n) (s ∷ ss) h [] c = absurd (nothing c.whole)
  where
    nothing : joined [] ≡ s ∷ ss → ⊥
    nothing e = let z : ◌≡◌ {A = ℕ} 0 1 = cc in omega arith
fewest (suc n) (s ∷ ss) h (p ∷ ps) c =
    let k = most (s ∷ ss) in
    let u = under s ss p ps c in
    by (dropped (k - length p) ps c.parts.1) (λ qs. fewest n (drop k (s ∷ ss)) (shorter n s ss h) qs)
  where
    by : Dropped (most (s ∷ ss) - length p) ps → ((qs : List (List ℕ)) → Cutting (drop (most (s ∷ ss)) (s ∷ ss)) qs → length (cut_into n (drop (most (s ∷ ss)) (s ∷ ss))) ≤ length qs)
        → suc (length (cut_into n (drop (most (s ∷ ss)) (s ∷ ss)))) ≤ suc (length ps)
    by r ih = omega (arith, ih r.0 (record { whole = r.1 ∙ sym (after s ss p ps c (most (s ∷ ss)) (under s ss p ps c)); parts = r.2 }), r.3)

as_much : (n : ℕ) (ss : List ℕ) → length ss ≤ n → (qs : List (List ℕ)) → Cutting ss qs → AsMuch (cut_into n ss) qs
unfolding cut_into
as_much zero ss h qs c = tt
as_much (suc n) [] h qs c = tt
as_much (suc n) (s ∷ ss) h [] c = tt
as_much (suc n) (s ∷ ss) h (p ∷ ps) c = by_length (ltb (length p) (length (take (most (s ∷ ss)) (s ∷ ss)))) refl (λ c'. as_much n (drop (most (s ∷ ss)) (s ∷ ss)) (shorter n s ss h) ps c')
  where
    by_length : (t : Bool) → ltb (length p) (length (take (most (s ∷ ss)) (s ∷ ss))) ≡ t
        → (Cutting (drop (most (s ∷ ss)) (s ∷ ss)) ps → AsMuch (cut_into n (drop (most (s ∷ ss)) (s ∷ ss))) ps)
        → AsMuch (take (most (s ∷ ss)) (s ∷ ss) ∷ cut_into n (drop (most (s ∷ ss)) (s ∷ ss))) (p ∷ ps)
    by_length true e ih = inl (ltb-true _ _ e)
    by_length false e ih =
        let same : length p ≡ length (take (most (s ∷ ss)) (s ∷ ss)) = omega (arith, ltb-false (length p) (length (take (most (s ∷ ss)) (s ∷ ss))) e, under_first s ss p ps c) in
        inr (same, ih (record { whole = left s ss p ps c same; parts = c.parts.1 }))

-- the parts are the cutting that is taken
pub taken : (ss : List ℕ) → Escapes ss → Taken ss (parts_of ss)
taken ss w = record {
  cutting = record { whole = cut_joined (length ss) ss (omega arith); parts = cut_parts (length ss) ss w };
  fewest = fewest (length ss) ss (omega arith);
  fullest = λ qs c e. as_much (length ss) ss (omega arith) qs c;
}

pub text_taken : (text ss : List ℕ) → septets_of text ≡ some ss → Taken ss (parts_of ss)
text_taken text ss e = taken ss (text_escapes text ss e)

-- and there is no other
same_parts : (ps qs : List (List ℕ)) → length ps ≡ length qs → AsMuch ps qs → AsMuch qs ps → joined ps ≡ joined qs → ps ≡ qs
unfolding joined
same_parts [] [] l a b e = refl
same_parts [] (q ∷ qs) l a b e = absurd (omega arith)
same_parts (p ∷ ps) [] l a b e = absurd (omega arith)
same_parts (p ∷ ps) (q ∷ qs) l a b e = by (length_same a b) (λ x y z. same_parts ps qs (omega arith) x y z)
  where
    Same : Type 0
    Same = (length q ≡ length p) × AsMuch ps qs × AsMuch qs ps

    length_same : AsMuch (p ∷ ps) (q ∷ qs) → AsMuch (q ∷ qs) (p ∷ ps) → Same
    length_same (inl x) (inl y) = absurd (omega arith)
    length_same (inl x) (inr y) = absurd (omega (arith, y.0))
    length_same (inr x) (inl y) = absurd (omega (arith, x.0))
    length_same (inr x) (inr y) = (x.0, x.1, y.1)

    by : Same → (AsMuch ps qs → AsMuch qs ps → joined ps ≡ joined qs → ps ≡ qs) → ◌≡◌ {A = List (List ℕ)} (p ∷ ps) (q ∷ qs)
    by m ih =
        let heads : p ≡ q = sym (take_at p (joined ps) (length p) refl) ∙ ap (take (length p)) e ∙ take_at q (joined qs) (length p) m.0 in
        let tails : joined ps ≡ joined qs = sym (drop_at p (joined ps) (length p) refl) ∙ ap (drop (length p)) e ∙ drop_at q (joined qs) (length p) m.0 in
        ap₂ ◌∷◌ heads (ih m.1 m.2 tails)

pub taken_once : (ss : List ℕ) (ps qs : List (List ℕ)) → Taken ss ps → Taken ss qs → ps ≡ qs
taken_once ss ps qs a b =
    let l : length ps ≡ length qs = omega (arith, a.fewest qs b.cutting, b.fewest ps a.cutting) in
    same_parts ps qs l (a.fullest qs b.cutting (sym l)) (b.fullest ps a.cutting l) (a.cutting.whole ∙ sym b.cutting.whole)

-- ---- how many there are

pub none_of : (n : ℕ) → cut_into n [] ≡ []
unfolding cut_into
none_of zero = refl
none_of (suc n) = refl

few : (n : ℕ) (ss : List ℕ) → 152 * length (cut_into n ss) ≤ length ss + 152
unfolding cut_into
few zero ss = omega arith
few (suc n) [] = omega arith
few (suc n) (s ∷ ss) = by (drop (most (s ∷ ss)) (s ∷ ss)) refl (few n (drop (most (s ∷ ss)) (s ∷ ss)))
  where
    by : (rest : List ℕ) → drop (most (s ∷ ss)) (s ∷ ss) ≡ rest → 152 * length (cut_into n rest) ≤ length rest + 152 → 152 * suc (length (cut_into n rest)) ≤ length (s ∷ ss) + 152
    by [] e h = rw (none_of n) (omega arith)
    by (r ∷ rs) e h = omega (arith, most_near (s ∷ ss), sym (length-drop (most (s ∷ ss)) (s ∷ ss)) ∙ ap length e)

pub parts_few : (ss : List ℕ) → 152 * length (parts_of ss) ≤ length ss + 152
parts_few ss = few (length ss) ss
