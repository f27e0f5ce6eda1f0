-- The laws of a format: its reader takes what it generates and nothing else, the string alone tells its fields, and equal canonical octets give equal records.
-- Assumes nothing.
use Prim.Native.Nat.{ℕ, ◌+◌, ◌≤◌, ◌<◌}
use mathlib.Core.Path.{◌≡◌, refl, sym, ap, ◌∙◌}
use mathlib.Core.Bool.{true, false, false≢true}
use mathlib.Core.List.{List, [], ◌∷◌, cons≢nil}
use mathlib.Core.Logic.{inl, inr, ⊎_elim}
use native.Mathlib.Omega.{arith}
use borrow.Author.Tests.{leb-true, le-leb, lt-leb}
use lib.Dec.{leb}
use lib.ListN.{length, drop, length-append, length-drop, take-append-drop}
use lib.Seq.{length-take-le, take_at, drop_at}
use Rattle.octets.specs.Each.{Octets}
use Rattle.octets.specs.declared.Refusal.{Refusal}
use Rattle.octets.specs.declared.Refusal.TheVariants.{OctetsEnd}
use Rattle.octets.proofs.Choice.{chosen}
use Rattle.octets.proofs.Each.{octets_take, octets_drop}
use Rattle.layout.specs.Layout.{Kind, indicator, size, cut, behind, canon, Field, stands_as, joined, Format, field, require, end_or, done, Begins, Generates, Reached, reached, halted, after, reading, read_from, fields_of, Layout, plain, stopping, stops, read}
use Rattle.layout.proofs.Fields.{own, cut_whole, indicator_positive, canon_short, told}

-- ---- reading behind a field

never : {R : Type 0} {r : R} {n : ℕ} {why : Refusal} → halted why ≡ reached r n → ⊥
never e = let z : ◌≡◌ {A = ℕ} 0 1 = cc in omega arith

module _ {R : Type 0} (go : List ℕ → List ℕ → ℕ → Reached R) (k : Kind) (s : List ℕ) (at : ℕ) where
  pub goes_on : size k s ≤ length s → after k go s at ≡ go (canon k (cut k s)) (behind k s) (at + size k s)
  unfolding after
  goes_on h = rw (le-leb _ _ h)

  pub ends : length s < size k s → after k go s at ≡ halted OctetsEnd
  unfolding after
  ends h = rw (lt-leb _ _ h)

  went_on : {r : R} {n : ℕ} → after k go s at ≡ reached r n → (size k s ≤ length s) × (go (canon k (cut k s)) (behind k s) (at + size k s) ≡ reached r n)
  unfolding after
  went_on e = ⊎_elim (λ w. (leb-true _ _ w.0, w.1)) (λ w. absurd (never w.1)) (chosen (leb (size k s) (length s)) e)

-- ---- what holds of every string that a reader takes, field by field

pub record Taking {ℓ} {R : Type 0} (r : R) (n : ℕ) (Q : Format R → List ℕ → ℕ → Type ℓ) : Type ℓ where
  pub by_field : (k : Kind) (next : List ℕ → Format R) (s : List ℕ) (at : ℕ) → size k s ≤ length s → Q (next (canon k (cut k s))) (behind k s) (at + size k s) → Q (field k next) s at
  pub by_require : (why : Refusal) (format : Format R) (s : List ℕ) (at : ℕ) → Q format s at → Q (require why true format) s at
  pub by_end : (format : Format R) (next : List ℕ → Format R) (at : ℕ) → reading format [] at ≡ reached r n → Q format [] at → Q (end_or format next) [] at
  pub by_more : (format : Format R) (next : List ℕ → Format R) (x : ℕ) (s : List ℕ) (at : ℕ) → Q (field indicator next) (x ∷ s) at → Q (end_or format next) (x ∷ s) at
  pub by_done : (s : List ℕ) → Q (done r) s n

pub taken {ℓ} : {R : Type 0} {r : R} {n : ℕ} {Q : Format R → List ℕ → ℕ → Type ℓ} → Taking r n Q → (format : Format R) (s : List ℕ) (at : ℕ) → reading format s at ≡ reached r n → Q format s at
unfolding reading
taken q (field k next) s at e = let (h, m) = went_on _ k s at e in q.by_field k next s at h (taken q (next (canon k (cut k s))) (behind k s) (at + size k s) m)
taken q (require why true format) s at e = q.by_require why format s at (taken q format s at e)
taken q (require why false format) s at e = absurd (never e)
taken q (end_or format next) [] at e = q.by_end format next at e (taken q format [] at e)
taken q (end_or format next) (x ∷ s) at e =
    let (h, m) = went_on _ indicator (x ∷ s) at e in
    q.by_more format next x s at (q.by_field indicator next (x ∷ s) at h (taken q (next (canon indicator (cut indicator (x ∷ s)))) (behind indicator (x ∷ s)) (at + size indicator (x ∷ s)) m))
taken {r = r} {n} {Q} q (done p) s at e =
    let a : p ≡ r = cc in let b : at ≡ n = cc in rw (a, b) (q.by_done s)

-- ---- the reader takes what the format generates, and nothing else

pub sound : {R : Type 0} {r : R} {n : ℕ} (format : Format R) (s : List ℕ) (at : ℕ) → reading format s at ≡ reached r n → Generates format s
sound = taken {Q = λ format s at. Generates format s} (record {
  by_field = λ k next s at h g. record { front = cut k s; rest = behind k s; splits = sym (take-append-drop (size k s) s); whole = cut_whole k s h; follows = g };
  by_require = λ why format s at g. (refl, g);
  by_end = λ format next at e g. inl (refl, g);
  by_more = λ format next x s at g. inr g;
  by_done = λ s. tt;
})

-- the field that a generation begins with is the one that is cut off
module _ {k : Kind} {P : List ℕ → List ℕ → Type 0} {s : List ℕ} (g : Begins k P s) where
  size_is : size k s ≡ length g.front
  size_is = rw g.splits (own k g.front g.rest g.whole)

  front_is : cut k s ≡ g.front
  front_is = rw size_is (rw g.splits (take_at g.front g.rest _ refl))

  rest_is : behind k s ≡ g.rest
  rest_is = rw size_is (rw g.splits (drop_at g.front g.rest _ refl))

  resumes : {R : Type 0} (go : List ℕ → List ℕ → ℕ → Reached R) (at : ℕ) → after k go s at ≡ go (canon k g.front) g.rest (at + size k s)
  resumes go at = goes_on go k s at (omega (arith, size_is, ap length g.splits, length-append g.front g.rest)) ∙ cc (front_is, rest_is)

-- an indicator has an octet at least
not_empty : {P : List ℕ → List ℕ → Type 0} → Begins indicator P [] → ⊥
not_empty g = omega (arith, g.whole, indicator_positive g.front, ap length g.splits, length-append g.front g.rest)

-- the fields that a generation is made of
unfoldable pub fields_in : {R : Type 0} (format : Format R) (s : List ℕ) → Generates format s → List Field
fields_in (field k next) s g = stands_as k (canon k g.front) ∷ fields_in (next (canon k g.front)) g.rest g.follows
fields_in (require why holds format) s g = fields_in format s g.1
fields_in (end_or format next) s (inl g) = fields_in format [] g.1
fields_in (end_or format next) s (inr g) = stands_as indicator (canon indicator g.front) ∷ fields_in (next (canon indicator g.front)) g.rest g.follows
fields_in (done r) s g = []

generated : {R : Type 0} (format : Format R) (s : List ℕ) (at : ℕ) (g : Generates format s) → (r : R) × (n : ℕ) × (reading format s at ≡ reached r n) × (fields_of format s ≡ fields_in format s g)
unfolding reading fields_of fields_in
generated (field k next) s at g =
    let (r, n, e, u) = generated (next (canon k g.front)) g.rest (at + size k s) g.follows in
    (r, n, resumes g _ at ∙ e, rw (front_is g, rest_is g, u))
generated (require why true format) s at g = generated format s at g.1
generated (require why false format) s at g = absurd (false≢true g.0)
generated (end_or format next) [] at (inl g) = generated format [] at g.1
generated (end_or format next) [] at (inr g) = absurd (not_empty g)
generated (end_or format next) (x ∷ s) at (inl g) = absurd (cons≢nil g.0)
generated (end_or format next) (x ∷ s) at (inr g) =
    let (r, n, e, u) = generated (next (canon indicator g.front)) g.rest (at + size indicator (x ∷ s)) g.follows in
    (r, n, resumes g _ at ∙ e, rw (front_is g, rest_is g, u))
generated (done q) s at g = (q, at, refl, refl)

pub complete : {R : Type 0} (format : Format R) (s : List ℕ) (at : ℕ) → Generates format s → (r : R) × (n : ℕ) × (reading format s at ≡ reached r n)
complete format s at g = let (r, n, e, u) = generated format s at g in (r, n, e)

-- so the string alone tells its fields
pub unique : {R : Type 0} (format : Format R) (s : List ℕ) (g : Generates format s) → fields_of format s ≡ fields_in format s g
unique format s g = (generated format s 0 g).3

-- ---- the place that is reached: not behind the string's end, and behind as many octets as the canonical ones at least

module _ {R : Type 0} {r : R} {n : ℕ} (format : Format R) (s : List ℕ) (at : ℕ) (e : reading format s at ≡ reached r n) where
  bounds : (n ≤ at + length s) × (Octets s → at + length (joined (fields_of format s)) ≤ n)
  unfolding fields_of
  bounds = taken {Q = λ format s at. (n ≤ at + length s) × (Octets s → at + length (joined (fields_of format s)) ≤ n)} (record {
    by_field = λ k next s at h m.
        let l = length-take-le (size k s) s h in (
          omega (arith, m.0, length-drop (size k s) s),
          λ o. simp length-append (omega (arith, m.1 (octets_drop (size k s) s o), canon_short (cut k s) (octets_take (size k s) s o) k (cut_whole k s h))),
        );
    by_require = λ why format s at m. m;
    by_end = λ format next at e m. m;
    by_more = λ format next x s at m. m;
    by_done = λ s. (omega arith, λ o. omega arith);
  }) format s at e

  pub within : n ≤ at + length s
  within = bounds.0

  pub canonical_short : Octets s → at + length (joined (fields_of format s)) ≤ n
  canonical_short = bounds.1

-- ---- equal canonical octets give equal records

-- where the string ends there are none
at_end : {R : Type 0} {r : R} {n : ℕ} (format : Format R) (at : ℕ) → reading format [] at ≡ reached r n → length (joined (fields_of format [])) ≡ 0
at_end format at e = omega (arith, within format [] at e, canonical_short format [] at e (λ i. omega arith))

pub same : {R : Type 0} {r q : R} {n m : ℕ} (format : Format R) (s t : List ℕ) (a b : ℕ) → Octets s → Octets t
    → reading format s a ≡ reached r n → reading format t b ≡ reached q m → joined (fields_of format s) ≡ joined (fields_of format t) → r ≡ q
unfolding reading fields_of
same {r = r} {q} {m = m} format s t a b os ot d e c =
    taken {Q = λ format s a. (t : List ℕ) (b : ℕ) → Octets s → Octets t → reading format t b ≡ reached q m → joined (fields_of format s) ≡ joined (fields_of format t) → r ≡ q} (record {
      by_field = λ k next s a h also t b os ot e c.
          let (j, f) = went_on _ k t b e in
          let (v, w) = told (cut k s) (cut k t) (octets_take (size k s) s os) (octets_take (size k t) t ot) k _ _ (cut_whole k s h) (cut_whole k t j) c in
          also (behind k t) (b + size k t) (octets_drop (size k s) s os) (octets_drop (size k t) t ot) (rw (← v) at f) (rw (← v) at w);
      by_require = λ why format s a also. also;
      by_end = λ format next a d also. elim [ [] ↦ also [] | y ∷ t ↦ λ b os ot e c. absurd (omega (arith, at_end format a d, ap length c)) ];
      by_more = λ format next x s a also. elim [ [] ↦ λ b os ot e c. absurd (omega (arith, at_end format b e, ap length c)) | y ∷ t ↦ also (y ∷ t) ];
      by_done = λ s t b os ot e c. cc;
    }) format s a d t b os ot e c

-- ---- the reader from a place of a string on, and of a layout, comes no further than the string's end

pub within_from : {R : Type 0} {r : R} {n : ℕ} (format : Format R) (s : List ℕ) (at : ℕ) → at ≤ length s → read_from format s at ≡ reached r n → n ≤ length s
unfolding read_from
within_from format s at h e = omega (arith, within format (drop at s) at e, length-drop at s)

pub within_read : {R : Type 0} {r : R} {n : ℕ} (l : Layout R) (s : List ℕ) → read l s ≡ reached r n → n ≤ length s
unfolding read stops
within_read (plain format) s e = within_from format s 0 (omega arith) e
within_read (stopping mti stands z format) [] e = within_from format [] 0 (omega arith) e
within_read {r = r} {n} (stopping mti stands z format) (x ∷ s) e =
    ⊎_elim (λ w. let h : 1 ≡ n = cc in omega arith) (λ w. within_from format (x ∷ s) 0 (omega arith) w.1) (chosen (stops mti (x ∷ s)) e)
