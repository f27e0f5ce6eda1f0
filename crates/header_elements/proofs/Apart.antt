-- Octets taken apart: which elements they have.
-- Assumes nothing.
use Rattle.std.specs.Prelude.{Ok, Err}
use Prim.Native.Nat.{ℕ, zero, suc, ◌+◌, ◌≤◌, ◌<◌}
use mathlib.Core.Path.{◌≡◌, refl, sym, ap, ◌∙◌}
use mathlib.Core.List.{List, [], ◌∷◌, ◌++◌}
use mathlib.Core.Logic.{◌↔◌, ◌⊎◌, inl, inr, ⊎_elim}
use native.Mathlib.Omega.{arith}
use borrow.Author.Tests.{leb-true, le-leb, lt-leb, ltb-true, ltb-false, le-ltb}
use lib.Dec.{leb, ltb}
use lib.ListN.{length, get_or, take, drop, length-append, take-append-drop}
use lib.Seq.{length-take-le, drop-append_seam, take-append_seam}
use Rattle.octets.specs.Answers.{Said}
use Rattle.octets.specs.declared.Refusal.{Refusal}
use Rattle.octets.specs.declared.Refusal.TheVariants.{HeaderNotWhole, ElementPassesHeader}
use Rattle.octets.proofs.Checks.{never}
use Rattle.octets.proofs.Choice.{chosen}
use Rattle.octets.proofs.Places.{given}
use Rattle.user_data_header.specs.Header.{header_octets}
use Rattle.header_elements.specs.Elements.{Element, element, joined, header_of, before, elements_after, elements_of, after_first, elements_in}

-- ---- the walk, step by step

-- octets that are skipped are not looked at
skip : (n : ℕ) (s : List ℕ) → elements_after n s ≡ elements_of (drop n s)
unfolding elements_after
skip zero s = refl
skip (suc n) [] = refl
skip (suc n) (x ∷ s) = skip n s

-- an element that is there, and the others
one_more : (i n : ℕ) (s : List ℕ) → n ≤ length s → elements_of (i ∷ n ∷ s) ≡ before (element i (take n s)) (elements_of (drop n s))
unfolding elements_after
one_more i n s h = rw (le-leb n (length s) h) (ap (before (element i (take n s))) (skip n s))

pub one_then : (i : ℕ) (v after : List ℕ) → elements_of (i ∷ length v ∷ v ++ after) ≡ before (element i v) (elements_of after)
one_then i v after =
    one_more i (length v) (v ++ after) (rw length-append (omega arith))
    ∙ rw (take-append_seam v after, drop-append_seam v after)

-- a lone identifier octet is left
pub lone : (s : List ℕ) → length s < 2 → 0 < length s → elements_of s ≡ Err ElementPassesHeader
unfolding elements_after
lone [] h l = absurd (omega arith)
lone (i ∷ []) h l = refl
lone (i ∷ n ∷ s) h l = absurd (omega arith)

-- an element passes the end
pub passes : (s : List ℕ) → 2 ≤ length s → length s < 2 + get_or s 1 0 → elements_of s ≡ Err ElementPassesHeader
unfolding elements_after
passes [] l h = absurd (omega arith)
passes (i ∷ []) l h = absurd (omega arith)
passes (i ∷ n ∷ s) l h = rw (lt-leb n (length s) (omega arith))

-- ---- octets are their elements, one after the other

-- the elements are read from their octets
pub joined_reads : (es : List Element) → elements_of (joined es) ≡ Ok es
unfolding joined elements_after
joined_reads [] = refl
joined_reads (e ∷ es) = one_then e.identifier e.value (joined es) ∙ rw (joined_reads es)

before_given : {e : Element} {es : List Element} (others : Said (List Element)) → before e others ≡ Ok es → (fs : List Element) × (others ≡ Ok fs) × (es ≡ e ∷ fs)
before_given (Ok fs) q = (fs, refl, sym (given q))
before_given (Err why) q = absurd (never (sym q))

-- the octets that are read are those of the elements
joined_back : (s : List ℕ) (n : ℕ) (es : List Element) → elements_after n s ≡ Ok es → joined es ≡ drop n s
unfolding joined elements_after
joined_back [] zero es e = rw (← given e)
joined_back [] (suc n) es e = rw (← given e)
joined_back (i ∷ []) zero es e = absurd (never (sym e))
joined_back (i ∷ n ∷ s) zero es e =
    ⊎_elim (λ (t, q). let (fs, p, is) = before_given (elements_after (suc n) (n ∷ s)) q in rw (is, joined_back (n ∷ s) (suc n) fs p, length-take-le n s (leb-true _ _ t), take-append-drop n s))
    (λ (t, q). absurd (never (sym q)))
    (chosen (leb n (length s)) e)
joined_back (x ∷ s) (suc n) es e = joined_back s n es e

-- octets have these elements exactly when they are these elements, one after the other
pub elements_are : (s : List ℕ) (es : List Element) → (elements_of s ≡ Ok es) ↔ (joined es ≡ s)
elements_are s es = (joined_back s 0 es, λ e. rw (← e) (joined_reads es))

-- ---- a header and what follows it

-- a header of elements is read as these, whatever follows it
pub header_reads : (es : List Element) (rest : List ℕ) → elements_in (header_of es ++ rest) ≡ Ok es
unfolding elements_in header_of
header_reads es rest = rw (le-ltb (suc (length (joined es ++ rest))) (length (joined es) + 1) (rw length-append (omega arith)), take-append_seam (joined es) rest) (joined_reads es)

header_back : (s : List ℕ) (es : List Element) → elements_in s ≡ Ok es → (rest : List ℕ) × (s ≡ header_of es ++ rest)
unfolding elements_in header_of
header_back s es e =
    ⊎_elim (λ (t, q). absurd (never (sym q))) (λ (t, q). whole s (ltb-false _ _ t) ((elements_are (after_first s) es).0 q)) (chosen (ltb (length s) (header_octets s)) e)
  where
    whole : (s : List ℕ) → header_octets s ≤ length s → joined es ≡ after_first s → (rest : List ℕ) × (s ≡ length (joined es) ∷ joined es ++ rest)
    whole [] h p = absurd (omega arith)
    whole (x ∷ s) h p = (drop x s, rw (p, length-take-le x s (omega arith), take-append-drop x s))

-- a header is taken exactly when its octets after the first are elements, one after the other: it is a header of these, and something follows or nothing
pub header_is : (s : List ℕ) (es : List Element) → (elements_in s ≡ Ok es) ↔ ((rest : List ℕ) × (s ≡ header_of es ++ rest))
header_is s es = (header_back s es, λ (rest, e). rw e (header_reads es rest))

-- ---- what is refused

before_refused : (e : Element) {why : Refusal} (others : Said (List Element)) → before e others ≡ Err why → others ≡ Err why
before_refused e (Ok es) q = absurd (never q)
before_refused e (Err w) q = q

-- octets that are no elements: 24
passes_only : (s : List ℕ) (n : ℕ) (why : Refusal) → elements_after n s ≡ Err why → ElementPassesHeader ≡ why
unfolding elements_after
passes_only [] zero why e = absurd (never e)
passes_only [] (suc n) why e = absurd (never e)
passes_only (i ∷ []) zero why e = cc
passes_only (i ∷ n ∷ s) zero why e = ⊎_elim (λ (t, q). passes_only (n ∷ s) (suc n) why (before_refused (element i (take n s)) (elements_after (suc n) (n ∷ s)) q)) (λ (t, q). cc) (chosen (leb n (length s)) e)
passes_only (x ∷ s) (suc n) why e = passes_only s n why e

-- a header is refused with 17 where it is longer than the data, and else with 24
pub refused_with : (s : List ℕ) (why : Refusal) → elements_in s ≡ Err why → ((length s < header_octets s) × (HeaderNotWhole ≡ why)) ⊎ ((header_octets s ≤ length s) × (ElementPassesHeader ≡ why))
unfolding elements_in
refused_with s why e = ⊎_elim (λ (t, q). inl (ltb-true _ _ t, (cc))) (λ (t, q). inr (ltb-false _ _ t, passes_only (after_first s) 0 why q)) (chosen (ltb (length s) (header_octets s)) e)
