-- Reading gives back what was written, and takes exactly what the writer can write.
-- Assumes nothing.
use Prim.Native.Nat.{ℕ, zero, suc, ◌≤◌}
use mathlib.Core.Path.{◌≡◌, refl, sym, ◌∙◌, ap, ap₂, subst}
use mathlib.Core.Bool.{Bool, true, false}
use mathlib.Core.List.{List, [], ◌∷◌, ◌++◌, append_assoc}
use mathlib.Core.Option.{Option, none, some}
use mathlib.Core.Logic.{◌↔◌}
use native.Mathlib.Omega.{arith}
use borrow.Author.Tests.{le-leb, leb-true, eq-eqb, eqb-true}
use lib.Dec.{leb, eqb}
use lib.ListN.{length, take, drop, length-append, length-drop, length-map}
use lib.Seq.{length-take-le, take_at, drop_at, take-add}
use Rattle.std.specs.Prelude.{if◌then◌else◌}
use Rattle.octets.specs.Each.{Octets, each}
use Rattle.octets.specs.Lent.{made}
use Rattle.octets.specs.declared.Refusal.TheVariants.{LengthTooLarge, StringsTooLarge, BlockNotWhole}
use Rattle.octets.specs.Checks.{◌unless◌}
use Rattle.octets.proofs.Choice.{and_true}
use Rattle.octets.proofs.Each.{octets_drop}
use Rattle.octets.proofs.Checks.{check_holds, no_checks, made_told, holds}
use Rattle.columns.specs.Numbers.{groups, number_at}
use Rattle.columns.specs.Blocks.{strings_in, joined, lengths, sum, allowed, columns, numbers, block, dealt, length_before, length_then, lengths_at, strings_then, count_then, strings_of}
use Rattle.columns.specs.Answers.{writing, refused_both, made_both, made_of, reading}
use Rattle.columns.proofs.Numbers.{read_groups, number_is}
use Rattle.columns.proofs.Columns.{AtMost, length_columns, dealt_columns, columns_dealt}

-- ---- what is allowed, in plain terms

each_most : (ns : List ℕ) → (each (λ n. leb n 255) ns ≡ true) ↔ AtMost 255 ns
unfolding each
each_most [] = (λ e. tt, λ h. refl)
each_most (n ∷ ns) =
    let r = each_most ns in
    (λ e. let t = and_true (leb n 255) (each (λ n. leb n 255) ns) e in (leb-true _ _ t.0, r.0 t.1), λ h. rw (le-leb n 255 h.0, r.1 h.1))

pub allowed_means : (ns : List ℕ) → (allowed ns ≡ true) ↔ ((length ns ≤ 1000) × AtMost 255 ns)
unfolding allowed
allowed_means ns = (
  λ e. let t = and_true (leb (length ns) 1000) (each (λ n. leb n 255) ns) e in (leb-true _ _ t.0, (each_most ns).0 t.1),
  λ h. rw (le-leb (length ns) 1000 h.0, (each_most ns).1 h.1),
)

-- ---- lengths are read as written, and what is read as lengths is these

read_lengths : (ns rest : List ℕ) → AtMost 255 ns → lengths_at (length ns) (numbers ns ++ rest) ≡ some (ns, rest)
unfolding lengths_at numbers
read_lengths [] rest h = refl
read_lengths (n ∷ ns) rest h = rw (append_assoc (groups n) (numbers ns) rest, read_groups n (numbers ns ++ rest), read_lengths ns rest h.1, le-leb n 255 h.0)

-- the first of several is at most 255
pub length_first : (n : ℕ) (r : Option (List ℕ × List ℕ)) (ns rest : List ℕ) → length_before n r ≡ some (ns, rest) → (others : List ℕ) × (r ≡ some (others, rest)) × (ns ≡ n ∷ others) × (n ≤ 255)
length_first n none ns rest e = let z : ◌≡◌ {A = ℕ} 0 1 = cc in absurd (omega arith)
length_first n (some (others, left)) ns rest e = by_test (leb n 255) refl e
  where
    by_test : (t : Bool) → leb n 255 ≡ t → if◌then◌else◌ {A = Option (List ℕ × List ℕ)} t (some (n ∷ others, left)) none ≡ some (ns, rest)
        → (ms : List ℕ) × (◌≡◌ {A = Option (List ℕ × List ℕ)} (some (others, left)) (some (ms, rest))) × (ns ≡ n ∷ ms) × (n ≤ 255)
    by_test false l e = let z : ◌≡◌ {A = ℕ} 0 1 = cc in absurd (omega arith)
    by_test true l e =
        let p : ◌≡◌ {A = List ℕ × List ℕ} (n ∷ others, left) (ns, rest) = cc in
        (others, ap (λ (y : List ℕ × List ℕ). some (others, y.1)) p, sym (ap (λ (y : List ℕ × List ℕ). y.0) p), leb-true _ _ l)

octets_after_lem : (gs rest os : List ℕ) → os ≡ gs ++ rest → Octets os → Octets rest
octets_after_lem gs rest os e o = subst Octets (ap (drop (length gs)) e ∙ drop_at gs rest (length gs) refl) (octets_drop (length gs) os o)

-- so many, each at most 255, and their groups are the octets
pub record Lengths (k : ℕ) (os ns rest : List ℕ) : Type 0 where
  pub size : length ns ≡ k
  pub most : AtMost 255 ns
  pub written : Octets os → os ≡ numbers ns ++ rest

pub lengths_are : (k : ℕ) (os ns rest : List ℕ) → lengths_at k os ≡ some (ns, rest) → Lengths k os ns rest
unfolding lengths_at numbers
lengths_are zero os ns rest e =
    let p : ◌≡◌ {A = List ℕ × List ℕ} ([], os) (ns, rest) = cc in
    let en : [] ≡ ns = ap (λ (y : List ℕ × List ℕ). y.0) p in
    let er : os ≡ rest = ap (λ (y : List ℕ × List ℕ). y.1) p in
    record { size = ap length (sym en); most = subst (AtMost 255) en tt; written = λ o. er ∙ ap (λ (l : List ℕ). numbers l ++ rest) en }
lengths_are (suc k) os ns rest e = by_number (number_at os) refl e (λ os' ms e'. lengths_are k os' ms rest e')
  where
    by_number : (s : Option (ℕ × List ℕ)) → number_at os ≡ s → length_then s (λ rest. lengths_at k rest) ≡ some (ns, rest)
        → ((os' ms : List ℕ) → lengths_at k os' ≡ some (ms, rest) → Lengths k os' ms rest) → Lengths (suc k) os ns rest
    by_number none q e ih = let z : ◌≡◌ {A = ℕ} 0 1 = cc in absurd (omega arith)
    by_number (some (n, os')) q e ih =
        let (ms, r, is, few) = length_first n (lengths_at k os') ns rest e in
        let others = ih os' ms r in
        subst (λ (l : List ℕ). Lengths (suc k) os l rest) (sym is) (record {
          size = ap suc others.size;
          most = (few, others.most);
          written = λ o.
              let g = number_is os o n os' q in
              g ∙ ap (λ (l : List ℕ). groups n ++ l) (others.written (octets_after_lem (groups n) os' os g o)) ∙ sym (append_assoc (groups n) (numbers ms) rest);
        })

-- ---- blocks

-- the inverse gives every string back
pub read_block : (ss : List (List ℕ)) → allowed (lengths ss) ≡ true → strings_of (block ss) ≡ some ss
unfolding strings_of block
read_block ss e =
    let a = (allowed_means (lengths ss)).0 e in
    let few : length ss ≤ 1000 = rw length-map at a.0 in
    let read : lengths_at (length ss) (numbers (lengths ss) ++ columns 255 ss) ≡ some (lengths ss, columns 255 ss) = rw length-map at (read_lengths (lengths ss) (columns 255 ss) a.1) in
    rw (read_groups (length ss) (numbers (lengths ss) ++ columns 255 ss), le-leb (length ss) 1000 few, read, eq-eqb _ _ (length_columns 255 ss a.1), dealt_columns 255 ss a.1)

-- and what it takes is a block
Block : List ℕ → List (List ℕ) → Type 0
Block os ss = (allowed (lengths ss) ≡ true) × (os ≡ block ss)

block_is : (os : List ℕ) → Octets os → (ss : List (List ℕ)) → strings_of os ≡ some ss → Block os ss
unfolding strings_of block Block
block_is os o ss e = by_count (number_at os) refl e
  where
    by_sum : (n : ℕ) (body ns rest : List ℕ) → os ≡ groups n ++ body → n ≤ 1000 → Lengths n body ns rest → (t : Bool) → eqb (length rest) (sum ns) ≡ t
        → (if t then some (dealt 255 ns rest) else none) ≡ some ss → Block os ss
    by_sum n body ns rest g few l false q e = let z : ◌≡◌ {A = ℕ} 0 1 = cc in absurd (omega arith)
    by_sum n body ns rest g few l true q e =
        let is : dealt 255 ns rest ≡ ss = cc in
        let d = columns_dealt 255 ns rest l.most (eqb-true _ _ q) in
        let en : lengths ss ≡ ns = ap lengths (sym is) ∙ d.1 in
        let ec : columns 255 ss ≡ rest = ap (columns 255) (sym is) ∙ d.0 in
        let ek : length ss ≡ n = sym (length-map ss length) ∙ ap length en ∙ l.size in
        (rw en ((allowed_means ns).1 (omega (arith, l.size), l.most)), g ∙ rw (ek, en, ec, l.written (octets_after_lem (groups n) body os g o)))

    by_lengths : (n : ℕ) (body : List ℕ) → os ≡ groups n ++ body → n ≤ 1000 → (r : Option (List ℕ × List ℕ)) → lengths_at n body ≡ r → strings_then r ≡ some ss → Block os ss
    by_lengths n body g few none q e = let z : ◌≡◌ {A = ℕ} 0 1 = cc in absurd (omega arith)
    by_lengths n body g few (some (ns, rest)) q e =
        by_sum n body ns rest g few (lengths_are n body ns rest q) (eqb (length rest) (sum ns)) refl e

    by_few : (n : ℕ) (body : List ℕ) → os ≡ groups n ++ body → (t : Bool) → leb n 1000 ≡ t → (if t then strings_then (lengths_at n body) else none) ≡ some ss → Block os ss
    by_few n body g false q e = let z : ◌≡◌ {A = ℕ} 0 1 = cc in absurd (omega arith)
    by_few n body g true q e = by_lengths n body g (leb-true _ _ q) (lengths_at n body) refl e

    by_count : (s : Option (ℕ × List ℕ)) → number_at os ≡ s → count_then s ≡ some ss → Block os ss
    by_count none q e = let z : ◌≡◌ {A = ℕ} 0 1 = cc in absurd (omega arith)
    by_count (some (n, body)) q e = by_few n body (number_is os o n body q) (leb n 1000) refl e

pub block_read : (os : List ℕ) → Octets os → (ss : List (List ℕ)) → (strings_of os ≡ some ss) ↔ ((allowed (lengths ss) ≡ true) × (os ≡ block ss))
unfolding Block
block_read os o ss = (block_is os o ss, λ w. ap strings_of w.1 ∙ read_block ss w.0)

-- ---- the two functions

pub lengths_in : (ns os : List ℕ) → sum ns ≤ length os → lengths (strings_in ns os) ≡ ns
unfolding strings_in sum
lengths_in [] os h = refl
lengths_in (n ∷ ns) os h = ap₂ ◌∷◌ (length-take-le n os (omega arith)) (lengths_in ns (drop n os) (rw length-drop (omega arith)))

joined_in : (ns os : List ℕ) → joined (strings_in ns os) ≡ take (sum ns) os
unfolding strings_in sum joined
joined_in [] os = refl
joined_in (n ∷ ns) os = rw (joined_in ns (drop n os)) (sym (take-add n (sum ns) os))

strings_again : (ss : List (List ℕ)) → strings_in (lengths ss) (joined ss) ≡ ss
unfolding strings_in joined
strings_again [] = refl
strings_again (s ∷ ss) = ap₂ ◌∷◌ (take_at s (joined ss) (length s) refl) (ap (strings_in (lengths ss)) (drop_at s (joined ss) (length s) refl) ∙ strings_again ss)

pub sum_lengths : (ss : List (List ℕ)) → sum (lengths ss) ≡ length (joined ss)
unfolding sum joined
sum_lengths [] = refl
sum_lengths (s ∷ ss) = rw (sum_lengths ss) (sym (length-append s (joined ss)))

-- where a block is written
pub writing_done : (os ns : List ℕ) → allowed ns ≡ true → sum ns ≤ length os → writing os ns ≡ made (block (strings_in ns os)) (length (block (strings_in ns os)))
unfolding writing
writing_done os ns a h = check_holds a _ _ _ ∙ check_holds (le-leb _ _ h) _ _ _ ∙ no_checks _

pub writing_told : (os ns b : List ℕ) (w : ℕ) → writing os ns ≡ made b w → (allowed ns ≡ true) × (sum ns ≤ length os) × (b ≡ block (strings_in ns os))
unfolding writing
writing_told os ns b w e =
    let t = made_told _ (block (strings_in ns os)) e in
    let a = holds StringsTooLarge (allowed ns) ((LengthTooLarge unless leb (sum ns) (length os)) ∷ []) t.0 in
    let h = holds LengthTooLarge (leb (sum ns) (length os)) [] a.1 in
    (a.0, leb-true _ _ h.0, sym t.1)

reading_some : (b : List ℕ) (ss : List (List ℕ)) → strings_of b ≡ some ss → reading b ≡ made_both (joined ss) (lengths ss)
unfolding reading
reading_some b ss e = rw e

-- what was written reads back: the strings' octets and their lengths
pub written_reads : (os ns b : List ℕ) (w : ℕ) → writing os ns ≡ made b w → reading b ≡ made_both (take (sum ns) os) ns
written_reads os ns b w e =
    let (a, h, is) = writing_told os ns b w e in
    let en = lengths_in ns os h in
    let r = reading_some b (strings_in ns os) (ap strings_of is ∙ read_block (strings_in ns os) (rw en a)) in
    r ∙ ap₂ made_both (joined_in ns os) en

-- what is read was written, and is written again
pub read_writes : (b : List ℕ) → Octets b → (os ns : List ℕ) → reading b ≡ made_both os ns → writing os ns ≡ made b (length b)
unfolding reading
read_writes b o os ns e = by_strings (strings_of b) refl e
  where
    by_strings : (s : Option (List (List ℕ))) → strings_of b ≡ s → made_of s ≡ made_both os ns → writing os ns ≡ made b (length b)
    by_strings none q e = let z : ◌≡◌ {A = ℕ} 0 1 = cc in absurd (omega arith)
    by_strings (some ss) q e =
        let (a, is) = (block_read b o ss).0 q in
        let eo : joined ss ≡ os = cc in
        let en : lengths ss ≡ ns = cc in
        let again : block (strings_in (lengths ss) (joined ss)) ≡ b = ap block (strings_again ss) ∙ sym is in
        rw (← eo, ← en) (writing_done (joined ss) (lengths ss) a (omega (arith, sum_lengths ss)) ∙ rw again)

-- so it refuses exactly what the writer can't write
pub refused_with_36 : (b : List ℕ) → Octets b → (reading b ≡ refused_both BlockNotWhole) ↔ ((os ns : List ℕ) (w : ℕ) → writing os ns ≡ made b w → ⊥)
unfolding reading
refused_with_36 b o = ((λ e os ns w m. let r = written_reads os ns b w m in let z : ◌≡◌ {A = ℕ} 0 1 = cc in omega arith), λ n. by_strings n (strings_of b) refl)
  where
    by_strings : ((os ns : List ℕ) (w : ℕ) → writing os ns ≡ made b w → ⊥) → (s : Option (List (List ℕ))) → strings_of b ≡ s → made_of s ≡ refused_both BlockNotWhole
    by_strings n none q = refl
    by_strings n (some ss) q = absurd (n (joined ss) (lengths ss) _ (read_writes b o (joined ss) (lengths ss) (reading_some b ss q)))
