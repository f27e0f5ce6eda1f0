-- What is numbered is numbered in range, by a header of 6 octets at least.
-- Assumes nothing.
use Rattle.std.specs.Prelude.{Ok, Err}
use Prim.Native.Nat.{ℕ, ◌≤◌}
use mathlib.Core.Path.{◌≡◌, refl, sym}
use mathlib.Core.Bool.{Bool, true, false, ◌&&◌}
use mathlib.Core.List.{List, [], ◌∷◌, ◌++◌}
use mathlib.Core.Logic.{⊎_elim}
use Rattle.std.specs.Prelude.{Option, Some, None}
use Rattle.std.specs.Option.{option_or}
use Rattle.part_number.specs.declared.PartNumber.{PartNumber}
use native.Mathlib.Omega.{arith}
use borrow.Author.Tests.{eqb-true}
use lib.Dec.{eqb, ltb}
use lib.ListN.{length, get_or, drop, length-append, length-take}
use Rattle.octets.specs.Answers.{Said}
use Rattle.octets.specs.Choice.{within}
use Rattle.octets.proofs.Checks.{never}
use Rattle.octets.proofs.Choice.{and_true, within_means, chosen}
use Rattle.octets.proofs.Places.{given}
use Rattle.coding.specs.Coding.{coding_of}
use Rattle.user_data_header.specs.Header.{header_octets, in_count}
use Rattle.header_elements.specs.Elements.{Element, joined, elements_of, after_first}
use Rattle.header_elements.proofs.Apart.{elements_are}
use Rattle.part_number.specs.Numbering.{numbering_of, last_numbering, in_range, by_elements, numbering_in}

-- total from 1 to 8, number from 1 to the total
abbrev pub InRange : PartNumber → Type 0
InRange n = (1 ≤ n.total) × (n.total ≤ 8) × (1 ≤ n.number) × (n.number ≤ n.total)

range_is : {n : PartNumber} (o : Option PartNumber) → in_range o ≡ Ok n → InRange n
unfolding in_range
range_is None e = absurd (never (sym e))
range_is (Some k) e =
    ⊎_elim
    (λ (t, q). let (a, b) = and_true (within 1 8 k.total) (within 1 k.total k.number) t in
    let (c, d) = (within_means 1 8 k.total).0 a in
    let (f, g) = (within_means 1 k.total k.number).0 b in
    rw (← given q) (c, d, f, g))
    (λ (t, q). absurd (never (sym q)))
    (chosen (within 1 8 k.total && within 1 k.total k.number) e)

elements_range : {n : PartNumber} (o : Said (List Element)) → by_elements o ≡ Ok n → InRange n
unfolding by_elements
elements_range (Ok es) e = range_is (last_numbering es) e
elements_range (Err why) e = absurd (never (sym e))

pub numbered_in_range : {n : PartNumber} (udhi : Bool) (dcs udl : ℕ) (ud : List ℕ) → numbering_in udhi dcs udl ud ≡ Ok n → InRange n
unfolding numbering_in
numbered_in_range false dcs udl ud e = absurd (never (sym e))
numbered_in_range true dcs udl ud e =
    ⊎_elim (λ (t, q). absurd (never (sym q)))
    (λ (t, q). ⊎_elim (λ (u, r). elements_range (elements_of (after_first ud)) r) (λ (u, r). absurd (never (sym r))) (chosen (in_count (coding_of dcs) udl (header_octets ud)) q))
    (chosen (ltb (length ud) (header_octets ud)) e)

-- ---- an element that numbers a part has two octets before a value of three or four, and the header one before its elements

none_some : {A B : Type 0} {a : A} → ◌≡◌ {A = Option A} None (Some a) → B
none_some e = let z : ◌≡◌ {A = ℕ} 0 1 = cc in absurd (omega arith)

value_size : (e : Element) {k : PartNumber} → numbering_of e ≡ Some k → 3 ≤ length e.value
unfolding numbering_of
value_size e q =
    ⊎_elim (λ (t, r). size 0 3 t (omega arith))
    (λ (t, r). ⊎_elim (λ (u, v). size 8 4 u (omega arith)) (λ (u, v). none_some v) (chosen (eqb e.identifier 8 && eqb (length e.value) 4) r))
    (chosen (eqb e.identifier 0 && eqb (length e.value) 3) q)
  where
    size : (i n : ℕ) → (eqb e.identifier i && eqb (length e.value) n) ≡ true → 3 ≤ n → 3 ≤ length e.value
    size i n t h = let is = eqb-true (length e.value) n (and_true (eqb e.identifier i) (eqb (length e.value) n) t).1 in omega arith

joined_size : (es : List Element) {k : PartNumber} → last_numbering es ≡ Some k → 5 ≤ length (joined es)
unfolding last_numbering joined
joined_size [] q = none_some q
joined_size (e ∷ es) {k} q = by_last (λ (l : PartNumber) (p : last_numbering es ≡ Some l). joined_size es p) (last_numbering es) refl q
  where
    by_last : ((l : PartNumber) → last_numbering es ≡ Some l → 5 ≤ length (joined es)) → (last : Option PartNumber) → last_numbering es ≡ last → option_or last (numbering_of e) ≡ Some k → 5 ≤ length (e.identifier ∷ length e.value ∷ e.value ++ joined es)
    by_last rest None p r = let v = value_size e r in rw (length-append e.value (joined es)) (omega arith)
    by_last rest (Some l) p r = let j = rest l p in rw (length-append e.value (joined es)) (omega arith)

elements_size : {n : PartNumber} (s : List ℕ) (o : Said (List Element)) → elements_of s ≡ o → by_elements o ≡ Ok n → 5 ≤ length s
unfolding by_elements in_range
elements_size {n} s (Ok es) p e = rw (← (elements_are s es).0 p) (by_last (last_numbering es) refl e)
  where
    by_last : (last : Option PartNumber) → last_numbering es ≡ last → in_range last ≡ Ok n → 5 ≤ length (joined es)
    by_last None q r = absurd (never (sym r))
    by_last (Some k) q r = joined_size es q
elements_size s (Err why) p e = absurd (never (sym e))

pub numbered_header : {n : PartNumber} (udhi : Bool) (dcs udl : ℕ) (ud : List ℕ) → numbering_in udhi dcs udl ud ≡ Ok n → 6 ≤ header_octets ud
unfolding numbering_in
numbered_header false dcs udl ud e = absurd (never (sym e))
numbered_header true dcs udl ud e =
    ⊎_elim (λ (t, q). absurd (never (sym q)))
    (λ (t, q). ⊎_elim (λ (u, r). omega (arith, elements_size (after_first ud) (elements_of (after_first ud)) refl r, length-take (get_or ud 0 0) (drop 1 ud))) (λ (u, r). absurd (never (sym r))) (chosen (in_count (coding_of dcs) udl (header_octets ud)) q))
    (chosen (ltb (length ud) (header_octets ud)) e)
