-- The reader's loop: the elements that are left, stored after those that are read already, make the answer.
-- Assumes nothing.
use Rattle.std.specs.Prelude.{Ok, Err}
use Prim.Native.Nat.{ℕ, suc, ◌+◌, ◌*◌, ◌≤◌}
use mathlib.Core.Path.{◌≡◌, refl, sym, ap, ◌∙◌}
use mathlib.Core.List.{List, [], ◌∷◌, ◌++◌, map}
use native.Mathlib.Nat.{add-zero, zero-add}
use native.Mathlib.Numerals.{add-one}
use native.Mathlib.Omega.{arith}
use lib.ListN.{length, set, replicate, length-append, length-map}
use lib.Seq.{sets}
use Rattle.octets.specs.Answers.{Said}
use Rattle.octets.specs.Lent.{Wrote}
use Rattle.octets.specs.declared.Refusal.{Refusal}
use Rattle.octets.proofs.Laws.{sets_append, sets_zeros, kept_by}
use Rattle.header_elements.specs.declared.HeaderElements.{HeaderElements}
use Rattle.header_elements.specs.Elements.{Element, element, before, elements_after, elements_of}
use Rattle.header_elements.specs.Record.{identifier_of, length_of, values, held, answer}
use Rattle.header_elements.proofs.Apart.{one_then, elements_are}
use Rattle.header_elements.proofs.Held.{elements_fit}

-- ---- what the reader answers, once elements are stored in the arrays from places on

abbrev storing : List ℕ → List ℕ → List ℕ → ℕ → ℕ → Said (List Element) → Said HeaderElements
storing ids lens octets count filled (Ok es) =
    Ok (record { count = count + length es; identifiers = sets ids count (map identifier_of es); lengths = sets lens count (map length_of es); octets = sets octets filled (values es) })
storing ids lens octets count filled (Err why) = Err why

storing_start : (body : List ℕ) → length body ≤ 255 → (others : Said (List Element)) → elements_of body ≡ others → storing (replicate 127 0) (replicate 127 0) (replicate 253 0) 0 0 others ≡ answer others
unfolding held
storing_start body few (Ok es) e =
    let (count, octets) = elements_fit es (rw ((elements_are body es).0 e) few) in
    rw (zero-add, sets_zeros 127 (map identifier_of es) (rw length-map count), sets_zeros 127 (map length_of es) (rw length-map count), sets_zeros 253 (values es) octets)
storing_start body few (Err why) e = refl

storing_step : (ids lens octets : List ℕ) (count filled : ℕ) (e : Element) (others : Said (List Element))
    → storing ids lens octets count filled (before e others)
    ≡ storing (set ids count e.identifier) (set lens count (length e.value)) (sets octets filled e.value) (count + 1) (filled + length e.value) others
unfolding values
storing_step ids lens octets count filled e (Ok es) =
    let n : count + suc (length es) ≡ count + 1 + length es = omega arith in
    rw (n, sets_append e.value (values es) octets filled, add-one count)
storing_step ids lens octets count filled e (Err why) = refl

-- ---- the loop: what is stored already, and the octets that are left

pub record SoFar (body ids lens octets : List ℕ) (count filled : ℕ) (left : List ℕ) : Type 0 where
  pub rest : storing ids lens octets count filled (elements_of left) ≡ answer (elements_of body)
  pub place : 2 * count + filled + length left ≡ length body
  pub few : length body ≤ 255
  pub room : length octets ≡ 253

pub so_far_start : (body left : List ℕ) → length body ≤ 255 → left ≡ body → SoFar body (replicate 127 0) (replicate 127 0) (replicate 253 0) 0 0 left
so_far_start body left few e = record { rest = rw e (storing_start body few (elements_of body) refl); place = rw e (omega arith); few = few; room = refl }

module _ {body ids lens octets : List ℕ} {count filled : ℕ} {left : List ℕ} (s : SoFar body ids lens octets count filled left) where
  module _ (i : ℕ) (v after : List ℕ) (e : left ≡ i ∷ length v ∷ v ++ after) where
    -- the next element has so many octets
    pub size : 2 * count + filled + 2 + length v + length after ≡ length body
    size = omega (arith, s.place, simp length-append at (ap length e))

    -- one element more
    pub so_far_step : {next : ℕ} {stored : List ℕ} → Wrote filled v octets next stored → SoFar body (set ids count i) (set lens count (length v)) stored (count + 1) next after
    so_far_step w = record {
      rest = rw (w.place, w.list) (sym (storing_step ids lens octets count filled (element i v) (elements_of after)) ∙ rw (e, one_then i v after) at s.rest);
      place = omega (arith, size, w.place);
      few = s.few;
      room = kept_by w ∙ s.room;
    }

  -- what is left is refused, and so are the octets
  pub so_far_refused : {why : Refusal} → elements_of left ≡ Err why → Err why ≡ answer (elements_of body)
  so_far_refused e = rw e at s.rest

  -- nothing is left: the elements are in their arrays
  pub so_far_done : left ≡ [] → Ok (record { count = count; identifiers = ids; lengths = lens; octets = octets }) ≡ answer (elements_of body)
  unfolding values elements_after
  so_far_done e = rw (e, add-zero count) at s.rest
