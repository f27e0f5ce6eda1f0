-- The walk over a header's elements.
-- Assumes nothing.
use Rattle.std.specs.Prelude.{Ok, Err}
use Prim.Native.Nat.{ℕ}
use mathlib.Core.Path.{◌≡◌, refl, sym, ap}
use mathlib.Core.List.{List, [], ◌∷◌, ◌++◌}
use Rattle.std.specs.Prelude.{Option, Some, None}
use Rattle.std.specs.Option.{option_or}
use Rattle.part_number.specs.declared.PartNumber.{PartNumber}
use lib.ListN.{length}
use Rattle.octets.specs.Answers.{Said}
use Rattle.header_elements.specs.Elements.{Element, element, before, elements_after, elements_of}
use Rattle.header_elements.proofs.Apart.{one_then}
use Rattle.part_number.specs.Numbering.{numbering_of, last_numbering, in_range, by_elements}

-- ---- what the elements that are left say, after what those before said

abbrev pub resumed : Said (List Element) → Option PartNumber → Said PartNumber
resumed (Ok es) found = in_range (option_or (last_numbering es) found)
resumed (Err why) found = Err why

or_none : {A : Type 0} (o : Option A) → option_or o None ≡ o
or_none None = refl
or_none (Some a) = refl

or_else_lem : {A : Type 0} (o p q : Option A) → option_or (option_or o p) q ≡ option_or o (option_or p q)
or_else_lem None p q = refl
or_else_lem (Some a) p q = refl

pub resumed_start : (o : Said (List Element)) → by_elements o ≡ resumed o None
unfolding by_elements
resumed_start (Ok es) = ap in_range (sym (or_none (last_numbering es)))
resumed_start (Err why) = refl

resumed_before : (e : Element) (o : Said (List Element)) (found : Option PartNumber) → resumed (before e o) found ≡ resumed o (option_or (numbering_of e) found)
unfolding last_numbering
resumed_before e (Ok es) found = ap in_range (or_else_lem (last_numbering es) (numbering_of e) found)
resumed_before e (Err why) found = refl

module _ {left : List ℕ} (found : Option PartNumber) where
  pub walk_on : (i : ℕ) (v after : List ℕ) → left ≡ i ∷ length v ∷ v ++ after → resumed (elements_of left) found ≡ resumed (elements_of after) (option_or (numbering_of (element i v)) found)
  walk_on i v after e = rw (e, one_then i v after) (resumed_before (element i v) (elements_of after) found)

  pub walk_end : left ≡ [] → resumed (elements_of left) found ≡ in_range found
  unfolding last_numbering elements_after
  walk_end e = rw e
