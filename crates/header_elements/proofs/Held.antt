-- Elements in their record: their sizes, the list that a record holds, and what is no part of it.
-- Assumes nothing.
use Prim.Native.Nat.{ℕ, suc, ◌+◌, ◌*◌, ◌≤◌}
use mathlib.Core.Path.{◌≡◌, refl, sym, ap, ◌∙◌}
use mathlib.Core.List.{List, [], ◌∷◌, ◌++◌, map, append_assoc}
use native.Mathlib.Omega.{arith}
use lib.ListN.{length, take, drop, length-append, length-map, length-drop}
use lib.Seq.{length-take-le, take-append_seam, drop-append_seam, take-add}
use Rattle.octets.specs.Arrays.{pad}
use Rattle.octets.specs.Each.{Octets}
use Rattle.octets.proofs.Each.{octets_take}
use Rattle.octets.proofs.Laws.{take_pad, take_cleared}
use Rattle.header_elements.specs.declared.HeaderElements.{HeaderElements}
use Rattle.header_elements.specs.Elements.{Element, joined}
use Rattle.header_elements.specs.Record.{identifier_of, length_of, values, held, elements_with, list_of, total, value_octets, needed, cleared, Typed}
use Rattle.header_elements.proofs.Order.{Below}

-- ---- sizes

pub joined_size : (es : List Element) → length (joined es) ≡ 2 * length es + length (values es)
unfolding joined values
joined_size [] = refl
joined_size (e ∷ es) = rw (length-append e.value (joined es), length-append e.value (values es), joined_size es) (omega arith)

-- what a header can count fits the arrays
pub elements_fit : (es : List Element) → length (joined es) ≤ 255 → (length es ≤ 127) × (length (values es) ≤ 253)
unfolding values
elements_fit [] h = (omega arith, omega arith)
elements_fit (e ∷ es) h = (omega (arith, joined_size (e ∷ es)), omega (arith, joined_size (e ∷ es)))

values_total : (es : List Element) → total (map length_of es) ≡ length (values es)
unfolding total values
values_total [] = refl
values_total (e ∷ es) = rw (length-append e.value (values es), values_total es)

-- lengths that a header can count fit the array of values
total_fits : (ns : List ℕ) → 2 * length ns + total ns ≤ 255 → total ns ≤ 253
unfolding total
total_fits [] h = omega arith
total_fits (n ∷ ns) h = omega arith

-- ---- the elements of identifiers, lengths and values

-- those of elements are these, whatever follows the values
with_those : (es : List Element) (rest : List ℕ) → elements_with (map identifier_of es) (map length_of es) (values es ++ rest) ≡ es
unfolding elements_with values
with_those [] rest = refl
with_those (e ∷ es) rest =
    rw (append_assoc e.value (values es) rest, take-append_seam e.value (values es ++ rest), drop-append_seam e.value (values es ++ rest), with_those es rest)

-- they have these, where the values are all there
pub record Have (is ns s : List ℕ) (es : List Element) : Type 0 where
  pub ids : map identifier_of es ≡ is
  pub lens : map length_of es ≡ ns
  pub vals : values es ≡ take (total ns) s

pub with_these : (is ns s : List ℕ) → length ns ≡ length is → total ns ≤ length s → Have is ns s (elements_with is ns s)
unfolding elements_with total values
with_these [] [] s e h = record { ids = refl; lens = refl; vals = refl }
with_these [] (n ∷ ns) s e h = absurd (omega arith)
with_these (i ∷ is) [] s e h = absurd (omega arith)
with_these (i ∷ is) (n ∷ ns) s e h =
    let rest = with_these is ns (drop n s) (omega arith) (rw length-drop (omega arith)) in
    record { ids = rw rest.ids; lens = rw (rest.lens, length-take-le n s (omega arith)); vals = rw rest.vals (sym (take-add n (total ns) s)) }

-- their identifiers are octets
with_octets : (is ns s : List ℕ) → Octets is → Below 256 (elements_with is ns s)
unfolding elements_with
with_octets [] ns s o = tt
with_octets (i ∷ is) [] s o = tt
with_octets (i ∷ is) (n ∷ ns) s o = (o 0, with_octets is ns (drop n s) (λ j. o (suc j)))

-- ---- a list in a record

array_held : (n : ℕ) (f : Element → ℕ) (es : List Element) → take (length es) (pad n (map f es)) ≡ map f es
array_held n f es = ap (λ (k : ℕ). take k (pad n (map f es))) (sym (length-map es f)) ∙ take_pad n (map f es)

module _ (es : List Element) where
  -- a record of elements holds these
  pub list_held : list_of (held es) ≡ es
  unfolding list_of held pad
  list_held = rw (array_held 127 identifier_of es, array_held 127 length_of es) (with_those es _)

  pub needed_held : needed (held es) ≡ length (joined es)
  unfolding held
  needed_held = rw (array_held 127 length_of es, values_total es) (sym (joined_size es))

  -- and nothing else
  pub cleared_held : cleared (held es) ≡ held es
  unfolding held
  cleared_held = rw (array_held 127 identifier_of es, array_held 127 length_of es, values_total es, take_pad 253 (values es))

module _ (r : HeaderElements) (typed : Typed r) where
  -- what is no part of a record doesn't count
  pub needed_cleared : needed (cleared r) ≡ needed r
  needed_cleared = rw (take_cleared 127 r.count r.lengths typed.1)

  abbrev is : List ℕ
  is = take r.count r.identifiers

  abbrev ns : List ℕ
  ns = take r.count r.lengths

  pub list_octets : Below 256 (list_of r)
  unfolding list_of
  list_octets = with_octets is ns r.octets (octets_take r.count r.identifiers typed.3)

  -- the arrays hold so many
  pub identifiers_count : r.count ≤ 127 → length is ≡ r.count
  identifiers_count h = length-take-le r.count r.identifiers (omega (arith, typed.0))

  pub lengths_count : r.count ≤ 127 → length ns ≡ r.count
  lengths_count h = length-take-le r.count r.lengths (omega (arith, typed.1))

  module _ (few : needed r ≤ 255) where
    pub same_count : length ns ≡ length is
    same_count = lengths_count (omega arith) ∙ sym (identifiers_count (omega arith))

    pub values_fit : value_octets r ≤ length r.octets
    values_fit = omega (arith, typed.2, total_fits ns (omega (arith, lengths_count (omega arith))))

    -- the list that a record holds, in a record, is the record
    pub record_held : held (list_of r) ≡ cleared r
    unfolding held list_of
    record_held =
        let have = with_these is ns r.octets same_count values_fit in
        let counts : length (elements_with is ns r.octets) ≡ r.count = sym (length-map (elements_with is ns r.octets) identifier_of) ∙ ap length have.ids ∙ identifiers_count (omega arith) in
        rw (counts, have.ids, have.lens, have.vals)

    -- its size
    pub list_size : length (joined (list_of r)) ≡ needed r
    list_size = sym (needed_held (list_of r)) ∙ ap needed record_held ∙ needed_cleared
