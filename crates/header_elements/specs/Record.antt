-- Header elements in their record: what the reader answers, what the writer makes of a record, and what is no part of one.
use Rattle.std.specs.Prelude.{ℕ, ◌+◌, ◌*◌, ◌≡◌, refl, List, [], ◌∷◌, ◌++◌, map, length, take, drop, leb, Ok, Err}
use Rattle.octets.specs.Answers.{Said}
use Rattle.octets.specs.Arrays.{pad, cleared_array}
use Rattle.octets.specs.Checks.{◌unless◌, checked}
use Rattle.octets.specs.Each.{Octets}
use Rattle.octets.specs.Lent.{Making}
use Rattle.octets.specs.declared.Refusal.TheVariants.{ElementsTooLong}
use Rattle.header_elements.specs.declared.HeaderElements.{HeaderElements}
use Rattle.header_elements.specs.Elements.{Element, element, header_of, elements_in}
use Rattle.header_elements.specs.Order.{ordered}

-- ---- reading

abbrev pub identifier_of : Element → ℕ
identifier_of e = e.identifier

abbrev pub length_of : Element → ℕ
length_of e = length e.value

-- values end to end
unfoldable pub values : List Element → List ℕ
values [] = []
values (e ∷ es) = e.value ++ values es

-- elements in their record
unfoldable pub held : List Element → HeaderElements
held es = record { count = length es; identifiers = pad 127 (map identifier_of es); lengths = pad 127 (map length_of es); octets = pad 253 (values es) }

-- what a reader answers: the elements, or its refusal
abbrev pub answer : Said (List Element) → Said HeaderElements
answer (Ok es) = Ok (held es)
answer (Err why) = Err why

-- what reading a header answers
unfoldable pub elements_read : List ℕ → Said HeaderElements
elements_read s = answer (elements_in s)

-- ---- writing

-- the elements of these identifiers and lengths, whose values stand end to end
unfoldable pub elements_with : List ℕ → List ℕ → List ℕ → List Element
elements_with [] ns s = []
elements_with (i ∷ is) [] s = []
elements_with (i ∷ is) (n ∷ ns) s = element i (take n s) ∷ elements_with is ns (drop n s)

-- the elements that a record holds
unfoldable pub list_of : HeaderElements → List Element
list_of r = elements_with (take r.count r.identifiers) (take r.count r.lengths) r.octets

unfoldable pub total : List ℕ → ℕ
total [] = 0
total (n ∷ ns) = n + total ns

-- the octets of the values of a record's elements
abbrev pub value_octets : HeaderElements → ℕ
value_octets r = total (take r.count r.lengths)

-- the octets after the first that a record's elements need. (Elements past the arrays count two each: 128 are too many already.)
abbrev pub needed : HeaderElements → ℕ
needed r = 2 * r.count + value_octets r

-- what the writer makes of a record: 25, or a header of its elements, in their one order
unfoldable pub header_making : HeaderElements → Making ℕ
header_making r = checked ((ElementsTooLong unless leb (needed r) 255) ∷ []) (header_of (ordered (list_of r)))

-- the same record with its elements in that order: what is read back
unfoldable pub in_order : HeaderElements → HeaderElements
in_order r = held (ordered (list_of r))

-- ---- what is no part of a record

-- what lies after the count and after the values set to zero: records are equal where these are
abbrev pub cleared : HeaderElements → HeaderElements
cleared r = record {
  count = r.count;
  identifiers = cleared_array 127 r.count r.identifiers;
  lengths = cleared_array 127 r.count r.lengths;
  octets = cleared_array 253 (value_octets r) r.octets;
}

-- the arrays have the lengths of their types, and identifiers are octets
abbrev pub Typed : HeaderElements → Type 0
Typed r = (length r.identifiers ≡ 127) × (length r.lengths ≡ 127) × (length r.octets ≡ 253) × Octets r.identifiers

-- elements 70, of no octets, and 05, of four: their values are those four octets
rows : (values (element 0x70 [] ∷ element 0x05 (1 ∷ 2 ∷ 3 ∷ 4 ∷ []) ∷ []) ≡ 1 ∷ 2 ∷ 3 ∷ 4 ∷ [])
    × (elements_with (0x70 ∷ 0x05 ∷ []) (0 ∷ 4 ∷ []) (1 ∷ 2 ∷ 3 ∷ 4 ∷ 0 ∷ []) ≡ element 0x70 [] ∷ element 0x05 (1 ∷ 2 ∷ 3 ∷ 4 ∷ []) ∷ [])
unfolding values elements_with
rows = (refl, refl)
