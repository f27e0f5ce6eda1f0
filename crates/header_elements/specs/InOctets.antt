-- Elements as they lie in octets: what the iterator over them gives, and what it has left.
use Rattle.std.specs.Prelude.{ℕ, ◌<◌, ◌≡◌, Result, Ok, Err, Option, Some, None, List, [], ◌∷◌, ◌++◌, length}
use Rattle.std.specs.Borrow.{Bor}
use Rattle.octets.specs.declared.Refusal.{Refusal}
use Rattle.octets.specs.declared.Refusal.TheVariants.{ElementPassesHeader}
use Rattle.header_elements.specs.declared.elements.Element.{Element}
use Rattle.header_elements.specs.declared.elements.Elements.{Elements}
use Rattle.header_elements.specs.Elements.{elements_of}

-- the octets that are left
abbrev pub octets_left : Elements → List ℕ
octets_left e = e.rest.now

-- the octets of an element, and then others
abbrev pub element_then : Element → List ℕ → List ℕ
element_then e after = e.identifier ∷ length e.value.now ∷ e.value.now ++ after

-- octets are an element and those after it, or have no whole element
abbrev pub FirstElement : List ℕ → Option (Element × Bor (List ℕ)) → Type 0
FirstElement s (Some (e, after)) = s ≡ element_then e after.now
FirstElement s None = 0 < length s → elements_of s ≡ Err ElementPassesHeader

-- a call gave the first element of what was left, or refused what was left, or nothing was left
abbrev pub GivesElement : Elements → Option (Result Element Refusal) → Elements → Type 0
GivesElement old (Some (Ok e)) new = octets_left old ≡ element_then e (octets_left new)
GivesElement old (Some (Err why)) new = (elements_of (octets_left old) ≡ Err why) × (octets_left new ≡ [])
GivesElement old None new = (octets_left old ≡ []) × (octets_left new ≡ [])
