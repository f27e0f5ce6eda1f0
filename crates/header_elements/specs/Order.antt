-- One order for header elements: by rising identifier, equal identifiers in the order given.
use Rattle.std.specs.Prelude.{ℕ, zero, suc, ◌≤◌, ◌≡◌, refl, List, [], ◌∷◌, ◌++◌, eqb, if◌then◌else◌}
use Rattle.header_elements.specs.Elements.{Element, element}

-- those with an identifier, in the order given
unfoldable pub having : ℕ → List Element → List Element
having i [] = []
having i (e ∷ es) = if eqb e.identifier i then e ∷ having i es else having i es

-- those with identifier 0, then 1, and so on to n - 1
unfoldable pub below : ℕ → List Element → List Element
below zero es = []
below (suc n) es = below n es ++ having n es

-- an identifier is an octet
abbrev pub ordered : List Element → List Element
ordered es = below 256 es

-- already in that order: no identifier is less than the one before it
abbrev pub Rising : List Element → Type 0
Rising [] = Unit
Rising (e ∷ []) = Unit
Rising (e ∷ f ∷ es) = (e.identifier ≤ f.identifier) × Rising (f ∷ es)

-- 00 comes first and FF last, and the two of 70 stay in the order given
rows : ordered (element 0xff [] ∷ element 0x70 (1 ∷ []) ∷ element 0x08 (2 ∷ []) ∷ element 0x70 [] ∷ element 0x00 (3 ∷ []) ∷ [])
    ≡ element 0x00 (3 ∷ []) ∷ element 0x08 (2 ∷ []) ∷ element 0x70 (1 ∷ []) ∷ element 0x70 [] ∷ element 0xff [] ∷ []
unfolding below having
rows = refl
