-- An optional octet of a record.
use Rattle.std.specs.Prelude.{ℕ, List, [], ◌∷◌, length, Some, None, Option, unwrap_or}

-- its octets
abbrev pub octets_held : Option ℕ → List ℕ
octets_held None = []
octets_held (Some x) = x ∷ []

-- how many: 0 or 1
abbrev pub held : Option ℕ → ℕ
held o = length (octets_held o)

-- an absent one means 0
abbrev pub or_zero : Option ℕ → ℕ
or_zero o = unwrap_or o 0
