-- Octets written as text.
use Rattle.std.specs.Prelude.{ℕ, List, [], ◌∷◌}
use Prim.Native.Char.{code}
use Prim.Native.String.{String, [] as none, ◌∷◌ as ◌then◌}

-- the codes of a text's characters; of an ASCII text its octets
unfoldable pub codes : String → List ℕ
codes none = []
codes (character then text) = code character ∷ codes text
