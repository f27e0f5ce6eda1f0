-- What holds of every octet of a list.
use Rattle.std.specs.Prelude.{ℕ, ◌<◌, Bool, true, ◌&&◌, List, [], ◌∷◌, get_or}

-- each is an octet
abbrev pub Octets : List ℕ → Type 0
Octets s = (i : ℕ) → get_or s i 0 < 256

-- each passes the test
unfoldable pub each : (ℕ → Bool) → List ℕ → Bool
each test [] = true
each test (x ∷ xs) = test x && each test xs
