-- Octets appended to an output.
use Rattle.std.specs.Prelude.{ℕ, ◌+◌, ◌≡◌, refl, List, ◌++◌, leb, length, if◌then◌else◌}
use Rattle.octets.specs.Texts.{codes}

-- what an output of a size holds after octets are appended; octets that do not fit change nothing
unfoldable pub appended : ℕ → List ℕ → List ℕ → List ℕ
appended size octets output = if leb (length output + length octets) size then output ++ octets else output

known_outputs : (appended 4 (codes "ab") (codes ".") ≡ codes ".ab") × (appended 4 (codes "ab") (codes "...") ≡ codes "...")
unfolding codes appended
known_outputs = (refl, refl)
