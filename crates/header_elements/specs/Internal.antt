-- What functions of this crate say to each other about the octets of elements; no public contract cites it.
use Rattle.std.specs.Prelude.{ℕ, ◌+◌, ◌<◌, ◌≡◌, List, [], ◌∷◌, length, get_or, take, eqb, sum, if◌then◌else◌}

-- the octets of those elements of these identifiers and lengths that have an identifier
unfoldable pub octets_with : ℕ → List ℕ → List ℕ → ℕ
octets_with i [] ns = 0
octets_with i (k ∷ is) [] = 0
octets_with i (k ∷ is) (n ∷ ns) = (if eqb k i then 2 + n else 0) + octets_with i is ns

-- for each identifier the octets of its elements
pub record Counted (identifiers lengths counts : List ℕ) : Type 0 where
  pub each : (i : ℕ) → i < 256 → get_or counts i 0 ≡ octets_with i identifiers lengths
  pub size : length counts ≡ 256

-- in each count's place the sum of those before it
pub record SummedUp (counts sums : List ℕ) : Type 0 where
  pub each : (i : ℕ) → i < 256 → get_or sums i 0 ≡ sum (take i counts)
  pub size : length sums ≡ 256
