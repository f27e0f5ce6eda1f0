-- What only functions of this crate say to each other: sizes, numbers and lengths found, and where an octet of a string stands in the columns.
use Rattle.std.specs.Prelude.{ℕ, zero, suc, ◌+◌, ◌<◌, ◌≤◌, ◌≡◌, refl, List, [], ◌∷◌, ◌++◌, length, get_or, set, take, drop, ltb, if◌then◌else◌, Ok, Err, Some, None, Option as Maybe}
use Rattle.std.proofs.Math.Option.{Option, none, some}
use Rattle.octets.specs.Answers.{Said}
use Rattle.octets.specs.declared.Refusal.TheVariants.{StringsTooLarge}
use Rattle.columns.specs.Numbers.{number_at}
use Rattle.columns.specs.Blocks.{sum, allowed, numbers, lengths_at}

-- ---- writing: the octets of the strings and of their lengths; 35
unfoldable pub sizes_of : List ℕ → Said (ℕ × ℕ)
sizes_of ns = if◌then◌else◌ {A = Said (ℕ × ℕ)} (allowed ns) (Ok (sum ns, length (numbers ns))) (Err StringsTooLarge)

-- ---- reading: a number of at most two groups, and the place after it; where there is none, a number that stands there is larger than any of a block
abbrev pub NumberAs : List ℕ → ℕ → Maybe (ℕ × ℕ) → Type 0
NumberAs os at (Some (n, next)) = (number_at (drop at os) ≡ some (n, drop next os)) × (n < 16384) × (at < next) × (next ≤ length os)
NumberAs os at None = (n : ℕ) (rest : List ℕ) → number_at (drop at os) ≡ some (n, rest) → 16384 ≤ n

-- lengths added up, with t more
abbrev pub measured : ℕ → Option (List ℕ × List ℕ) → Option (ℕ × List ℕ)
measured t none = none
measured t (some (ns, os)) = some (t + sum ns, os)

abbrev pub LengthsAs : List ℕ → ℕ → ℕ → Maybe (ℕ × ℕ) → Type 0
LengthsAs os at count (Some (total, next)) = (measured 0 (lengths_at count (drop at os)) ≡ some (total, drop next os)) × (next ≤ length os)
LengthsAs os at count None = measured 0 (lengths_at count (drop at os)) ≡ none

-- ---- where octet k of string i stands

-- 1 where a string of n octets has octet k, else 0
abbrev pub has : ℕ → ℕ → ℕ
has k n = if ltb k n then 1 else 0

-- how many strings are longer than k, and where column k starts
unfoldable pub longer_than : ℕ → List ℕ → ℕ
longer_than k [] = 0
longer_than k (n ∷ ns) = has k n + longer_than k ns

unfoldable pub start_of : ℕ → List ℕ → ℕ
start_of zero ns = 0
start_of (suc k) ns = start_of k ns + longer_than k ns

-- after the columns before, and the strings before that have an octet k
abbrev pub place_of : List ℕ → ℕ → ℕ → ℕ
place_of ns i k = start_of k ns + longer_than k (take i ns)

-- the first n raised by one
pub record Raised (n : ℕ) (before after : List ℕ) : Type 0 where
  pub size : length after ≡ 255
  pub each : (k : ℕ) → get_or after k 0 ≡ get_or before k 0 + has k n

-- each is what those before it come to, from `body` on
pub record SummedUp (body : ℕ) (before after : List ℕ) : Type 0 where
  pub size : length after ≡ 255
  pub each : (k : ℕ) → k < 255 → get_or after k 0 ≡ body + sum (take k before)

-- where the octets of string i stand, one for each column
pub record Starts (ns : List ℕ) (body i : ℕ) (places : List ℕ) : Type 0 where
  pub size : length places ≡ 255
  pub each : (k : ℕ) → k < 255 → get_or places k 0 ≡ body + place_of ns i k

-- n octets, each from its place; and each stored at its place
unfoldable pub picked : ℕ → List ℕ → List ℕ → List ℕ
picked zero places os = []
picked (suc n) places os = picked n places os ++ (get_or os (get_or places n 0) 0 ∷ [])

unfoldable pub scattered : ℕ → List ℕ → List ℕ → List ℕ → List ℕ
scattered zero places os list = list
scattered (suc n) places os list = set (scattered n places os list) (get_or places n 0) (get_or os n 0)

-- of strings of 3, 0 and 2 octets, octet 1 of the last stands after two firsts and one second
rows : (place_of (3 ∷ 0 ∷ 2 ∷ []) 2 1 ≡ 3) × (picked 2 (2 ∷ 0 ∷ []) (7 ∷ 8 ∷ 9 ∷ []) ≡ 9 ∷ 7 ∷ []) × (scattered 2 (2 ∷ 0 ∷ []) (9 ∷ 7 ∷ []) (1 ∷ 1 ∷ 1 ∷ []) ≡ 7 ∷ 1 ∷ 9 ∷ [])
unfolding longer_than start_of picked scattered
rows = (refl, refl, refl)
