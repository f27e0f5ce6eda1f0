-- Arrays with a length beside them.
use Rattle.std.specs.Prelude.{ℕ, ◌-◌, List, ◌++◌, length, replicate, take}

-- xs, with zeros after them up to n octets: how a reader leaves the unused end of an array
unfoldable pub pad : ℕ → List ℕ → List ℕ
pad n xs = xs ++ replicate (n - length xs) 0

-- an array of n octets of which so many count: those after them set to zero
abbrev pub cleared_array : ℕ → ℕ → List ℕ → List ℕ
cleared_array n count xs = pad n (take count xs)
