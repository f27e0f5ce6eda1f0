-- Octets in an array, and how many of them count.
use Rattle.std.specs.Prelude.{ℕ, ◌≡◌, List, length, take}
use Rattle.octets.specs.Arrays.{pad, cleared_array}
use Rattle.octets.specs.declared.Held.{Held}

-- octets in an array of n
unfoldable pub holding : (n : ℕ) → List ℕ → Held n
holding n xs = record { octets = pad n xs; length = length xs }

-- the octets that count
abbrev pub filled : {n : ℕ} → Held n → List ℕ
filled h = take h.length h.octets

-- what lies after the length is no part of a record: set to zero
abbrev pub cleared_held : {n : ℕ} → Held n → Held n
cleared_held {n} h = record { octets = cleared_array n h.length h.octets; length = h.length }

-- the array has the length of its type
abbrev pub TypedHeld : {n : ℕ} → Held n → Type 0
TypedHeld {n} h = length h.octets ≡ n
