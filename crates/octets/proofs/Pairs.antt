-- Octets two by two, as `as_chunks::<2>` gives them.
-- Assumes nothing.
use Prim.Native.Nat.{ℕ, zero, suc, ◌+◌, ◌*◌, ◌/◌, ◌<◌}
use mathlib.Core.Path.{◌≡◌, ◌∙◌}
use mathlib.Core.List.{List, []}
use native.Mathlib.Omega.{arith}
use lib.ListN.{length, get_or, drop}
use lib.Seq.{get_or-take, get_or-drop}
use Rattle.std.specs.Simd.{first_chunks}

-- a pair is the two octets at its place
pub pair_at : (k : ℕ) (os : List ℕ) (i : ℕ) → i < k → (get_or (get_or (first_chunks 2 k os) i []) 0 0 ≡ get_or os (2 * i) 0) × (get_or (get_or (first_chunks 2 k os) i []) 1 0 ≡ get_or os (2 * i + 1) 0)
pair_at zero os i h = absurd (omega arith)
pair_at (suc k) os zero h = (get_or-take 2 os 0 0 (omega arith), get_or-take 2 os 1 0 (omega arith))
pair_at (suc k) os (suc i) h =
    let r = pair_at k (drop 2 os) i (omega arith) in
    let e : 2 * suc i ≡ 2 + 2 * i = omega arith in
    let f : 2 * suc i + 1 ≡ 2 + (2 * i + 1) = omega arith in
    (r.0 ∙ rw (e, get_or-drop), r.1 ∙ rw (f, get_or-drop))

-- the same of the pairs of a list
pub pairs_at : (os : List ℕ) {pairs : List (List ℕ)} → pairs ≡ first_chunks 2 (length os / 2) os → {i : ℕ} → i < length os / 2
    → (get_or (get_or pairs i []) 0 0 ≡ get_or os (2 * i) 0) × (get_or (get_or pairs i []) 1 0 ≡ get_or os (2 * i + 1) 0)
pairs_at os front h = rw front (pair_at _ os _ h)
