-- What an array with a length holds.
-- Assumes nothing.
use Prim.Native.Nat.{ℕ, ◌≤◌}
use mathlib.Core.Path.{◌≡◌}
use mathlib.Core.List.{List}
use native.Mathlib.Nat.{zero-add}
use lib.ListN.{length, replicate}
use Rattle.octets.specs.Held.{holding, filled, cleared_held}
use Rattle.octets.specs.declared.Held.{Held}
use Rattle.octets.specs.Lent.{Wrote}
use Rattle.octets.proofs.Laws.{sets_zeros, take_pad, cleared_pad}

-- what is stored is held
pub filled_holding : (n : ℕ) (xs : List ℕ) → filled (holding n xs) ≡ xs
unfolding holding
filled_holding n xs = take_pad n xs

-- and is cleared
pub holding_cleared : (n : ℕ) (xs : List ℕ) → cleared_held (holding n xs) ≡ holding n xs
unfolding holding
holding_cleared n xs = rw (cleared_pad n xs)

-- what a record holds, held anew
pub held_back : {n : ℕ} (h : Held n) → length (filled h) ≡ h.length → holding n (filled h) ≡ cleared_held h
unfolding holding
held_back h e = rw e

-- what was stored from the start of an array of zeros
pub stored : (n : ℕ) (xs : List ℕ) → length xs ≤ n → {k : ℕ} {array : List ℕ} → Wrote 0 xs (replicate n 0) k array → ◌≡◌ {A = Held n} (record { octets = array; length = k }) (holding n xs)
unfolding holding
stored n xs h w = rw (w.place, w.list, zero-add, sets_zeros n xs h)
