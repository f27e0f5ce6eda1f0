-- `columns::column_starts` meets its contract: each column's octets are counted, and added up.
use Prim.Native.Nat.{ℕ, zero, suc}
use mathlib.Core.Path.{◌≡◌, refl}
use native.Mathlib.Omega.{arith}
use borrow.Author.Rules.{rules}
use lib.ListN.{length, get_or, replicate}
use Rattle.columns.proofs.Places.{counts_within, starts_first}
use Rattle.columns.proofs.column_starts.Goals as goal

zero_at : (n k : ℕ) → ◌≡◌ {A = ℕ} (get_or (replicate n 0) k 0) 0
zero_at zero k = refl
zero_at (suc n) zero = refl
zero_at (suc n) (suc k) = zero_at n k

pub count_octets-requires : goal.count_octets-requires
count_octets-requires c = zero_at 255

pub sum_up-requires : goal.sum_up-requires
sum_up-requires c =
    let size : length c.count_octets.new.counts ≡ 255 = search rules in
    omega (arith, counts_within c.args.lengths.each.now c.count_octets.new.counts c.count_octets.ensures size, c.requires)

pub returns : goal.returns
returns c = starts_first _ _ c.count_octets.ensures c.sum_up.ensures
