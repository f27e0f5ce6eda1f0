-- `septets::number_after` meets its contract: no bit is lost, as eight septets and seven bits are 63 bits.
use native.Mathlib.Omega.{arith}
use native.Mathlib.Nat.{lt_of_lt_of_le}
use lib.Pow.{shl_exact, pow_mono}
use Rattle.septets.proofs.Packing.{septets_lt, window_lt}
use Rattle.septets.proofs.number_after.Goals as goal

pub overflow_add-result : goal.overflow_add-result
overflow_add-result c =
    let (few, digits, narrow, small) = c.requires in
    let shifted = shl_exact 56 c.args.fill 64 (septets_lt c.args.septets.now digits few) (omega arith) in
    let window = lt_of_lt_of_le (window_lt c.args.septets.now digits few c.args.fill c.args.carry small) (pow_mono {j = 63} (omega arith)) in
    rw (c.number_from.ensures, shifted) (omega (arith, window))

pub returns : goal.returns
returns c =
    let (few, digits, narrow, small) = c.requires in
    rw (c.number_from.ensures, shl_exact 56 c.args.fill 64 (septets_lt c.args.septets.now digits few) (omega arith))
