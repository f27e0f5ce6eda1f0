-- `time::timestamp::quarter_hours` meets its contract: sixteen bits hold every zone of eight bits, negated too.
use Prim.Native.Nat.{suc, ◌<◌}
use mathlib.Core.Path.{◌≡◌, sym, ap}
use mathlib.Core.Bool.{true, false, false≢true}
use native.Mathlib.Nat.{zero-add}
use native.Mathlib.Omega.{arith}
use borrow.Author.Tests.{ltb-true}
use lib.Dec.{T}
use lib.IntN.{ℤ, pos, negsuc, nat_abs, ◌-ℤ◌}
use lib.Signed.{lt_z, non_neg}
use mir.Syntax.{w8, w16}
use mir.Val.{SFits, to_z, of_z}
use mir.ValLaws.{to_z-of_z}
use Rattle.time.proofs.timestamp.quarter_hours.Goals as goal
use Rattle.time.proofs.timestamp.quarter_hours.Lts as lts
use Rattle.time.proofs.timestamp.quarter_hours.Reads as reads

small : (z : ℤ) → SFits w8 z → nat_abs z < 129
small (pos n) f = omega (arith, f.sfits)
small (negsuc n) f = omega (arith, f.sfits)

negated : (z : ℤ) → lt_z z (pos 0) ≡ true → pos 0 -ℤ z ≡ pos (nat_abs z)
negated (pos n) t = let h = ltb-true n 0 t in absurd (omega arith)
negated (negsuc n) t = ap pos (zero-add (suc n))

nonnegative : (z : ℤ) → lt_z z (pos 0) ≡ false → T (non_neg z)
nonnegative (pos n) t = tt
nonnegative (negsuc n) t = absurd (false≢true (sym t))

-- a zone as it is read back from its bits, and from sixteen bits
module _ (s : lts.Start reads.Pre reads.Post) where
  read : to_z w8 (of_z w8 s.args.zone) ≡ s.args.zone
  read = to_z-of_z w8 s.args.zone s.ranges.zone

  fits : SFits w16 (to_z w8 (of_z w8 s.args.zone))
  fits = rw read (record { sfits = omega (arith, s.ranges.zone.sfits) })

-- a negative one, negated
module _ (c : lts.Then1 reads.Pre reads.Post) where
  minus : pos 0 -ℤ to_z w16 (of_z w16 (to_z w8 (of_z w8 c.args.zone))) ≡ pos (nat_abs c.args.zone)
  minus = rw (to_z-of_z w16 _ (fits c.before), read c.before) (negated c.args.zone (rw (read c.before) at c.if-zone-lt0.true))

  minus_fits : SFits w16 (pos (nat_abs c.args.zone))
  minus_fits = record { sfits = omega (arith, small c.args.zone c.ranges.zone) }

pub overflow_cast-result : goal.overflow_cast-result
overflow_cast-result c = fits c.before

pub overflow_sub-result : goal.overflow_sub-result
overflow_sub-result c = rw (minus c) (minus_fits c)

pub overflow_cast-result-then-zone-lt0 : goal.overflow_cast-result-then-zone-lt0
overflow_cast-result-then-zone-lt0 c = rw (minus c, to_z-of_z w16 _ (minus_fits c)) (tt, omega (arith, small c.args.zone c.ranges.zone))

pub overflow_cast-result-else-zone-lt0 : goal.overflow_cast-result-else-zone-lt0
overflow_cast-result-else-zone-lt0 c = rw (read c.before) (nonnegative c.args.zone (rw (read c.before) at c.if-zone-lt0.false), omega (arith, small c.args.zone c.ranges.zone))

pub returns-then-zone-lt0 : goal.returns-then-zone-lt0
returns-then-zone-lt0 c = rw (minus c, to_z-of_z w16 _ (minus_fits c))

pub returns-else-zone-lt0 : goal.returns-else-zone-lt0
returns-else-zone-lt0 c = rw (read c.before)
