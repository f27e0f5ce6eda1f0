use Prim.Native.Nat.{◌*◌, ◌-◌, ◌≤◌}
use mathlib.Core.Path.{◌≡◌}
use lib.ListN.{length, drop}
use Rattle.gsm7.specs.Writing.{septets_of}
use Rattle.concatenation.specs.Internal.{counted_as}
use Rattle.concatenation.proofs.Counting.{counted_on}
use Rattle.concatenation.proofs.count_parts.Given as goal

abbrev pub invariant-loop-from : goal.invariant-loop-from
invariant-loop-from l =
    (length l.codes ≡ 255) × (l.septets ≤ 2 * l.from) × (l.septets ≤ 2 * length l.text) × (l.parts ≤ l.from) × (counted_on l.septets l.parts l.last (septets_of (drop l.from l.text)) ≡ counted_as (septets_of l.text))

abbrev pub decreases-loop-from : goal.decreases-loop-from
decreases-loop-from l = length l.text - l.from
