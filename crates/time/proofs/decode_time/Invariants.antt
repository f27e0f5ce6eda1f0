use Prim.Native.Nat.{◌+◌, ◌*◌}
use mathlib.Core.Path.{◌≡◌}
use lib.ListN.{length, take, drop}
use lib.Seq.{sets}
use Rattle.octets.proofs.Laws.{Left}
use Rattle.time.specs.Time.{time_digits}
use Rattle.time.proofs.decode_time.Given as goal

abbrev pub invariant-loop-i : goal.invariant-loop-i
invariant-loop-i l =
    (length (take 7 (drop l.at l.«data»)) ≡ 7)
    × Left (sets l.initial.digits 0 (time_digits (take 7 (drop l.at l.«data»)))) (0 + length (time_digits (take 7 (drop l.at l.«data»)))) l.digits (2 * l.i) (time_digits (drop l.i (take 7 (drop l.at l.«data»))))
