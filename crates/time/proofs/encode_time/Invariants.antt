use Prim.Native.Nat.{◌+◌, ◌*◌}
use mathlib.Core.Path.{◌≡◌}
use lib.ListN.{length, drop}
use lib.Seq.{sets}
use Rattle.octets.proofs.Laws.{Left}
use Rattle.time.specs.Time.{time_octets}
use Rattle.time.proofs.encode_time.Given as goal

abbrev pub invariant-loop-i : goal.invariant-loop-i
invariant-loop-i l =
    (length l.digits ≡ 14) × (length l.out ≡ length l.initial.out)
    × Left (sets l.initial.out l.at (time_octets l.digits)) (l.at + length (time_octets l.digits)) l.out (l.at + l.i) (time_octets (drop (2 * l.i) l.digits))
