use Prim.Native.Nat.{ℕ, ◌+◌, ◌*◌, ◌^◌, ◌<◌}
use mathlib.Core.Path.{◌≡◌}
use lib.ListN.{length, drop}
use lib.Seq.{sets}
use Rattle.octets.proofs.Laws.{Left}
use Rattle.septets.specs.Septets.{packed_septets}
use Rattle.septets.proofs.Packing.{packed_over, Eight}
use Rattle.septets.proofs.pack_octets.Given as goal

abbrev pub invariant-loop-eight : goal.invariant-loop-eight
invariant-loop-eight l =
    ((i : ℕ) → i < length l.eights → Eight l.septets l.eights i) × (length l.out ≡ length l.initial.out) × (l.carry < 2 ^ l.fill)
    × Left (sets l.initial.out l.at (packed_septets l.fill l.septets)) (l.at + length (packed_septets l.fill l.septets)) l.out l.place (packed_over l.fill l.carry (drop (8 * l.eight-index) l.septets))
