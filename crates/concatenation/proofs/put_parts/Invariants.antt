use Prim.Native.Nat.{ℕ, ◌+◌, ◌-◌}
use mathlib.Core.Path.{◌≡◌}
use mathlib.Core.List.{List}
use lib.ListN.{length}
use lib.Seq.{sets}
use Rattle.concatenation.specs.Cutting.{parts_of}
use Rattle.concatenation.specs.Messages.{numbered}
use Rattle.concatenation.specs.Internal.{codes_of}
use Rattle.concatenation.proofs.Putting.{Putting}
use Rattle.concatenation.proofs.put_parts.Given as goal

abbrev pub all : ℕ → ℕ → List ℕ → List ℕ
all reference total text = numbered reference total 1 (parts_of (codes_of text))

abbrev pub invariant-loop-from : goal.invariant-loop-from
invariant-loop-from l =
    (length l.codes ≡ 255) × Putting l.reference l.total (sets l.initial.out 0 (all l.reference l.total l.text)) (0 + length (all l.reference l.total l.text)) l.text l.from l.number l.out l.at

abbrev pub decreases-loop-from : goal.decreases-loop-from
decreases-loop-from l = length l.text - l.from
