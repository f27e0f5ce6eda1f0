use Prim.Native.Nat.{ℕ, ◌+◌, ◌/◌}
use mathlib.Core.Path.{◌≡◌}
use mathlib.Core.List.{List, map}
use lib.ListN.{length, drop}
use lib.Seq.{sets}
use Rattle.octets.specs.SemiOctets.{in_pairs}
use Rattle.octets.proofs.Laws.{Left}
use Rattle.address.specs.Writing.{digit_value}
use Rattle.address.proofs.writing.put_digits.Given as goal

abbrev pub octets_of : List ℕ → List ℕ
octets_of text = in_pairs (map digit_value text)

abbrev pub invariant-loop-j : goal.invariant-loop-j
invariant-loop-j l =
    (l.octets ≡ (length l.text + 1) / 2) × (length l.out ≡ length l.initial.out) × Left (sets l.initial.out l.at (octets_of l.text)) (l.at + length (octets_of l.text)) l.out (l.at + l.j) (drop l.j (octets_of l.text))
