use Prim.Native.Nat.{ℕ, ◌+◌, ◌≤◌}
use mathlib.Core.Path.{◌≡◌}
use mathlib.Core.List.{List, map}
use lib.ListN.{length, take, drop}
use lib.Seq.{sets}
use Rattle.octets.specs.SemiOctets.{semi_octets}
use Rattle.octets.proofs.Laws.{Left}
use Rattle.address.specs.Address.{digit_character, without_f}
use Rattle.address.proofs.digits_text.Given as goal

-- the digits that semi-octets stand for
abbrev pub digits_in : List ℕ → List ℕ
digits_in ds = map digit_character (without_f ds)

abbrev pub invariant-loop-i : goal.invariant-loop-i
invariant-loop-i l =
    let whole = digits_in (take l.count (semi_octets l.value)) in
    (l.n ≤ l.i) × (length l.text ≡ length l.initial.text) × Left (sets l.initial.text 0 whole) (0 + length whole) l.text l.n (digits_in (drop l.i (take l.count (semi_octets l.value))))
