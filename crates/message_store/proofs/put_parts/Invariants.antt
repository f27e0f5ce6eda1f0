use Rattle.std.proofs.Common.{◌≡◌, ◌+◌, ◌-◌, ◌*◌, ◌≤◌, ℕ, List, [], length}
use lib.Seq.{sets}
use Rattle.octets.proofs.Laws.{Left}
use Rattle.message_store.specs.Store.{coding_in, holdings, missing_from, shown_parts}
use Rattle.message_store.proofs.put_parts.Given as goal

abbrev pub rest : List ℕ → ℕ → ℕ → List ℕ
rest slot total n = shown_parts (coding_in slot) (holdings n (total + 1 - n) slot)

abbrev pub all : List ℕ → ℕ → List ℕ
all slot total = shown_parts (coding_in slot) (holdings 1 total slot)

abbrev pub invariant-loop-block : goal.invariant-loop-block
invariant-loop-block l =
    (4080 ≤ length l.initial.shown) × (length l.shown ≡ length l.initial.shown) × (l.at ≤ l.block-index * 510) × (missing_from (l.block-index + 1) (holdings (l.block-index + 1) (l.total + 1 - (l.block-index + 1)) l.slot) ≡ [])
    × Left (sets l.initial.shown 0 (all l.slot l.total)) (0 + length (all l.slot l.total)) l.shown l.at (rest l.slot l.total (l.block-index + 1))
