use Rattle.std.proofs.Common.{◌≡◌, ◌+◌, ◌-◌, ℕ, List, length, replicate}
use lib.Seq.{sets}
use Rattle.octets.proofs.Laws.{Left}
use Rattle.message_store.specs.Store.{holdings, missing_from}
use Rattle.message_store.proofs.missing_in.Given as goal

abbrev pub all : List ℕ → ℕ → List ℕ
all slot total = missing_from 1 (holdings 1 total slot)

abbrev pub invariant-loop-n : goal.invariant-loop-n
invariant-loop-n l = (length l.octets ≡ 8) × Left (sets (replicate 8 0) 0 (all l.slot l.total)) (0 + length (all l.slot l.total)) l.octets l.length (missing_from l.n (holdings l.n (l.total + 1 - l.n) l.slot))
