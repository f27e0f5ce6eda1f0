-- `message_store::find_free` meets its contract: the first slot that is not open.
use Rattle.std.proofs.Common.{◌≡◌, Bool, true, false, not, List, ℕ, rules}
use Rattle.std.proofs.lemmas.Iterator.{IsFirst-from_position, YieldsList-from_slice}
use Rattle.message_store.specs.Store.{is_open, free_slot}
use Rattle.message_store.proofs.Slots.{slot_first}
use Rattle.message_store.proofs.find_free.Goals as goal

pub returns : goal.returns
unfolding free_slot
returns c =
    let test : List ℕ → Bool = λ s. not (is_open s) in
    slot_first c.slots_of.ensures test c.position.result
    (IsFirst-from_position _ _ c.position.result (λ s. test s ≡ true) (λ s. test s ≡ false) c.position.ensures.ran (YieldsList-from_slice c.slots_of.result.now (search rules)) (λ x q k. search rules) (λ x q k. search rules))
