-- `message_store::find_message` meets its contract: the first slot that has the key.
use Rattle.std.proofs.Common.{◌≡◌, Bool, true, false, List, ℕ, rules}
use Rattle.std.proofs.lemmas.Iterator.{IsFirst-from_position, YieldsList-from_slice}
use Rattle.message_store.specs.Store.{has_key, slot_with}
use Rattle.message_store.proofs.Slots.{slot_first}
use Rattle.message_store.proofs.find_message.Goals as goal

pub returns : goal.returns
unfolding slot_with
returns c =
    let test : List ℕ → Bool = has_key c.args.key.now in
    slot_first c.slots_of.ensures test c.position.result
    (IsFirst-from_position _ _ c.position.result (λ s. test s ≡ true) (λ s. test s ≡ false) c.position.ensures.ran (YieldsList-from_slice c.slots_of.result.now (search rules)) (λ x q k. search rules) (λ x q k. search rules))
