-- `message_store::open_slot` meets its contract.
use mathlib.Core.Path.{◌∙◌}
use lib.ListN.{set, replicate}
use Rattle.octets.proofs.Laws.{sets_append}
use Rattle.message_store.specs.Store.{opened_with}
use Rattle.message_store.proofs.open_slot.Goals as goal

pub returns : goal.returns
unfolding opened_with
returns c =
    let a = c.args in
    c.put_octets-2.ensures.list
    ∙ rw c.put_octets.ensures.list (sets_append (replicate 8 0) a.key.now (set (set a.slot.now 0 1) 1 a.dcs) 2)
