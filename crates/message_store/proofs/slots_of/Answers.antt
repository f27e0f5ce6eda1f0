-- `message_store::slots_of` meets its contract: the arrays of the first octets are the slots.
use Rattle.message_store.proofs.Slots.{slots_cut}
use Rattle.message_store.proofs.slots_of.Goals as goal

pub returns : goal.returns
returns c = slots_cut c.args.store.now c.requires _ c.as_chunks.ensures.front
