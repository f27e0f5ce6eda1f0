-- `message_store::put_part` meets its contract.
use native.Mathlib.Numerals.{add-one}
use Rattle.message_store.specs.Store.{with_part}
use Rattle.message_store.proofs.put_part.Goals as goal

pub returns : goal.returns
unfolding with_part
returns c = rw (c.part_at-at.ensures, add-one) at c.put_octets.ensures.list
