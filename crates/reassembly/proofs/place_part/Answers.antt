-- `reassembly::place_part` meets its contract, case by case.
use Rattle.std.proofs.Common.{◌≡◌, refl, rules}
use Rattle.std.specs.Prelude.{Ok}
use Rattle.message_store.specs.Store.{slot_at}
use Rattle.message_store.proofs.Slots.{slot_found, slot_past}
use Rattle.reassembly.proofs.Joining.{places_open, places_new, places_full}
use Rattle.reassembly.proofs.place_part.Goals as goal

pub returns-in-Some : goal.returns-in-Some
returns-in-Some c =
    let (is, below) = slot_found _ c.in-Some.ensures in
    let k = c.in-Some.k in
    let cut : c.unwrap.result.now ≡ slot_at k c.args.store.now = search rules in
    rw (c.split_at_mut-from.ensures.front, c.split_at_mut-from.ensures.back) (places_open _ _ _ _ _ k is below cut (c.join.result, c.join.new.slot) c.join.ensures)

pub returns-in_default-find_free : goal.returns-in_default-find_free
returns-in_default-find_free c = places_full _ _ _ _ _ _ refl (slot_past _ c.in_default.ensures) _ refl (slot_past _ c.in_default-find_free.ensures)

pub returns : goal.returns
returns c =
    let (is, below) = slot_found _ c.in-Some-find_free.ensures in
    let k = c.in-Some-find_free.free in
    let cut : c.unwrap-2.result.now ≡ slot_at k c.args.store.now = search rules in
    rw (c.split_at_mut-from-2.ensures.front, c.split_at_mut-from-2.ensures.back) (places_new _ _ _ _ _ _ refl (slot_past _ c.in_default.ensures) k is below cut (Ok c.begin_message.result, c.begin_message.new.slot) c.begin_message.ensures)
