-- `reassembly::find_by` meets its contract: by the address's length, the store, and the slots.
use Rattle.std.proofs.Common.{◌≤◌, sym, ap, ◌∙◌}
use Rattle.std.specs.Prelude.{Ok}
use native.Mathlib.Omega.{arith}
use Rattle.message_store.proofs.Keys.{key_named, text_short}
use Rattle.message_store.proofs.Slots.{fits_room}
use Rattle.reassembly.specs.Internal.{slot_found}
use Rattle.reassembly.proofs.Taking.{fits_few, finds_unfit, finds}
use Rattle.reassembly.proofs.find_by.Goals as goal

pub returns-then-not-fits_store : goal.returns-then-not-fits_store
returns-then-not-fits_store c =
    let few : c.args.address.address.length ≤ 290 = grind (arith, fits_few) in
    ap slot_found (finds_unfit _ _ _ _ few (sym c.fits_store.ensures ∙ c.if-not-fits_store.true))

pub key_of-key-requires : goal.key_of-key-requires
key_of-key-requires c = rw c.number.ensures.2 (text_short c.args.address (grind (arith, fits_few)))

pub find_message-requires : goal.find_message-requires
find_message-requires c = fits_room _ (sym c.fits_store.ensures ∙ c.if-not-fits_store.false)

pub returns : goal.returns
returns c =
    let a = c.args in
    let few : a.address.address.length ≤ 290 = grind (arith, fits_few) in
    let named = c.as_slice.ensures ∙ key_named a.address a.reference a.total c.number.ensures c.key_of-key.ensures in
    ap Ok c.find_message.ensures ∙ ap slot_found (finds a.address a.reference a.total a.store.now few (sym c.fits_store.ensures ∙ c.if-not-fits_store.false) _ named)
