-- `reassembly::accept_fields` meets its contract: what user data say, the key, and where the part goes.
use Rattle.std.proofs.Common.{ℕ, ◌≡◌, ◌≤◌, List, length, get_or, take, drop, sym, ◌∙◌, Fits, w8}
use Rattle.std.specs.Prelude.{Ok}
use Rattle.std.proofs.lemmas.Result.{err_from_is_err_and}
use Rattle.octets.specs.Each.{Octets}
use Rattle.octets.proofs.Laws.{part_is, part_size}
use Rattle.address.specs.Address.{address_in, address_size}
use Rattle.address.specs.declared.SMSAddress.{SMSAddress}
use Rattle.layout.specs.Layout.{read_from}
use Rattle.deliver.specs.Layout.{fields}
use Rattle.deliver.specs.Internal.{found_says, Inside}
use Rattle.deliver.specs.declared.reading.DeliverFields.{DeliverFields}
use Rattle.message_store.specs.Part.{key_of}
use Rattle.message_store.proofs.Keys.{key_named, key_few, text_short}
use Rattle.reassembly.proofs.Accepting.{message, message_fits, sender_is, data_cut, says_is, fields_arrive, arrives_not, numbers_few}
use Rattle.reassembly.proofs.accept_fields.Goals as goal

module _ (s : List ℕ) (f : DeliverFields) (found : found_says s (Ok f) ≡ read_from fields s 0) (inside : Inside s 1 f) where
  data_few : length (data_cut s f found) ≤ 255
  data_few = rw (part_is f.«data» f.octets s, part_size f.«data» f.octets s inside.2) inside.3

  -- the sender
  module _ (inv : (i : ℕ) → Fits w8 (get_or s i 0)) (a : SMSAddress) (is : a ≡ address_in (take (address_size (drop f.address s)) (drop f.address s))) where
    octets : Octets s
    octets i = (inv i).fits

    sender_read : a ≡ (message s f found).tp_originating_address
    sender_read = sender_is s f found octets inside.0 a is

    text_few : a.address.length ≤ 290
    text_few = rw sender_read (message_fits s f found octets).address_fits

pub key_of-key-requires : goal.key_of-key-requires
key_of-key-requires c =
    let a = c.address_at-sender.result.address in
    rw c.number.ensures.2 (text_short a (text_few c.args.«data».now c.args.f c.requires.1 c.requires.2 c.type_inv.«data» a c.address_at-sender.ensures.0))

pub place_part-requires : goal.place_part-requires
place_part-requires c =
    let a = c.address_at-sender.result.address in
    let n = c.in_ok-part.part in
    let short = text_short a (text_few c.args.«data».now c.args.f c.requires.1 c.requires.2 c.type_inv.«data» a c.address_at-sender.ensures.0) in
    let named = c.as_slice.ensures ∙ key_named a n.reference n.total c.number.ensures c.key_of-key.ensures in
    let few = numbers_few (message c.args.«data».now c.args.f c.requires.1) c.args.store.now _ (sym (says_is c.args.«data».now c.args.f c.requires.1) ∙ sym c.in_ok-part.ensures) in
    (c.requires.0, rw named (key_few (key_of a n.reference n.total) short), few.0, few.1, data_few c.args.«data».now c.args.f c.requires.1 c.requires.2)

pub returns-in_err-part : goal.returns-in_err-part
returns-in_err-part c =
    let p = err_from_is_err_and c.from_residual.result c.from_residual.ensures.1 in
    rw (p.1, p.2) (arrives_not (message c.args.«data».now c.args.f c.requires.1) c.args.store.now _ (sym (says_is c.args.«data».now c.args.f c.requires.1) ∙ sym c.in_err-part.ensures))

pub returns : goal.returns
returns c =
    let a = c.address_at-sender.result.address in
    let n = c.in_ok-part.part in
    let named = c.as_slice.ensures ∙ key_named a n.reference n.total c.number.ensures c.key_of-key.ensures in
    let said = sym (says_is c.args.«data».now c.args.f c.requires.1) ∙ sym c.in_ok-part.ensures in
    fields_arrive c.args.«data».now c.args.f c.requires.1 c.args.store.now n said a (sender_read c.args.«data».now c.args.f c.requires.1 c.requires.2 c.type_inv.«data» a c.address_at-sender.ensures.0) _ named _ c.place_part.ensures
