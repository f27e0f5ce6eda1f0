-- `reassembly::take_message` meets its contract: by the slot that is found.
use native.Mathlib.Omega.{arith}
use Rattle.std.proofs.lemmas.Result.{err_from_is_err_and}
use Rattle.std.proofs.Common.{◌≡◌, rules}
use Rattle.message_store.specs.Store.{slot_at}
use Rattle.reassembly.proofs.Taking.{room, total_few, takes_none, takes_open, takes_refused, found_there, found_none, found_refused}
use Rattle.reassembly.proofs.take_message.Goals as goal

pub returns-in_err-k : goal.returns-in_err-k
returns-in_err-k c =
    let p = err_from_is_err_and c.from_residual.result c.from_residual.ensures.1 in
    rw (p.1, p.2) (takes_refused _ _ _ _ _ (found_refused _ c.in_err-k.ensures) _)

pub returns-in_default : goal.returns-in_default
returns-in_default c =
    let (k, is, past) = found_none _ (rw c.in_default.is at c.in_ok-k.ensures) in
    takes_none _ _ _ _ k is _ past

pub split_at_mut-from-requires : goal.split_at_mut-from-requires
split_at_mut-from-requires c =
    let (is, below) = found_there _ (rw c.in-Some.is at c.in_ok-k.ensures) in
    omega (arith, room _ _ _ _ _ is, below)

pub unwrap-requires : goal.unwrap-requires
unwrap-requires c =
    let (is, below) = found_there _ (rw c.in-Some.is at c.in_ok-k.ensures) in
    let space = room _ _ _ _ _ is in
    c.first_chunk_mut.ensures.variant.1 (omega (arith, space, below, c.split_at_mut-from.ensures.back_len))

pub hand_over-requires : goal.hand_over-requires
hand_over-requires c =
    let (is, below) = found_there _ (rw c.in-Some.is at c.in_ok-k.ensures) in
    total_few _ _ _ _ _ is below

pub returns : goal.returns
returns c =
    let handed = c.hand_over in
    let (is, below) = found_there _ (rw c.in-Some.is at c.in_ok-k.ensures) in
    let cut : c.unwrap.result.now ≡ slot_at c.in-Some.k c.args.store.now = search rules in
    rw (c.split_at_mut-from.ensures.front, c.split_at_mut-from.ensures.back) (takes_open _ _ _ _ _ is c.args.out.now below cut (handed.result, handed.new.slot, handed.new.out) handed.ensures)
