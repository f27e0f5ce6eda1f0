-- `message_store::has_key` meets its contract.
use Rattle.std.proofs.Common.{◌≡◌, ◌∙◌, sym, take, drop, length-drop, arith}
use lib.Seq.{take_all}
use Rattle.message_store.specs.Store.{has_key}
use Rattle.message_store.proofs.AtStart.{starts_begins}
use Rattle.message_store.proofs.has_key.Goals as goal

pub returns-then-is_open : goal.returns-then-is_open
unfolding has_key
returns-then-is_open c =
    let all : take 2346 (drop 10 c.args.slot.now) ≡ drop 10 c.args.slot.now = take_all 2346 (drop 10 c.args.slot.now) (rw length-drop (omega arith)) in
    rw (sym c.is_open.ensures ∙ c.if-is_open.true) (c.starts_with.ensures.value ∙ rw all (starts_begins _ _))
