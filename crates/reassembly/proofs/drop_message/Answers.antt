-- `reassembly::drop_message` meets its contract: by the slot that is found.
use native.Mathlib.Omega.{arith}
use Rattle.std.proofs.lemmas.Result.{err_from_is_err_and}
use Rattle.reassembly.proofs.Taking.{room, drops_none, drops_open, drops_refused, found_there, found_none, found_refused}
use Rattle.reassembly.proofs.drop_message.Goals as goal

pub returns-in_err-k : goal.returns-in_err-k
returns-in_err-k c =
    let p = err_from_is_err_and c.from_residual.result c.from_residual.ensures.1 in
    rw (p.1, p.2) (drops_refused _ _ _ _ _ (found_refused _ c.in_err-k.ensures))

pub returns-in_default : goal.returns-in_default
returns-in_default c =
    let (k, is, past) = found_none _ (rw c.in_default.is at c.in_ok-k.ensures) in
    drops_none _ _ _ _ k is past

pub bounds-store-k : goal.bounds-store-k
bounds-store-k c =
    let (is, below) = found_there _ (rw c.in-Some.is at c.in_ok-k.ensures) in
    omega (arith, room _ _ _ _ _ is, below)

pub returns : goal.returns
returns c =
    let (is, below) = found_there _ (rw c.in-Some.is at c.in_ok-k.ensures) in
    drops_open _ _ _ _ _ is below
