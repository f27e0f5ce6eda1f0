-- `concatenation::put_parts` meets its contract: part after part is written, and what is left, written too, still gives the whole.
use native.Mathlib.Omega.{arith}
use Rattle.concatenation.proofs.Putting.{putting_end, putting_room, putting_digits, putting_next}
use Rattle.concatenation.proofs.put_parts.Goals as goal

pub put_message-at-requires : goal.put_message-at-requires
put_message-at-requires c =
    let l = c.loop-from in
    let p = c.in-Ok.ensures.0 in
    (omega (arith, p.small), putting_digits l.invariant.1 p, omega (arith, putting_room l.invariant.1 p, c.requires.2))

pub loop-from-preserved : goal.loop-from-preserved
loop-from-preserved c =
    let l = c.loop-from in
    let p = c.in-Ok.ensures in
    let w = c.put_message-at.ensures in
    (p.2, putting_next l.invariant.1 p.0 w)

pub returns : goal.returns
returns c = let e = putting_end c.loop-from.invariant.1 c.loop-from-test.false in record { place = e.0; list = e.1 }
