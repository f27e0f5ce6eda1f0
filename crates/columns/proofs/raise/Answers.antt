-- `columns::raise` meets its contract: the first k places are raised.
use Prim.Native.Nat.{◌<◌}
use native.Mathlib.Omega.{arith}
use lib.ListN.{length, drop, length-take, get_or-append}
use lib.Seq.{set-append_left}
use Rattle.columns.proofs.Stepwise.{raised_next}
use Rattle.columns.proofs.raise.Goals as goal

pub loop-place-preserved : goal.loop-place-preserved
loop-place-preserved c =
    let l = c.loop-place in
    let h : l.place-index < length l.place-items = omega arith in
    let less : l.place-index < 255 = omega (arith, length-take c.args.n c.args.places.now, c.requires) in
    rw (← get_or-append l.place-items (drop c.args.n c.args.places.now) 0 l.place-index h, ← set-append_left l.place-items (drop c.args.n c.args.places.now)) (raised_next l.invariant less)
