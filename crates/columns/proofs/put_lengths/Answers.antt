-- `columns::put_lengths` meets its contract: what is left of the lengths, stored too, gives them all.
use Prim.Native.Nat.{◌<◌}
use native.Mathlib.Omega.{arith}
use lib.ListN.{length, length-take}
use lib.Seq.{set-append_left}
use Rattle.std.proofs.Common.{take-append-drop}
use Rattle.std.proofs.lemmas.List.{set-get_or}
use Rattle.columns.proofs.Stepwise.{storing_start, storing_next, storing_bad, storing_end}
use Rattle.columns.proofs.put_lengths.Goals as goal

pub loop-length-init : goal.loop-length-init
loop-length-init c = rw take-append-drop (storing_start _ _ _ _)

pub returns-in_default : goal.returns-in_default
returns-in_default c =
    rw set-get_or (storing_bad c.loop-length.invariant (omega (arith, length-take c.args.count c.args.lengths.now)) c.in_default.ensures)

pub loop-length-preserved : goal.loop-length-preserved
loop-length-preserved c =
    let l = c.loop-length in
    let h : l.length-index < length l.length-items = omega arith in
    rw (← set-append_left) (storing_next l.invariant (omega (arith, length-take c.args.count c.args.lengths.now)) c.in-Some.ensures)

pub returns : goal.returns
returns c = storing_end c.loop-length.invariant (omega (arith, length-take c.args.count c.args.lengths.now))
