-- `columns::take_string` meets its contract: the octets are stored one by one, each from its place.
use Prim.Native.Nat.{◌<◌}
use mathlib.Core.Path.{refl}
use native.Mathlib.Omega.{arith}
use native.Mathlib.Nat.{add_assoc}
use lib.ListN.{length-take}
use lib.Seq.{get_or-take}
use Rattle.octets.proofs.Laws.{wrote_then, wrote_one}
use Rattle.columns.specs.Internal.{picked}
use Rattle.columns.proofs.Stepwise.{picked_next}
use Rattle.columns.proofs.take_string.Goals as goal

pub loop-k-init : goal.loop-k-init
unfolding picked
loop-k-init c = record { place = refl; list = refl }

pub loop-k-preserved : goal.loop-k-preserved
loop-k-preserved c =
    let l = c.loop-k in
    let h : l.k < c.args.n = omega (arith, length-take c.args.n c.args.places.now) in
    rw (← add_assoc, ← picked_next l.k c.args.places.now c.args.block.now, get_or-take) (wrote_then l.invariant (wrote_one _ _ _))
