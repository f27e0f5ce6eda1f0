-- `columns::put_string` meets its contract: octet after octet stands in its place.
use Prim.Native.Nat.{◌<◌}
use mathlib.Core.Path.{refl}
use native.Mathlib.Omega.{arith}
use lib.ListN.{length-take}
use lib.Seq.{get_or-drop, get_or-take}
use Rattle.columns.specs.Internal.{scattered}
use Rattle.columns.proofs.Stepwise.{scattered_next}
use Rattle.columns.proofs.put_string.Goals as goal

pub loop-k-init : goal.loop-k-init
unfolding scattered
loop-k-init c = refl

pub loop-k-preserved : goal.loop-k-preserved
loop-k-preserved c =
    let l = c.loop-k in
    let h : l.k < c.args.n = omega (arith, length-take c.args.n c.args.places.now) in
    rw (← scattered_next l.k, l.invariant, get_or-take, get_or-drop)
