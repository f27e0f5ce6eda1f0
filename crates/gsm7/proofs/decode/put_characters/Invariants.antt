use Prim.Native.Nat.{◌-◌}
use Rattle.gsm7.proofs.Showing.{Shows}
use Rattle.gsm7.proofs.decode.put_characters.Given as goal

abbrev pub invariant-loop-consumed : goal.invariant-loop-consumed
invariant-loop-consumed g l = Shows g.F.Form.form l.«data» l.fill l.septets l.at l.initial.text l.text l.end l.replaced l.consumed l.place

abbrev pub decreases-loop-consumed : goal.decreases-loop-consumed
decreases-loop-consumed g l = l.septets - l.consumed
