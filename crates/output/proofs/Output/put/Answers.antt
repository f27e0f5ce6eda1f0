-- `output::Output::put` meets its contract: the test says whether the octets fit.
use mathlib.Core.Path.{sym}
use native.Mathlib.Omega.{arith}
use lib.ListN.{take}
use lib.Seq.{length-take-le}
use Rattle.output.proofs.Fields.{padded_put}
use Rattle.output.proofs.Laws.{fits, left_out, stored}
use Rattle.output.proofs.Output.put.Goals as goal

pub returns-then-octets-self : goal.returns-then-octets-self
returns-then-octets-self c =
    let o = c.self.inside in
    let held = length-take-le o.length o.octets c.self.invariant.0 in
    rw (← c.self.view_is, fits 65536 c.args.octets.now (take o.length o.octets) (rw held (omega arith))) (stored _ _ _ (omega arith) c.put_octets-self-inside.ensures)

pub returns-else-octets-self : goal.returns-else-octets-self
returns-else-octets-self c =
    let o = c.self.inside in
    let held = length-take-le o.length o.octets c.self.invariant.0 in
    rw (← c.self.view_is) (sym (left_out 65536 c.args.octets.now (take o.length o.octets) (rw held (omega arith))))

pub invariant_of-self : goal.invariant_of-self
invariant_of-self c =
    let o = c.self.inside in
    padded_put 65536 o.length o.octets c.self.invariant.0 c.self.invariant.1 c.args.octets.now (omega (arith, c.self.told, c.self.invariant.0, c.if-octets-self.true)) c.put_octets-self-inside.ensures
