-- `output::Output::clear` leaves zeros.
use native.Mathlib.Omega.{arith}
use Rattle.output.proofs.Fields.{padded_none, held_count}
use Rattle.output.proofs.Output.clear.Goals as goal

pub invariant_of-self : goal.invariant_of-self
invariant_of-self c =
    let o = c.self.inside in
    (omega arith, rw (c.fill.ensures.after (λ y e. e), held_count 65536 o.length o.octets c.self.invariant.0 c.self.invariant.1) (padded_none 65536 o.length o.octets c.self.invariant.0 c.self.invariant.1 (omega (arith, c.self.told, c.self.invariant.0))))
