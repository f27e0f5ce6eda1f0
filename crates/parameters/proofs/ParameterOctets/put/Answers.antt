-- `parameters::ParameterOctets::put` meets its contract: one part behind the other.
use Rattle.octets.proofs.Laws.{wrote_then}
use Rattle.parameters.proofs.ParameterOctets.put.Goals as goal

pub returns : goal.returns
returns c =
    let c4 = c.before.before.before in
    let c3 = c4.before.before.before.before in
    let c2 = c3.before.before.before.before in
    let c1 = c2.before.before.before.before in
    wrote_then (wrote_then (wrote_then c1.put_optional-p1.ensures c2.put_optional-p2.ensures) c3.put_optional-p3.ensures) c4.put_octets.ensures
