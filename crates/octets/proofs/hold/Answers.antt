use Rattle.octets.specs.Held.{holding}
use Rattle.octets.proofs.hold.Goals as goal

pub returns : goal.returns
unfolding holding
returns g c = rw c.padded.ensures
