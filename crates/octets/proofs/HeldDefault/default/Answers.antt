use native.Mathlib.Nat.{sub-zero}
use Rattle.octets.specs.Arrays.{pad}
use Rattle.octets.specs.Held.{holding}
use Rattle.octets.proofs.HeldDefault.default.Goals as goal

pub returns : goal.returns
unfolding pad holding
returns g c = rw sub-zero
