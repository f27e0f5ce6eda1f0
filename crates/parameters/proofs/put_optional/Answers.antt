-- `parameters::put_optional` meets its contract: one octet, or none.
use mathlib.Core.Path.{refl, sym, ap}
use native.Mathlib.Nat.{add-zero}
use native.Mathlib.Omega.{arith}
use Rattle.parameters.specs.Optional.{held}
use Rattle.parameters.proofs.put_optional.Goals as goal

pub put_octet-requires : goal.put_octet-requires
put_octet-requires c = omega (arith, ap held c.in-Some.is)

pub returns-in-None : goal.returns-in-None
returns-in-None c = rw c.in-None.is (record { place = sym (add-zero _); list = refl })

pub returns-in-Some : goal.returns-in-Some
returns-in-Some c = rw c.in-Some.is c.put_octet.ensures
