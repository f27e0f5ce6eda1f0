use mathlib.Core.Path.{refl}
use Rattle.octets.specs.Arrays.{pad}
use Rattle.header_elements.specs.Record.{held, values}
use Rattle.header_elements.proofs.HeaderElementsDefault.default.Goals as goal

pub returns : goal.returns
unfolding pad held values
returns c = refl
