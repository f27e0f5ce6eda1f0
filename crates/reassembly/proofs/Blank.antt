-- The default of what accepting a part answers is the blank answer.
-- Assumes nothing.
use mathlib.Core.Path.{◌≡◌}
use Rattle.reassembly.specs.Calls.{blank}
use Rattle.reassembly.specs.contracts.PartAcceptedDefault.TheImpl.{ghosts}
use Rattle.reassembly.specs.declared.PartAccepted.{PartAccepted}

pub default_blank : (a : PartAccepted) → ghosts.is_default a → a ≡ blank
default_blank a d = d
