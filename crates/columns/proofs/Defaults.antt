-- The derived default of what is told is what stands with a refusal: counts of 0.
-- Assumes nothing.
use mathlib.Core.Path.{◌≡◌}
use Rattle.columns.specs.contracts.StringsDefault.TheImpl.{ghosts}
use Rattle.columns.specs.declared.Strings.{Strings}

pub default_counts : (r : Strings) → ghosts.is_default r → r ≡ record { strings = 0; octets = 0 }
default_counts r d = λ i. record { strings = d.0 i; octets = d.1 i }
