-- The derived default of what is told is what stands with a refusal: counts of 0.
-- Assumes nothing.
use mathlib.Core.Path.{◌≡◌}
use Rattle.concatenation.specs.contracts.ConcatenatedDefault.TheImpl.{ghosts}
use Rattle.concatenation.specs.declared.Concatenated.{Concatenated}

pub default_counts : (r : Concatenated) → ghosts.is_default r → r ≡ record { octets = 0; messages = 0 }
default_counts r d = λ i. record { octets = d.0 i; messages = d.1 i }
