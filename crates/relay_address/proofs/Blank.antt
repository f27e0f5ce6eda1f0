-- The default of what reading gives is no address, and no octets read.
-- Assumes nothing.
use Rattle.std.specs.Prelude.{None}
use mathlib.Core.Path.{◌≡◌}
use Rattle.relay_address.specs.contracts.RelayAddressReadDefault.TheImpl.{ghosts}
use Rattle.relay_address.specs.declared.RelayAddressRead.{RelayAddressRead}

pub default_read : (r : RelayAddressRead) → ghosts.is_default r → r ≡ record { address = None; octets_read = 0 }
default_read r (address, octets) = λ i. record { address = address i; octets_read = octets i }
