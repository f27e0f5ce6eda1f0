-- Parameters that go with their indicator, as a format makes them and as a writer's checks ask.
-- Assumes nothing.
use Rattle.std.specs.Prelude.{Some, None, Option}
use Prim.Native.Nat.{ℕ, ◌+◌, ◌*◌, ◌%◌}
use mathlib.Core.Path.{◌≡◌}
use lib.ListN.{length}
use Rattle.coding.specs.Coding.{coding_of, data_octets}
use Rattle.parameters.specs.Optional.{held, or_zero}
use Rattle.parameters.specs.Parameters.{Parameters}

-- the user data's octets by DCS and UDL: none without UDL; no DCS means 0
abbrev pub data_count : Option ℕ → Option ℕ → ℕ
data_count dcs None = 0
data_count dcs (Some udl) = data_octets (coding_of (or_zero dcs)) udl

-- indicator bits 0, 1, 2 say which of PID, DCS and UDL are held, and there are as many octets of user data as DCS and UDL give
pub record Agreeing (pi : ℕ) (p : Parameters) : Type 0 where
  pub bits : pi % 8 ≡ held p.pid + 2 * held p.dcs + 4 * held p.udl
  pub counted : length p.ud ≡ data_count p.dcs p.udl
