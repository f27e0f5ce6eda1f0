-- The parameters that follow a TP-Parameter-Indicator (TS 23.040 §9.2.3.27): their layout.
use Rattle.std.specs.Prelude.{ℕ, Bool, true, false, List, [], Some, None, Option}
use Rattle.coding.specs.Coding.{coding_of, data_octets}
use Rattle.layout.specs.Layout.{user_data, is_set, Format, field, done, ◌then◌, one}
use Rattle.parameters.specs.Optional.{or_zero}
use Rattle.parameters.specs.Parameters.{Parameters}

-- an octet that is there where its indicator bit announces it
abbrev pub announced : Bool → Format (Option ℕ)
announced true = one λ x. done (Some x)
announced false = done None

-- the user data's octets: none without UDL; no DCS means 0
abbrev pub data_for : Option ℕ → Option ℕ → Format (List ℕ)
data_for dcs None = done []
data_for dcs (Some udl) = field (user_data (data_octets (coding_of (or_zero dcs)) udl)) done

-- indicator bits 0, 1, 2 announce PID, DCS, UDL with data
unfoldable pub parameters : ℕ → Format Parameters
parameters pi =
    announced (is_set 0 pi) then λ pid. announced (is_set 1 pi) then λ dcs. announced (is_set 2 pi) then λ udl.
    data_for dcs udl then λ ud. done (record { pid = pid; dcs = dcs; udl = udl; ud = ud })
