-- The parameters of a report: PID, DCS and UDL, each held or not, and the user data's octets.
use Rattle.std.specs.Prelude.{ℕ, List, [], ◌++◌, None, Option}
use Rattle.parameters.specs.Optional.{octets_held}

pub record Parameters : Type 0 where
  pub pid : Option ℕ
  pub dcs : Option ℕ
  pub udl : Option ℕ
  pub ud : List ℕ

abbrev pub no_parameters : Parameters
no_parameters = record { pid = None; dcs = None; udl = None; ud = [] }

-- their octets
abbrev pub parameters_octets : Parameters → List ℕ
parameters_octets p = octets_held p.pid ++ octets_held p.dcs ++ octets_held p.udl ++ p.ud
