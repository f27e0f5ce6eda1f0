-- What a writer checks of an indicator and its parameters, in the order of document 01: 13 and 14 of the indicator, then 7, 8 and 15 of the user data.
use Rattle.std.specs.Prelude.{ℕ, ◌+◌, ◌*◌, ◌%◌, not, List, [], ◌∷◌, eqb, Some, None, Option}
use Rattle.octets.specs.Checks.{Check, ◌unless◌}
use Rattle.octets.specs.declared.Refusal.TheVariants.{IndicatorDisagrees, IndicatorExtended, UserDataWithoutLength}
use Rattle.coding.specs.Coding.{data_within as checks_within}
use Rattle.layout.specs.Layout.{is_set}
use Rattle.parameters.specs.Optional.{held, or_zero}

-- indicator bits 0, 1, 2 say exactly which of PID, DCS and UDL are held; bit 7 is not set
unfoldable pub indicator_checks : ℕ → Option ℕ → Option ℕ → Option ℕ → List Check
indicator_checks pi pid dcs udl =
    (IndicatorDisagrees unless eqb (pi % 8) (held pid + 2 * held dcs + 4 * held udl)) ∷ (IndicatorExtended unless not (is_set 7 pi)) ∷ []

-- user data of n octets within a limit: as UDL and DCS say, and at most the limit; none without UDL
unfoldable pub data_within : ℕ → Option ℕ → Option ℕ → ℕ → List Check
data_within limit dcs (Some udl) n = checks_within limit (or_zero dcs) udl n
data_within limit dcs None n = (UserDataWithoutLength unless eqb n 0) ∷ []
