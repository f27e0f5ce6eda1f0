-- `deliver::reading::after_address` meets its contract: PID, DCS, and what is behind them.
use mathlib.Core.Path.{sym, ◌∙◌}
use native.Mathlib.Omega.{arith}
use Rattle.octets.proofs.Places.{octet_read}
use Rattle.deliver.proofs.FieldByField.{no_pid, no_dcs, to_coding}
use Rattle.deliver.proofs.reading.after_address.Goals as goal

pub returns-in_default : goal.returns-in_default
returns-in_default c = (no_pid _ _ _ _ (sym c.in_default.ensures), tt)

pub returns-in_default-octet : goal.returns-in_default-octet
returns-in_default-octet c =
    (no_dcs _ _ _ _ (sym c.in-Some.ensures) (sym c.in_default-octet.ensures), tt)

pub after_coding-requires : goal.after_coding-requires
after_coding-requires c =
    (c.requires, omega (arith, octet_read _ _ (sym c.in-Some-octet.ensures)))

pub returns : goal.returns
returns c =
    let r = c.after_coding.ensures in
    (r.0 ∙ to_coding _ _ _ _ (sym c.in-Some.ensures) (sym c.in-Some-octet.ensures), r.1)
