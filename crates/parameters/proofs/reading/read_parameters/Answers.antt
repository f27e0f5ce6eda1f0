-- `parameters::reading::read_parameters` meets its contract: one step for each parameter.
use mathlib.Core.Path.{sym, ◌∙◌}
use Rattle.parameters.proofs.StepsOfReader.{no_pid, no_dcs, no_udl, no_data, data_short, whole}
use Rattle.parameters.proofs.reading.read_parameters.Goals as goal

pub returns-in_default : goal.returns-in_default
returns-in_default c = no_pid _ _ _ (sym c.in_default.ensures)

pub returns-in_default-read_optional : goal.returns-in_default-read_optional
returns-in_default-read_optional c =
    no_dcs _ _ _ (sym c.in-Some.ensures) (sym c.in_default-read_optional.ensures)

pub returns-in_default-read_optional-2 : goal.returns-in_default-read_optional-2
returns-in_default-read_optional-2 c =
    no_udl _ _ _ (sym c.in-Some.ensures) (sym c.in-Some-read_optional.ensures)
    (sym c.in_default-read_optional-2.ensures)

pub returns-in_default-udl : goal.returns-in_default-udl
returns-in_default-udl c =
    no_data _ _ _ (sym c.in-Some.ensures) (sym c.in-Some-read_optional.ensures)
    (sym c.in-Some-read_optional-2.ensures) c.in_default-udl.is

pub returns-in_default-span : goal.returns-in_default-span
returns-in_default-span c =
    data_short _ _ _ (sym c.in-Some.ensures) (sym c.in-Some-read_optional.ensures)
    (sym c.in-Some-read_optional-2.ensures) c.in-Some-udl.is
    (c.user_data_octets-octets.ensures ∙ rw (c.user_data_coding.ensures, c.unwrap_or.ensures)) (sym c.in_default-span.ensures)

pub returns : goal.returns
returns c =
    whole _ _ _ (sym c.in-Some.ensures) (sym c.in-Some-read_optional.ensures)
    (sym c.in-Some-read_optional-2.ensures) c.in-Some-udl.is
    (c.user_data_octets-octets.ensures ∙ rw (c.user_data_coding.ensures, c.unwrap_or.ensures)) (sym c.in-Some-span.ensures)
