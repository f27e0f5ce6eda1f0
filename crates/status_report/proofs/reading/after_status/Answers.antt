-- `status_report::reading::after_status` meets its contract: the end, or indicator and parameters.
use mathlib.Core.Path.{refl, sym}
use native.Mathlib.Omega.{arith}
use Rattle.parameters.proofs.StepsOfReader.{parameters_after}
use Rattle.status_report.specs.Internal.{fields_at}
use Rattle.status_report.proofs.FieldByField.{ended, no_indicator, no_parameters_lem, whole}
use Rattle.status_report.proofs.reading.after_status.Goals as goal

pub returns-then-at-data : goal.returns-then-at-data
unfolding fields_at
returns-then-at-data c = let p = c.requires in (ended _ _ _ c.if-at-data.true, (p.0, p.1, p.2, omega arith, omega arith, refl))

pub returns-in_default : goal.returns-in_default
returns-in_default c = (no_indicator _ _ _ c.if-at-data.false (sym c.in_default.ensures), tt)

pub returns-in_default-read_parameters : goal.returns-in_default-read_parameters
returns-in_default-read_parameters c =
    (no_parameters_lem _ _ _ c.if-at-data.false (sym c.in-Some.ensures) (sym c.in_default-read_parameters.ensures), tt)

pub returns : goal.returns
unfolding fields_at
returns c =
    let p = c.requires in
    let f = parameters_after _ _ (sym c.in-Some.ensures) (λ j. (c.type_inv.«data» j).fits) (sym c.in-Some-read_parameters.ensures) in
    (whole _ _ _ c.if-at-data.false (sym c.in-Some.ensures) f, (p.0, p.1, p.2, omega (arith, f.start, f.end), f.few, refl))

pub overflow_sub-result : goal.overflow_sub-result
overflow_sub-result c =
    omega (arith, (parameters_after _ _ (sym c.in-Some.ensures) (λ j. (c.type_inv.«data» j).fits) (sym c.in-Some-read_parameters.ensures)).start)
