-- `report::reading::after_cause` meets its contract: indicator, time, then parameters.
use mathlib.Core.Path.{sym}
use Rattle.report.proofs.FieldByField.{refused_found, no_indicator, no_time, no_parameters_lem, found, all_there}
use Rattle.report.proofs.reading.after_cause.Goals as goal

pub returns-in_default : goal.returns-in_default
returns-in_default c = refused_found c.args.«data».now (no_indicator _ _ c.args.has_time _ _ _ (sym c.in_default.ensures))

pub returns-in_default-span : goal.returns-in_default-span
returns-in_default-span c =
    refused_found c.args.«data».now
    (no_time _ _ c.args.has_time _ _ _ (sym c.in-Some.ensures) (rw c.length_if-time_octets.ensures at (sym c.in_default-span.ensures)))

pub returns-in_default-read_parameters : goal.returns-in_default-read_parameters
returns-in_default-read_parameters c =
    refused_found c.args.«data».now
    (no_parameters_lem _ _ c.args.has_time _ _ _ (sym c.in-Some.ensures) (rw c.length_if-time_octets.ensures at (sym c.in-Some-span.ensures))
    (sym c.in_default-read_parameters.ensures))

pub overflow_sub-result : goal.overflow_sub-result
overflow_sub-result c =
    (found _ _ c.args.has_time (sym c.in-Some.ensures) (rw c.length_if-time_octets.ensures at (sym c.in-Some-span.ensures))
    (λ j. (c.type_inv.«data» j).fits) (sym c.in-Some-read_parameters.ensures)).start

pub returns : goal.returns
returns c =
    rw c.then_some.ensures
    (all_there _ _ c.args.has_time _ _ _ (sym c.in-Some.ensures) (rw c.length_if-time_octets.ensures at (sym c.in-Some-span.ensures))
    (λ j. (c.type_inv.«data» j).fits) (sym c.in-Some-read_parameters.ensures))
