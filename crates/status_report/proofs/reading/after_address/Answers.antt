-- `status_report::reading::after_address` meets its contract: field by field, as the layout has them.
use mathlib.Core.Path.{sym, ◌∙◌}
use native.Mathlib.Omega.{arith}
use Rattle.octets.proofs.Places.{octet_read, span_inside}
use Rattle.status_report.proofs.FieldByField.{no_time, no_discharge, no_status, to_status_lem}
use Rattle.status_report.proofs.reading.after_address.Goals as goal

pub returns-in_default : goal.returns-in_default
returns-in_default c = (no_time _ _ _ _ _ (sym c.in_default.ensures), tt)

pub returns-in_default-span : goal.returns-in_default-span
returns-in_default-span c = (no_discharge _ _ _ _ _ (sym c.in-Some.ensures) (sym c.in_default-span.ensures), tt)

pub returns-in_default-octet : goal.returns-in_default-octet
returns-in_default-octet c = (no_status _ _ _ _ _ (sym c.in-Some.ensures) (sym c.in-Some-span.ensures) (sym c.in_default-octet.ensures), tt)

pub after_status-requires : goal.after_status-requires
after_status-requires c =
    let p = c.requires in
    let (first, there) = span_inside _ _ 7 (sym c.in-Some.ensures) p.1 in
    (p.0, first, (span_inside _ _ 7 (sym c.in-Some-span.ensures) there).0, omega (arith, octet_read _ _ (sym c.in-Some-octet.ensures)))

pub returns : goal.returns
returns c =
    let r = c.after_status.ensures in
    (r.0 ∙ to_status_lem _ _ _ _ _ (sym c.in-Some.ensures) (sym c.in-Some-span.ensures) (sym c.in-Some-octet.ensures), r.1)
