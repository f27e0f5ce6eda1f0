-- `status_report::reading::fields_of` meets its contract: it finds what the layout reads.
use mathlib.Core.Path.{sym, ◌∙◌}
use Rattle.status_report.proofs.FieldByField.{no_first, other_type, no_reference, no_address, to_address_lem}
use Rattle.status_report.proofs.reading.fields_of.Goals as goal

pub returns-in_default : goal.returns-in_default
returns-in_default c = (no_first _ (sym c.in_default.ensures), tt)

pub returns-then-first-ne-MTI_STATUS_REPORT : goal.returns-then-first-ne-MTI_STATUS_REPORT
returns-then-first-ne-MTI_STATUS_REPORT c = (other_type _ (sym c.in-Some.ensures) c.if-first-ne-MTI_STATUS_REPORT.true, tt)

pub returns-in_default-octet : goal.returns-in_default-octet
returns-in_default-octet c = (no_reference _ (sym c.in-Some.ensures) c.if-first-ne-MTI_STATUS_REPORT.false (sym c.in_default-octet.ensures), tt)

pub returns-in_default-address_span : goal.returns-in_default-address_span
returns-in_default-address_span c =
    (no_address _ (sym c.in-Some.ensures) c.if-first-ne-MTI_STATUS_REPORT.false (sym c.in-Some-octet.ensures) (sym c.in_default-address_span.ensures), tt)

pub after_address-requires : goal.after_address-requires
after_address-requires c =
    let (room, past, is, place) =
    to_address_lem _ (sym c.in-Some.ensures) c.if-first-ne-MTI_STATUS_REPORT.false (sym c.in-Some-octet.ensures) (sym c.in-Some-address_span.ensures) in
    (room, past)

pub returns : goal.returns
returns c =
    let r = c.after_address.ensures in
    let (room, past, is, place) =
    to_address_lem _ (sym c.in-Some.ensures) c.if-first-ne-MTI_STATUS_REPORT.false (sym c.in-Some-octet.ensures) (sym c.in-Some-address_span.ensures) in
    (r.0 ∙ is, rw place at r.1)
