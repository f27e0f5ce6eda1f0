-- `submit::reading::fields_of` meets its contract: it finds what the layout reads.
use mathlib.Core.Path.{sym, ◌∙◌}
use Rattle.submit.proofs.FieldByField.{no_first, other_type, no_mr, no_address, no_pid, no_dcs, to_dcs, room, address_third}
use Rattle.submit.proofs.reading.fields_of.Goals as goal

pub returns-in_default : goal.returns-in_default
returns-in_default c = (no_first _ (sym c.in_default.ensures), tt)

pub returns-then-first-ne-MTI_SUBMIT : goal.returns-then-first-ne-MTI_SUBMIT
returns-then-first-ne-MTI_SUBMIT c = (other_type _ (sym c.in-Some.ensures) c.if-first-ne-MTI_SUBMIT.true, tt)

pub returns-in_default-octet : goal.returns-in_default-octet
returns-in_default-octet c = (no_mr _ (sym c.in-Some.ensures) c.if-first-ne-MTI_SUBMIT.false (sym c.in_default-octet.ensures), tt)

pub returns-in_default-address_span : goal.returns-in_default-address_span
returns-in_default-address_span c = (no_address _ (sym c.in-Some.ensures) c.if-first-ne-MTI_SUBMIT.false (sym c.in-Some-octet.ensures) (sym c.in_default-address_span.ensures), tt)

pub returns-in_default-octet-2 : goal.returns-in_default-octet-2
returns-in_default-octet-2 c =
    (no_pid _ (sym c.in-Some.ensures) c.if-first-ne-MTI_SUBMIT.false (sym c.in-Some-octet.ensures) (sym c.in-Some-address_span.ensures) (sym c.in_default-octet-2.ensures), tt)

pub returns-in_default-octet-3 : goal.returns-in_default-octet-3
returns-in_default-octet-3 c =
    (no_dcs _ (sym c.in-Some.ensures) c.if-first-ne-MTI_SUBMIT.false (sym c.in-Some-octet.ensures) (sym c.in-Some-address_span.ensures) (sym c.in-Some-octet-2.ensures) (sym c.in_default-octet-3.ensures), tt)

pub after_coding-requires : goal.after_coding-requires
after_coding-requires c =
    room _ (sym c.in-Some.ensures) c.if-first-ne-MTI_SUBMIT.false (sym c.in-Some-octet.ensures) (sym c.in-Some-address_span.ensures) (sym c.in-Some-octet-2.ensures) (sym c.in-Some-octet-3.ensures)

pub returns : goal.returns
returns c =
    let r = c.after_coding.ensures in
    (r.0 ∙ to_dcs _ (sym c.in-Some.ensures) c.if-first-ne-MTI_SUBMIT.false (sym c.in-Some-octet.ensures) (sym c.in-Some-address_span.ensures) (sym c.in-Some-octet-2.ensures) (sym c.in-Some-octet-3.ensures) (λ j. (c.type_inv.«data» j).fits), rw (address_third _ (sym c.in-Some.ensures) c.if-first-ne-MTI_SUBMIT.false (sym c.in-Some-octet.ensures) (sym c.in-Some-address_span.ensures)) at r.1)
