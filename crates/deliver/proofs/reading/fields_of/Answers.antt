-- `deliver::reading::fields_of` meets its contract: it finds what the line reads.
use mathlib.Core.Path.{sym, ◌∙◌}
use Rattle.deliver.proofs.FieldByField.{no_first, other_type, no_address, to_address_lem}
use Rattle.deliver.proofs.reading.fields_of.Goals as goal

pub returns-in_default : goal.returns-in_default
returns-in_default c = (no_first _ (sym c.in_default.ensures), tt)

pub returns-then-first-ne-MTI_DELIVER : goal.returns-then-first-ne-MTI_DELIVER
returns-then-first-ne-MTI_DELIVER c = (other_type _ (sym c.in-Some.ensures) c.if-first-ne-MTI_DELIVER.true, tt)

pub returns-in_default-address_span : goal.returns-in_default-address_span
returns-in_default-address_span c =
    (no_address _ (sym c.in-Some.ensures) c.if-first-ne-MTI_DELIVER.false (sym c.in_default-address_span.ensures), tt)

pub after_address-requires : goal.after_address-requires
after_address-requires c =
    (to_address_lem _ (sym c.in-Some.ensures) c.if-first-ne-MTI_DELIVER.false (sym c.in-Some-address_span.ensures)).0

pub returns : goal.returns
returns c =
    let r = c.after_address.ensures in
    let t = to_address_lem _ (sym c.in-Some.ensures) c.if-first-ne-MTI_DELIVER.false (sym c.in-Some-address_span.ensures) in
    (r.0 ∙ t.1, rw t.2 at r.1)
