-- `relay_address::RelayAddress::decode` meets its contract, field by field.
use mathlib.Core.Path.{sym}
use native.Mathlib.Omega.{arith}
use Rattle.relay_address.proofs.Reading.{none_there, absent, type_missing, value_missing, value_there, value_size, all_there}
use Rattle.relay_address.proofs.RelayAddress.decode.Goals as goal

pub returns-in_default : goal.returns-in_default
returns-in_default c = none_there _ (sym c.in_default.ensures)

pub returns-then-count-eq0 : goal.returns-then-count-eq0
returns-then-count-eq0 c = absent _ (sym c.in-Some.ensures) c.if-count-eq0.true

pub returns-in_default-octet : goal.returns-in_default-octet
returns-in_default-octet c = type_missing _ (sym c.in-Some.ensures) c.if-count-eq0.false (sym c.in_default-octet.ensures)

pub returns-in_default-span : goal.returns-in_default-span
returns-in_default-span c =
    value_missing _ (sym c.in-Some.ensures) c.if-count-eq0.false (sym c.in-Some-octet.ensures) (sym c.in_default-span.ensures)

pub slice_bounds-digits_text-count : goal.slice_bounds-digits_text-count
slice_bounds-digits_text-count c =
    (value_there _ (sym c.in-Some.ensures) c.if-count-eq0.false (sym c.in-Some-octet.ensures) (sym c.in-Some-span.ensures)).0

pub slice_bounds-digits_text-start : goal.slice_bounds-digits_text-start
slice_bounds-digits_text-start c =
    (value_there _ (sym c.in-Some.ensures) c.if-count-eq0.false (sym c.in-Some-octet.ensures) (sym c.in-Some-span.ensures)).0

pub slice_bounds-digits_text-end : goal.slice_bounds-digits_text-end
slice_bounds-digits_text-end c =
    (value_there _ (sym c.in-Some.ensures) c.if-count-eq0.false (sym c.in-Some-octet.ensures) (sym c.in-Some-span.ensures)).1

pub digits_text-length-requires : goal.digits_text-length-requires
digits_text-length-requires c =
    let size = value_size _ (sym c.in-Some.ensures) c.if-count-eq0.false (sym c.in-Some-octet.ensures) (sym c.in-Some-span.ensures) in
    (omega arith, omega (arith, size))

pub returns : goal.returns
returns c =
    all_there _ (sym c.in-Some.ensures) c.if-count-eq0.false (sym c.in-Some-octet.ensures) (sym c.in-Some-span.ensures)
    (λ i. (c.type_inv.«data» i).fits) (omega arith) c.digits_text-length.ensures
