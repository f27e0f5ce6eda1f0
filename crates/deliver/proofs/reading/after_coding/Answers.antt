-- `deliver::reading::after_coding` meets its contract: field by field, as the line has them.
use mathlib.Core.Path.{refl, sym}
use mathlib.Core.List.{[]}
use Rattle.coding.proofs.Laws.{size_told}
use Rattle.deliver.specs.Internal.{fields_at}
use Rattle.deliver.proofs.FieldByField.{no_time, no_udl, no_data, all_there, all_inside}
use Rattle.deliver.proofs.reading.after_coding.Goals as goal

pub returns-in_default : goal.returns-in_default
returns-in_default c = (no_time _ _ _ _ _ _ (sym c.in_default.ensures), tt)

pub returns-in_default-octet : goal.returns-in_default-octet
returns-in_default-octet c =
    (no_udl _ _ _ _ _ _ (sym c.in-Some.ensures) (sym c.in_default-octet.ensures), tt)

pub returns-in_default-span : goal.returns-in_default-span
returns-in_default-span c =
    let size = size_told _ _ c.user_data_octets-octets.ensures c.user_data_coding.ensures in
    (no_data _ _ _ _ _ _ (sym c.in-Some.ensures) (sym c.in-Some-octet.ensures) size (sym c.in_default-span.ensures), tt)

pub returns : goal.returns
unfolding fields_at
returns c =
    let timed = sym c.in-Some.ensures in
    let counted = sym c.in-Some-octet.ensures in
    let size = size_told _ _ c.user_data_octets-octets.ensures c.user_data_coding.ensures in
    let there = sym c.in-Some-span.ensures in
    let (time-in, data-in, few) = all_inside _ 0 [] 0 _ _ timed counted size there (λ i. (c.type_inv.«data» i).fits) c.requires.1 in
    (all_there _ _ _ _ _ _ timed counted size there, (c.requires.0, time-in, data-in, few, refl))
