-- `submit::reading::after_coding` meets its contract: field by field, as the layout has them.
use mathlib.Core.Path.{◌≡◌, refl, sym, ◌∙◌}
use native.Mathlib.Omega.{arith}
use Rattle.octets.proofs.Places.{octet_read, span_inside}
use Rattle.coding.specs.Coding.{coding_of}
use Rattle.coding.proofs.Laws.{size_told}
use Rattle.user_data_header.specs.Header.{in_count}
use Rattle.submit.specs.Internal.{fields_at}
use Rattle.submit.proofs.FieldByField.{no_period, no_udl, no_data, not_whole_lem, passes_count, all_there, header_is, data_few}
use Rattle.submit.proofs.reading.after_coding.Goals as goal

pub returns-in_default : goal.returns-in_default
returns-in_default c = (no_period _ _ _ _ _ _ _ c.validity_octets-validity_octets.ensures.0 (sym c.in_default.ensures), tt)

pub returns-in_default-octet : goal.returns-in_default-octet
returns-in_default-octet c = (no_udl _ _ _ _ _ _ _ c.validity_octets-validity_octets.ensures.0 (sym c.in-Some.ensures) (sym c.in_default-octet.ensures), tt)

pub returns-in_default-span : goal.returns-in_default-span
returns-in_default-span c =
    (no_data _ _ _ _ _ _ _ c.validity_octets-validity_octets.ensures.0 (sym c.in-Some.ensures) (sym c.in-Some-octet.ensures) (size_told _ _ c.user_data_octets-octets.ensures c.user_data_coding.ensures) (sym c.in_default-span.ensures), tt)

pub slice_bounds-header_size-end : goal.slice_bounds-header_size-end
slice_bounds-header_size-end c = (span_inside _ _ _ (sym c.in-Some-span.ensures) (omega (arith, octet_read _ _ (sym c.in-Some-octet.ensures)))).1

pub returns-then-octets-header : goal.returns-then-octets-header
returns-then-octets-header c =
    (not_whole_lem _ _ _ _ _ _ _ c.validity_octets-validity_octets.ensures.0 (sym c.in-Some.ensures) (sym c.in-Some-octet.ensures) (size_told _ _ c.user_data_octets-octets.ensures c.user_data_coding.ensures) (sym c.in-Some-span.ensures) c.header_size-header.ensures.0 c.if-octets-header.true, tt)

pub returns-then-not-in_count : goal.returns-then-not-in_count
returns-then-not-in_count c =
    let told : in_count (coding_of c.args.dcs) c.in-Some-octet.udl c.header_size-header.result ≡ c.in_count.result = rw (← c.user_data_coding-2.ensures) (sym c.in_count.ensures) in
    (passes_count _ _ _ _ _ _ _ c.validity_octets-validity_octets.ensures.0 (sym c.in-Some.ensures) (sym c.in-Some-octet.ensures) (size_told _ _ c.user_data_octets-octets.ensures c.user_data_coding.ensures) (sym c.in-Some-span.ensures) c.header_size-header.ensures.0 c.if-octets-header.false (told ∙ c.if-not-in_count.true), tt)

pub returns : goal.returns
unfolding fields_at
returns c =
    let told : in_count (coding_of c.args.dcs) c.in-Some-octet.udl c.header_size-header.result ≡ c.in_count.result = rw (← c.user_data_coding-2.ensures) (sym c.in_count.ensures) in
    let p = c.requires in
    let format = c.validity_octets-validity_octets.ensures.0 in
    let size = size_told _ _ c.user_data_octets-octets.ensures c.user_data_coding.ensures in
    let udl = sym c.in-Some-octet.ensures in
    let header = c.header_size-header.ensures.0 in
    let fits = told ∙ c.if-not-in_count.false in (
      all_there _ _ _ _ _ _ _ format (sym c.in-Some.ensures) udl size (sym c.in-Some-span.ensures) header c.if-octets-header.false fits,
      (p.0, (span_inside _ _ _ (sym c.in-Some.ensures) p.1).0, format, (span_inside _ _ _ (sym c.in-Some-span.ensures) (omega (arith, octet_read _ _ udl))).0, data_few _ (λ j. (c.type_inv.«data» j).fits) _ udl _ size, size, header_is _ _ _ _ (sym c.in-Some-span.ensures) header, c.if-octets-header.false, fits, refl),
    )
