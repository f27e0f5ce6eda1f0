-- `user_data_header::unpack_gsm7_with_header` meets its contract: each answer is a case of the definition.
use mathlib.Core.Path.{sym}
use native.Mathlib.Omega.{arith}
use Rattle.user_data_header.proofs.Cases.{read_long, read_short, read_over, read_few, read_after}
use Rattle.user_data_header.proofs.unpack_gsm7_with_header.Goals as goal

pub returns-then-septets-gt255 : goal.returns-then-septets-gt255
returns-then-septets-gt255 c = sym (read_long _ _ c.if-septets-gt255.true)

pub returns-then-data-h : goal.returns-then-data-h
returns-then-data-h c = sym (read_short _ _ c.if-septets-gt255.false c.header_octets-h.ensures.0 c.if-data-h.true)

pub header_septets-in_header-requires : goal.header_septets-in_header-requires
header_septets-in_header-requires c = c.header_octets-h.ensures.1

pub returns-then-septets-in_header : goal.returns-then-septets-in_header
returns-then-septets-in_header c = let h = c.before.before.before.before in
    sym (read_over _ _ h.if-septets-gt255.false h.header_octets-h.ensures.0 c.if-data-h.false c.header_septets-in_header.ensures c.if-septets-in_header.true)

pub returns-then-data-h-2 : goal.returns-then-data-h-2
returns-then-data-h-2 c = let h = c.before.before.before.before.before in
    sym (read_few _ _ h.if-septets-gt255.false h.header_octets-h.ensures.0 c.if-data-h.false c.header_septets-in_header.ensures c.if-septets-in_header.false (omega (arith, c.octet_count.ensures, c.if-data-h-2.true, c.fill_bits-fill.ensures.0, c.header_septets-in_header.ensures)))

pub header_and_text-requires : goal.header_and_text-requires
header_and_text-requires c = omega (arith, c.header_septets-in_header.ensures, c.fill_bits-fill.ensures.1)

pub returns : goal.returns
returns c =
    let h = c.before.before.before.before.before.before in
    let in_header = c.header_septets-in_header in
    read_after _ _ h.if-septets-gt255.false h.header_octets-h.ensures.0 c.if-data-h.false in_header.ensures c.if-septets-in_header.false c.header_and_text.ensures (omega (arith, c.fill_bits-fill.ensures.0, in_header.ensures)) (omega (arith, c.octet_count.ensures, c.if-data-h-2.false))
