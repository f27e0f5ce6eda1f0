-- `message_store::put_text` meets its contract: nothing where the header takes all septets or more.
use native.Mathlib.Omega.{arith}
use Prim.Native.Nat.{ℕ}
use mathlib.Core.List.{List}
use Rattle.message_store.specs.Part.{Part}
use Rattle.message_store.proofs.Shown.{text_none, header_within, text_room, text_cut}
use Rattle.message_store.proofs.put_text.Goals as goal

abbrev part : ℕ → List ℕ → Part
part udl octets = record { udl = udl; octets = octets }

pub returns-then-septets-in_header : goal.returns-then-septets-in_header
returns-then-septets-in_header c = text_none (part c.args.udl c.args.«data».now) c.requires.1 (omega (arith, c.ranges)) c.header_octets-h.ensures.0 c.header_septets-in_header.ensures _ _ c.if-septets-in_header.true

pub slice_bounds-unpack_septets-start : goal.slice_bounds-unpack_septets-start
slice_bounds-unpack_septets-start c = header_within (part c.args.udl c.args.«data».now) c.requires.1 (omega (arith, c.ranges)) c.header_octets-h.ensures.0 c.header_septets-in_header.ensures c.if-septets-in_header.false

pub slice_bounds-unpack_septets-count : goal.slice_bounds-unpack_septets-count
slice_bounds-unpack_septets-count c = header_within (part c.args.udl c.args.«data».now) c.requires.1 (omega (arith, c.ranges)) c.header_octets-h.ensures.0 c.header_septets-in_header.ensures c.if-septets-in_header.false

pub unpack_septets-put-requires : goal.unpack_septets-put-requires
unpack_septets-put-requires c = text_room (part c.args.udl c.args.«data».now) c.requires.1 (omega (arith, c.ranges)) c.header_octets-h.ensures.0 c.header_septets-in_header.ensures c.if-septets-in_header.false c.fill_bits.ensures.0 c.fill_bits.ensures.1 c.args.at c.requires.0

pub returns : goal.returns
returns c =
    rw (text_cut (part c.args.udl c.args.«data».now) c.requires.1 (omega (arith, c.ranges)) c.header_octets-h.ensures.0 c.header_septets-in_header.ensures c.if-septets-in_header.false c.fill_bits.ensures.0) at c.unpack_septets-put.ensures.0
