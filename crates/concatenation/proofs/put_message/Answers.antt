-- `concatenation::put_message` meets its contract: TP-UDL, header and packed septets are written one after the other.
use native.Mathlib.Omega.{arith}
use lib.ListN.{length-append}
use Rattle.octets.proofs.Laws.{wrote_then, kept_by}
use Rattle.septets.proofs.Inverse.{length_packed}
use Rattle.concatenation.proofs.put_message.Goals as goal

pub pack_octets-requires : goal.pack_octets-requires
pack_octets-requires c =
    let w = c.put_octet-data.ensures in
    let v = c.put_octets-text.ensures in
    let fill = c.fill_bits.ensures in
    (omega (arith, fill.1), omega arith, c.requires.1, rw (fill.0, v.place, w.place, kept_by v, kept_by w) (omega (arith, rw (length-append, length_packed) at c.requires.2)))

pub returns : goal.returns
returns c = wrote_then (rw c.header_septets-in_header.ensures at c.put_octet-data.ensures) (wrote_then c.put_octets-text.ensures (rw c.fill_bits.ensures.0 at c.pack_octets.ensures))
