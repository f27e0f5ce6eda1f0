-- `gsm7::packing::put_packed` meets its contract: header and packed septets are written one after the other.
use native.Mathlib.Omega.{arith}
use native.Mathlib.Nat.{zero-add}
use lib.ListN.{length-append}
use Rattle.octets.proofs.Laws.{wrote_then, kept_by}
use Rattle.septets.proofs.Inverse.{length_packed}
use Rattle.gsm7.proofs.packing.put_packed.Goals as goal

pub put_octets-at-requires : goal.put_octets-at-requires
put_octets-at-requires c = omega (arith, rw length-append at c.requires.3)

pub pack_octets-requires : goal.pack_octets-requires
pack_octets-requires c =
    let pre = c.requires in
    let w = c.put_octets-at.ensures in
    let fill = c.fill_bits-fill.ensures in
    (omega (arith, fill.1), pre.1, pre.2, rw (fill.0, w.place, zero-add, kept_by w) (rw (length-append, length_packed) at pre.3))

pub returns : goal.returns
returns c = wrote_then c.put_octets-at.ensures (rw c.fill_bits-fill.ensures.0 at c.pack_octets.ensures)
