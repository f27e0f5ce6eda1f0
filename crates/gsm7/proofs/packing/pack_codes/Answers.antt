-- `gsm7::packing::pack_codes` meets its contract: too many septets, too little room, or written.
use native.Mathlib.Omega.{arith}
use native.Mathlib.Nat.{zero-add}
use Rattle.octets.proofs.Laws.{lent_refused, lent_short, lent_done, kept_by}
use Rattle.gsm7.proofs.PackingCases.{length_after, after_many, after_done}
use Rattle.gsm7.proofs.packing.pack_codes.Goals as goal

pub overflow_add-septets : goal.overflow_add-septets
overflow_add-septets c = omega (arith, c.header_septets.ensures)

pub returns-then-septets-gt255 : goal.returns-then-septets-gt255
returns-then-septets-gt255 c =
    let before = c.header_septets.ensures in
    lent_refused _ _ (after_many _ _ (omega (arith, before)))

pub returns-then-out-octet_count : goal.returns-then-out-octet_count
returns-then-out-octet_count c =
    let before = c.header_septets.ensures in
    lent_short _ (after_done _ _ (omega (arith, before))) (rw length_after (omega (arith, before, c.octet_count.ensures)))

pub put_packed-octets-requires : goal.put_packed-octets-requires
put_packed-octets-requires c =
    let before = c.header_septets.ensures in
    let pre = c.requires in
    (pre.0, pre.1, pre.2, rw length_after (omega (arith, before, c.octet_count.ensures)))

pub shape_of-out : goal.shape_of-out
shape_of-out c = kept_by c.put_packed-octets.ensures

pub returns : goal.returns
returns c =
    let before = c.header_septets.ensures in
    let w = c.put_packed-octets.ensures in
    rw (w.place, zero-add, before)
    (lent_done _ (after_done _ _ (omega (arith, before, c.if-septets-gt255.false))) (rw length_after (omega (arith, before, c.octet_count.ensures, c.if-out-octet_count.false))) w.list)
