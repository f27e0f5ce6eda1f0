-- `submit::writing::put_fields` meets its contract: one field after the other, and after each there is room for the others.
use Rattle.octets.proofs.Laws.{wrote_then}
use Rattle.submit.proofs.writing.put_fields.Goals as goal

pub returns : goal.returns
returns c =
    wrote_then (wrote_then (wrote_then c.put_octet-p1.ensures (wrote_then c.put_octet-p2.ensures c.put_address-p3.ensures)) (wrote_then c.put_octet-p4.ensures (wrote_then c.put_octet-p5.ensures c.put_period-p6.ensures)))
    (wrote_then c.put_octet-p7.ensures c.put_octets.ensures)
