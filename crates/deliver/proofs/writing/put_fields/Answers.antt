-- `deliver::writing::put_fields` meets its contract: one field after the other, and after each there is room for the others.
use Rattle.octets.proofs.Laws.{wrote_then}
use Rattle.deliver.proofs.writing.put_fields.Goals as goal

pub returns : goal.returns
returns c =
    wrote_then c.put_octet-p1.ensures (wrote_then c.put_address-p2.ensures (wrote_then c.put_octet-p3.ensures (wrote_then c.put_octet-p4.ensures
    (wrote_then c.encode_time-p5.ensures (wrote_then c.put_octet-p6.ensures c.put_octets.ensures)))))
