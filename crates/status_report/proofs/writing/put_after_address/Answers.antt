-- `status_report::writing::put_after_address` meets its contract: one field after the other, and after each there is room for the others.
use Rattle.octets.proofs.Laws.{wrote_then}
use Rattle.status_report.proofs.writing.put_after_address.Goals as goal

pub returns : goal.returns
returns c =
    wrote_then c.encode_time-p1.ensures (wrote_then c.encode_time-p2.ensures (wrote_then c.put_octet-p3.ensures (wrote_then c.put_optional-p4.ensures c.put.ensures)))
