-- `status_report::writing::put_fields` meets its contract: one field after the other.
use Rattle.octets.proofs.Laws.{wrote_then}
use Rattle.status_report.proofs.writing.put_fields.Goals as goal

pub returns : goal.returns
returns c =
    wrote_then c.put_octet-p1.ensures (wrote_then c.put_octet-p2.ensures (wrote_then c.put_address-p3.ensures c.put_after_address.ensures))
