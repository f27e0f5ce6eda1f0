-- `report::writing::put_fields` meets its contract: one field after the other.
use native.Mathlib.Omega.{arith}
use Rattle.octets.proofs.Laws.{wrote_then, chain_start, chain_step}
use Rattle.report.proofs.CheckByCheck.{only_udhi}
use Rattle.report.proofs.writing.put_fields.Goals as goal

pub put-requires : goal.put-requires
put-requires c =
    let chain = chain_step (chain_step (chain_step (chain_start c.put_octet-p1.ensures) c.put_optional-p2.ensures) c.put_octet-p3.ensures) c.put_time-p4.ensures in
    omega (arith, chain.place, chain.kept, c.requires.2)

pub returns : goal.returns
returns c =
    wrote_then (rw (c.first_octet-first.ensures, only_udhi) at c.put_octet-p1.ensures) (wrote_then c.put_optional-p2.ensures (wrote_then c.put_octet-p3.ensures (wrote_then c.put_time-p4.ensures c.put.ensures)))
