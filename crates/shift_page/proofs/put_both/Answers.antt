-- `shift_page::put_both` meets its contract: the first octets, then the second.
use Rattle.octets.proofs.Laws.{wrote_then}
use Rattle.shift_page.proofs.put_both.Goals as goal

pub returns : goal.returns
returns c = wrote_then c.put_octets-next.ensures c.put_octets.ensures
