-- `time::time_at` meets its contract.
use Rattle.octets.proofs.Laws.{part_size}
use Rattle.time.proofs.Laws.{time_stored}
use Rattle.time.proofs.time_at.Goals as goal

pub decode_time-requires : goal.decode_time-requires
decode_time-requires c = c.requires

pub returns : goal.returns
returns c = let a = c.args in time_stored _ (part_size a.at 7 a.«data».now c.requires) c.decode_time.ensures
