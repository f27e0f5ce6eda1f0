-- `report::writing::put_time` meets its contract: a time, or nothing.
use native.Mathlib.Omega.{arith}
use Rattle.time.proofs.Laws.{time_size}
use Rattle.report.proofs.writing.put_time.Goals as goal

pub encode_time-requires : goal.encode_time-requires
encode_time-requires c =
    let r = rw c.in-Some.is at c.requires in
    (r.0, omega (arith, r.1, time_size _ r.0))
