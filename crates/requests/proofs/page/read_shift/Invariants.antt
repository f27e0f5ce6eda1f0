-- `requests::page::read_shift` is safe and ends: fewer reports than lines are counted.
use Rattle.std.proofs.Common.{◌<◌}
use Rattle.requests.proofs.page.read_shift.Given as goal

abbrev pub invariant-loop-number : goal.invariant-loop-number
invariant-loop-number g l = l.count < l.number
