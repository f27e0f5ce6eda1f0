-- `parameters::reading::read_optional` meets its contract: an octet where it is announced, else none.
use mathlib.Core.Path.{sym}
use Rattle.layout.proofs.Steps.{done_reached}
use Rattle.parameters.proofs.StepsOfReader.{announced_read, announced_ends}
use Rattle.parameters.proofs.reading.read_optional.Goals as goal

pub returns-in_default : goal.returns-in_default
returns-in_default c = rw (c.if-is_announced.true, announced_ends _ _ (sym c.in_default.ensures))

pub returns-then-is_announced : goal.returns-then-is_announced
returns-then-is_announced c = rw (c.if-is_announced.true, announced_read _ _ (sym c.in-Some.ensures))

pub returns : goal.returns
returns c = rw (c.if-is_announced.false, done_reached)
