use Rattle.columns.proofs.Stepwise.{Measuring}
use Rattle.columns.proofs.measure.Given as goal

abbrev pub invariant-loop : goal.invariant-loop
invariant-loop l = Measuring l.block l.at l.count l.total l.place l.counter
