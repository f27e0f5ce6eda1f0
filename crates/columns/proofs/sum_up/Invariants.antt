use Rattle.columns.proofs.Stepwise.{Summing}
use Rattle.columns.proofs.sum_up.Given as goal

abbrev pub invariant-loop-start : goal.invariant-loop-start
invariant-loop-start l = Summing l.body l.initial.start-items l.start-items l.place l.start-index
