use Rattle.header_elements.proofs.Writing.{Summing}
use Rattle.header_elements.proofs.sum_up.Given as goal

abbrev pub invariant-loop-start : goal.invariant-loop-start
invariant-loop-start l = Summing l.initial.start-items l.start-items l.place l.start-index
