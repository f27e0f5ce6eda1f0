use Rattle.columns.proofs.StringByString.{Taking}
use Rattle.columns.proofs.take_strings.Given as goal

abbrev pub invariant-loop-n : goal.invariant-loop-n
invariant-loop-n l = Taking l.block l.body l.lengths.each.now l.initial.octets l.places l.octets l.at l.n-index
