use Rattle.columns.proofs.StringByString.{Putting}
use Rattle.columns.proofs.put_strings.Given as goal

abbrev pub invariant-loop-n : goal.invariant-loop-n
invariant-loop-n l = Putting l.octets l.lengths.each.now l.initial.out l.body l.out l.places l.at l.n-index
