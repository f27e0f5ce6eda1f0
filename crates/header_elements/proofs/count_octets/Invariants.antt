use Rattle.header_elements.proofs.Writing.{Counting}
use Rattle.header_elements.proofs.count_octets.Given as goal

abbrev pub invariant-loop-identifier : goal.invariant-loop-identifier
invariant-loop-identifier l = Counting l.identifiers l.lengths l.identifier-iterator.a.rest.now l.identifier-iterator.b.rest.now l.octets
