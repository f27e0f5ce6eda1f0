use Rattle.header_elements.specs.Record.{elements_with}
use Rattle.header_elements.proofs.Writing.{Putting}
use Rattle.header_elements.proofs.put_elements.Given as goal

abbrev pub invariant-loop-identifier : goal.invariant-loop-identifier
invariant-loop-identifier l =
    Putting (elements_with l.identifiers l.lengths l.values) l.rest l.identifier-iterator.a.rest.now l.identifier-iterator.b.rest.now l.places l.out
