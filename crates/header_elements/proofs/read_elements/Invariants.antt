use Rattle.header_elements.specs.InOctets.{octets_left}
use Rattle.header_elements.proofs.Storing.{SoFar}
use Rattle.header_elements.proofs.read_elements.Given as goal

abbrev pub invariant-loop-element : goal.invariant-loop-element
invariant-loop-element l = SoFar l.body l.identifiers l.lengths l.values l.count l.filled (octets_left l.element-iterator)
