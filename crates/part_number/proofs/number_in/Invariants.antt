use mathlib.Core.Path.{◌≡◌}
use Rattle.header_elements.specs.Elements.{elements_of}
use Rattle.header_elements.specs.InOctets.{octets_left}
use Rattle.part_number.specs.Numbering.{by_elements}
use Rattle.part_number.proofs.Walk.{resumed}
use Rattle.part_number.proofs.number_in.Given as goal

abbrev pub invariant-loop-element : goal.invariant-loop-element
invariant-loop-element l = by_elements (elements_of l.body) ≡ resumed (elements_of (octets_left l.element-iterator)) l.found
