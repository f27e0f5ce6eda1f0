-- The default of header elements is no elements: a count of 0, and arrays of zeros.
-- Assumes nothing.
use mathlib.Core.Path.{◌≡◌}
use mathlib.Core.List.{[]}
use lib.ListN.{replicate}
use Rattle.octets.specs.Arrays.{pad}
use Rattle.header_elements.specs.Record.{held, values}
use Rattle.header_elements.specs.contracts.HeaderElementsDefault.TheImpl.{ghosts}
use Rattle.header_elements.specs.declared.HeaderElements.{HeaderElements}

pub default_none : (h : HeaderElements) → ghosts.is_default h → h ≡ held []
default_none h d = d

pub default_zeros : (h : HeaderElements) → ghosts.is_default h
    → h ≡ record { count = 0; identifiers = replicate 127 0; lengths = replicate 127 0; octets = replicate 253 0 }
unfolding pad held values
default_zeros h d = d
