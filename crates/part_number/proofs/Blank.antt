-- The default of a part's numbers is zeros, and a reference of eight bits.
-- Assumes nothing.
use mathlib.Core.Path.{◌≡◌}
use Rattle.part_number.specs.Numbering.{unnumbered}
use Rattle.part_number.specs.contracts.PartNumberDefault.TheImpl.{ghosts}
use Rattle.part_number.specs.declared.PartNumber.{PartNumber}

pub default_unnumbered : (n : PartNumber) → ghosts.is_default n → n ≡ unnumbered
default_unnumbered n d =
    let (reference, (total, number)) = d in
    λ i. record { reference = reference i; total = total i; number = number i }
