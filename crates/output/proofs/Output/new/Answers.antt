-- `output::Output::new` holds nothing, and zeros after it.
use native.Mathlib.Omega.{arith}
use Rattle.output.proofs.Fields.{padded_zeros}
use Rattle.output.proofs.Output.new.Goals as goal

pub invariant_of-result : goal.invariant_of-result
invariant_of-result c = (omega arith, padded_zeros 65536)
