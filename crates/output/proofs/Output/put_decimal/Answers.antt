-- `output::Output::put_decimal` meets its contract: the library's digits are those of the definition.
use native.Mathlib.Omega.{arith}
use Rattle.output.proofs.Laws.{library_decimal}
use Rattle.output.proofs.Output.put_decimal.Goals as goal

pub returns : goal.returns
returns c = rw (c.format.ensures.text, library_decimal c.args.n (omega (arith, c.ranges.n))) at c.put_text.ensures
