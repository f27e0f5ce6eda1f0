-- `validity_period::validity_octets` meets its contract: by the format.
use native.Mathlib.Omega.{arith}
use borrow.Author.Tests.{eq-eqb, ne_eqb}
use Rattle.validity_period.specs.Validity.{period_size}
use Rattle.validity_period.proofs.validity_octets.Goals as goal

pub returns-in-0 : goal.returns-in-0
unfolding period_size
returns-in-0 c = (rw (eq-eqb _ 0 c.in-0.is), omega arith)

pub returns-in-2 : goal.returns-in-2
unfolding period_size
returns-in-2 c = (rw c.in-2.is, omega arith)

pub returns-in_default : goal.returns-in_default
unfolding period_size
returns-in_default c = (rw (ne_eqb c.args.format 0 (omega arith), ne_eqb c.args.format 2 (omega arith)), omega arith)
