-- `validity_period::period_in` meets its contract: by the format.
use native.Mathlib.Omega.{arith}
use borrow.Author.Tests.{ne_eqb}
use Rattle.validity_period.specs.Validity.{period_size, period_in}
use Rattle.validity_period.proofs.period_in.Goals as goal

pub bounds-octets-0 : goal.bounds-octets-0
unfolding period_size
bounds-octets-0 c = let p = rw c.in-2.is at c.requires in omega arith

pub returns-in-0 : goal.returns-in-0
unfolding period_in
returns-in-0 c = rw c.in-0.is

pub returns-in-2 : goal.returns-in-2
unfolding period_in
returns-in-2 c = rw c.in-2.is

pub returns-in-3 : goal.returns-in-3
unfolding period_in
returns-in-3 c = rw c.in-3.is

pub returns-in_default : goal.returns-in_default
unfolding period_in
returns-in_default c = rw (ne_eqb c.args.format 0 (omega arith), ne_eqb c.args.format 2 (omega arith), ne_eqb c.args.format 3 (omega arith))
