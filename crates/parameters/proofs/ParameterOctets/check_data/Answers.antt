-- `parameters::ParameterOctets::check_data` meets its contract: the tests are the definition's.
use borrow.Author.Tests.{eq-eqb, ne_eqb}
use Rattle.parameters.specs.Checking.{data_within}
use Rattle.parameters.proofs.ParameterOctets.check_data.Goals as goal

pub returns-then-octets-ne0 : goal.returns-then-octets-ne0
unfolding data_within
returns-then-octets-ne0 c = rw (c.in_default.is, ne_eqb _ 0 c.if-octets-ne0.true)

pub returns-in_default : goal.returns-in_default
unfolding data_within
returns-in_default c = rw (c.in_default.is, eq-eqb _ 0 c.if-octets-ne0.false)

pub returns : goal.returns
unfolding data_within
returns c = rw (c.in-Some.is, ← c.unwrap_or.ensures) c.check_user_data_within.ensures
