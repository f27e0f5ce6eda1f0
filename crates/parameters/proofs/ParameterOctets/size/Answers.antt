-- `parameters::ParameterOctets::size` meets its contract: a sum.
use native.Mathlib.Omega.{arith}
use Rattle.parameters.proofs.Laws.{one_at_most}
use Rattle.parameters.proofs.ParameterOctets.size.Goals as goal

pub overflow_add-result : goal.overflow_add-result
overflow_add-result c = omega (arith, one_at_most c.args.self.pid, one_at_most c.args.self.dcs)

pub overflow_add-result-2 : goal.overflow_add-result-2
overflow_add-result-2 c = let a = c.args in omega (arith, one_at_most a.self.pid, one_at_most a.self.dcs, one_at_most a.self.udl)

pub overflow_add-result-3 : goal.overflow_add-result-3
overflow_add-result-3 c = let a = c.args in omega (arith, one_at_most a.self.pid, one_at_most a.self.dcs, one_at_most a.self.udl)
