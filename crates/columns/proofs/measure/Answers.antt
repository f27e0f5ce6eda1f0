-- `columns::measure` meets its contract: what is added up, with the lengths that are left, is all.
use native.Mathlib.Omega.{arith}
use Rattle.columns.proofs.Stepwise.{measuring_next, measuring_bad, measuring_large, measuring_end}
use Rattle.columns.proofs.measure.Goals as goal

pub returns-in_err-n : goal.returns-in_err-n
returns-in_err-n c = rw c.from_residual.ensures (measuring_bad c.loop.invariant c.loop-test.true (λ n rest e. omega (arith, c.in_err-n.ensures n rest e)))

pub returns-then-n-gt255 : goal.returns-then-n-gt255
returns-then-n-gt255 c = measuring_large c.loop.invariant c.loop-test.true c.in_ok-n.ensures c.if-n-gt255.true

pub loop-preserved : goal.loop-preserved
loop-preserved c = measuring_next c.loop.invariant c.loop-test.true c.in_ok-n.ensures c.if-n-gt255.false

pub returns : goal.returns
returns c = measuring_end c.loop.invariant c.loop-test.false
