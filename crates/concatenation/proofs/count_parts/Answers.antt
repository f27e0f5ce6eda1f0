-- `concatenation::count_parts` meets its contract: what is left of the text, counted on, still gives the whole.
use native.Mathlib.Omega.{arith}
use Rattle.std.proofs.lemmas.Result.{err_from_is_err_and}
use Rattle.concatenation.proofs.Counting.{counted_next, counted_end}
use Rattle.concatenation.proofs.count_parts.Goals as goal

pub loop-from-preserved : goal.loop-from-preserved
loop-from-preserved c =
    let l = c.loop-from in
    let p = c.in_ok-count.ensures in
    (p.2, omega (arith, p.0.few, p.1), omega (arith, p.0.few, p.1), omega (arith, p.0.on), rw p.1 at (counted_next c.args.text.now l.from l.septets l.parts l.last l.invariant.4 _ _ p.0))

pub returns-in_err-count : goal.returns-in_err-count
returns-in_err-count c =
    let p = err_from_is_err_and c.from_residual.result c.from_residual.ensures.1 in
    rw (p.1, p.2, c.in_err-count.ensures.1) (rw c.in_err-count.ensures.0 at c.loop-from.invariant.4)

pub returns : goal.returns
returns c = let l = c.loop-from in counted_end _ l.from l.septets l.parts l.last l.invariant.4 c.loop-from-test.false
