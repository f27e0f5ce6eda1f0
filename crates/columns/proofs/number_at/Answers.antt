-- `columns::number_at` meets its contract, by the first octet and the second.
use native.Mathlib.Omega.{arith}
use Rattle.columns.proofs.Stepwise.{number_ended, number_one, number_cut, number_needless, number_large, number_two}
use Rattle.columns.proofs.number_at.Goals as goal

pub returns-in_err-first : goal.returns-in_err-first
returns-in_err-first c = rw c.from_residual.ensures (number_ended _ _ c.in_err-first.ensures.lookup.3)

pub returns-then-first-lt128 : goal.returns-then-first-lt128
returns-then-first-lt128 c =
    let (inside, is) = c.in_ok-first.ensures.lookup.3 in
    rw (is 0) (number_one _ _ inside (omega (arith, is 0, c.if-first-lt128.true)))

pub returns-in_err-second : goal.returns-in_err-second
returns-in_err-second c =
    let (inside, is) = c.in_ok-first.ensures.lookup.3 in
    rw c.from_residual-in_err-second.ensures (number_cut _ _ inside (omega (arith, is 0, c.if-first-lt128.false)) (omega (arith, c.in_err-second.ensures.lookup.3)))

pub returns-then-second-eq0 : goal.returns-then-second-eq0
returns-then-second-eq0 c =
    let (inside, is) = c.in_ok-first.ensures.lookup.3 in
    let (there, next) = c.in_ok-second.ensures.lookup.3 in
    number_needless _ _ inside (omega (arith, is 0, c.if-first-lt128.false)) there (omega (arith, next 0, c.if-second-eq0.true))

pub returns-then-second-gt127 : goal.returns-then-second-gt127
returns-then-second-gt127 c =
    let (inside, is) = c.in_ok-first.ensures.lookup.3 in
    let (there, next) = c.in_ok-second.ensures.lookup.3 in
    number_large _ _ inside (omega (arith, is 0, c.if-first-lt128.false)) there (omega (arith, next 0, c.if-second-gt127.true))

pub returns : goal.returns
returns c =
    let (inside, is) = c.in_ok-first.ensures.lookup.3 in
    let (there, next) = c.in_ok-second.ensures.lookup.3 in
    rw (is 0, next 0) (number_two _ _ inside (omega (arith, is 0, c.if-first-lt128.false)) there (omega (arith, next 0, c.if-second-eq0.false)) (omega (arith, next 0, c.if-second-gt127.false)) (omega (arith, c.type_inv.block c.args.at)))
