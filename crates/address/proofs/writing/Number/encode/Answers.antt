-- `address::writing::Number::encode` meets its contract: check, measure, write.
use mathlib.Core.Path.{sym}
use native.Mathlib.Omega.{arith}
use Rattle.std.proofs.lemmas.Result.{err_from_is_err_and}
use Rattle.octets.proofs.Laws.{kept_by, lent_refused, lent_short, lent_written}
use Rattle.address.proofs.Checks.{fine_small, fine_size, fine_made, refused_made}
use Rattle.address.proofs.writing.Number.encode.Goals as goal

pub returns-in_err-count : goal.returns-in_err-count
returns-in_err-count c =
    let p = err_from_is_err_and c.from_residual.result c.from_residual.ensures.1 in
    rw (p.1, p.2) (lent_refused _ _ (refused_made (sym c.in_err-count.ensures)))

pub overflow_add-needed : goal.overflow_add-needed
overflow_add-needed c = omega (arith, fine_small _ _ _ _ (sym c.in_ok-count.ensures))

pub overflow_add-needed-2 : goal.overflow_add-needed-2
overflow_add-needed-2 c = omega (arith, fine_small _ _ _ _ (sym c.in_ok-count.ensures))

pub returns-then-out-needed : goal.returns-then-out-needed
returns-then-out-needed c =
    let f = sym c.in_ok-count.ensures in
    lent_short _ (fine_made _ _ _ _ f) (rw (fine_size _ _ _ _ f) c.if-out-needed.true)

pub put_address-requires : goal.put_address-requires
put_address-requires c = (sym c.in_ok-count.ensures, omega arith)

pub shape_of-out : goal.shape_of-out
shape_of-out c = kept_by c.put_address.ensures

pub returns : goal.returns
returns c =
    let f = sym c.in_ok-count.ensures in
    lent_written _ (fine_made _ _ _ _ f) (rw (fine_size _ _ _ _ f) c.if-out-needed.false) c.put_address.ensures
