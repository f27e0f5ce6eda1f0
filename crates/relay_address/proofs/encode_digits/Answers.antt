-- `relay_address::encode_digits` meets its contract: check, measure, write.
use mathlib.Core.Path.{sym}
use native.Mathlib.Omega.{arith}
use Rattle.std.proofs.lemmas.Result.{err_from_is_err_and}
use Rattle.octets.proofs.Checks.{all_passed, one_against}
use Rattle.octets.proofs.Laws.{kept_by, lent_refused, lent_short, lent_written}
use Rattle.relay_address.proofs.Writing.{passed, octets_size}
use Rattle.relay_address.proofs.encode_digits.Goals as goal

pub returns-in_err-check_digits : goal.returns-in_err-check_digits
returns-in_err-check_digits c =
    let p = err_from_is_err_and c.from_residual.result c.from_residual.ensures.1 in
    rw (p.1, p.2) (lent_refused _ _ (one_against _ _ (sym c.in_err-check_digits.ensures)))

pub overflow_add-number : goal.overflow_add-number
overflow_add-number c = omega (arith, (passed _ _ _ (sym c.in_ok-check_digits.ensures)).short)

pub overflow_add-number-2 : goal.overflow_add-number-2
overflow_add-number-2 c = omega (arith, (passed _ _ _ (sym c.in_ok-check_digits.ensures)).short)

pub returns-then-out-number : goal.returns-then-out-number
returns-then-out-number c =
    lent_short _ (all_passed _ _ (sym c.in_ok-check_digits.ensures)) (omega (arith, octets_size c.args.number.ton c.args.number.npi c.args.number.text.now, c.if-out-number.true))

pub put_address-requires : goal.put_address-requires
put_address-requires c =
    let w = passed _ _ _ (sym c.in_ok-check_digits.ensures) in
    (w.type, w.plan, w.short, c.if-out-number.false)

pub shape_of-out : goal.shape_of-out
shape_of-out c = kept_by c.put_address.ensures

pub returns : goal.returns
returns c =
    lent_written _ (all_passed _ _ (sym c.in_ok-check_digits.ensures)) (omega (arith, octets_size c.args.number.ton c.args.number.npi c.args.number.text.now, c.if-out-number.false)) c.put_address.ensures
