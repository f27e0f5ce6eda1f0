-- `status_report::writing::encode_fields` meets its contract: each answer is a case of what the writer makes.
use mathlib.Core.Path.{sym, ◌∙◌}
use native.Mathlib.Omega.{arith}
use Rattle.std.proofs.lemmas.Result.{err_from_is_err_and}
use Rattle.status_report.proofs.CheckByCheck.{rest_is, address_against, rest_against, short, written}
use Rattle.status_report.proofs.writing.encode_fields.Goals as goal

pub returns-in_err-count : goal.returns-in_err-count
returns-in_err-count c =
    let p = err_from_is_err_and c.from_residual.result c.from_residual.ensures.1 in
    rw (p.1, p.2) (address_against _ _ _ _ _ _ _ _ _ (sym c.in_err-count.ensures))

pub returns-then-not-is_time : goal.returns-then-not-is_time
returns-then-not-is_time c = rest_against _ _ _ _ _ _ _ _ _ (sym c.in_ok-count.ensures) (rw (sym c.is_time.ensures ∙ c.if-not-is_time.true))

pub returns-then-not-is_time-2 : goal.returns-then-not-is_time-2
returns-then-not-is_time-2 c =
    rest_against _ _ _ _ _ _ _ _ _ (sym c.in_ok-count.ensures) (rw (sym c.is_time.ensures ∙ c.if-not-is_time.false, sym c.is_time-2.ensures ∙ c.if-not-is_time-2.true))

pub returns-in_err-check_optional : goal.returns-in_err-check_optional
returns-in_err-check_optional c =
    let p = err_from_is_err_and c.from_residual-in_err-check_optional.result c.from_residual-in_err-check_optional.ensures.1 in
    rw (p.1, p.2)
    (rest_against _ _ _ _ _ _ _ _ _ (sym c.in_ok-count.ensures)
    (rest_is _ c.args.v _ _ _ (sym c.is_time.ensures ∙ c.if-not-is_time.false) (sym c.is_time-2.ensures ∙ c.if-not-is_time-2.false) ∙ sym c.in_err-check_optional.ensures))

pub returns-then-out-count : goal.returns-then-out-count
returns-then-out-count c =
    short _ _ _ _ _ _ _ _ _ (sym c.in_ok-count.ensures) (sym c.is_time.ensures ∙ c.if-not-is_time.false) (sym c.is_time-2.ensures ∙ c.if-not-is_time-2.false) (sym c.in_ok-check_optional.ensures)
    (omega (arith, c.if-out-count.true, c.octets_held.ensures, c.size.ensures))

pub returns : goal.returns
returns c =
    written _ _ _ _ _ _ _ _ _ (sym c.in_ok-count.ensures) (sym c.is_time.ensures ∙ c.if-not-is_time.false) (sym c.is_time-2.ensures ∙ c.if-not-is_time-2.false) (sym c.in_ok-check_optional.ensures)
    (omega (arith, c.if-out-count.false, c.octets_held.ensures, c.size.ensures)) c.put_fields.ensures
