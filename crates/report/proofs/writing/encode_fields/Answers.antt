-- `report::writing::encode_fields` meets its contract: each answer is a case of what the writer makes.
use Rattle.std.proofs.lemmas.Result.{err_from_is_err_and}
use mathlib.Core.Path.{sym, ◌∙◌}
use native.Mathlib.Omega.{arith}
use Rattle.octets.proofs.Laws.{lent_refused, lent_short, lent_written}
use Rattle.report.proofs.CheckByCheck.{timed_size, size_is, indicator_against, no_time, data_against, all_made}
use Rattle.report.proofs.writing.encode_fields.Goals as goal

pub returns-in_err-check_parameter_indicator : goal.returns-in_err-check_parameter_indicator
returns-in_err-check_parameter_indicator c =
    let p = err_from_is_err_and c.from_residual.result c.from_residual.ensures.1 in
    rw (p.1, p.2) (lent_refused _ _ (indicator_against _ _ _ _ (sym c.in_err-check_parameter_indicator.ensures)))

pub returns-then-not-time_holds : goal.returns-then-not-time_holds
returns-then-not-time_holds c =
    lent_refused _ _ (no_time _ _ _ _ (sym c.in_ok-check_parameter_indicator.ensures) (sym c.time_holds.ensures ∙ c.if-not-time_holds.true))

pub returns-in_err-check_data : goal.returns-in_err-check_data
returns-in_err-check_data c =
    let p = err_from_is_err_and c.from_residual-in_err-check_data.result c.from_residual-in_err-check_data.ensures.1 in
    rw (p.1, p.2)
    (lent_refused _ _
    (data_against _ _ _ _ (sym c.in_ok-check_parameter_indicator.ensures) (sym c.time_holds.ensures ∙ c.if-not-time_holds.false)
    (sym c.in_err-check_data.ensures)))

pub returns-then-out-octets_held : goal.returns-then-out-octets_held
returns-then-out-octets_held c =
    let timed = sym c.time_holds.ensures ∙ c.if-not-time_holds.false in
    lent_short _ (all_made _ _ _ _ (sym c.in_ok-check_parameter_indicator.ensures) timed (sym c.in_ok-check_data.ensures)) (rw (size_is, timed_size c.args.digits timed, ← c.is_some.ensures) (omega arith))

pub put_fields-requires : goal.put_fields-requires
put_fields-requires c =
    let timed = sym c.time_holds.ensures ∙ c.if-not-time_holds.false in
    (c.requires.0, timed, rw (timed_size c.args.digits timed, ← c.is_some.ensures) (omega arith))

pub returns : goal.returns
returns c =
    let timed = sym c.time_holds.ensures ∙ c.if-not-time_holds.false in
    lent_written _ (all_made _ _ _ _ (sym c.in_ok-check_parameter_indicator.ensures) timed (sym c.in_ok-check_data.ensures)) (rw (size_is, timed_size c.args.digits timed, ← c.is_some.ensures) (omega arith)) c.put_fields.ensures
