-- `submit_report::decode` meets its contract: the record of the fields that were found.
use Rattle.std.proofs.lemmas.Result.{err_from_is_err_and}
use mathlib.Core.Bool.{true}
use Rattle.gsm7.specs.Reading.{replaced_in_all}
use Rattle.report.proofs.FieldByField.{record_found, record_refused}
use Rattle.submit_report.specs.SubmitReport.{submit_reported, read_with}
use Rattle.submit_report.proofs.decode.Goals as goal

pub returns-in_err-f : goal.returns-in_err-f
returns-in_err-f c =
    let p = err_from_is_err_and c.from_residual.result c.from_residual.ensures.1 in
    rw (p.1, p.2) (record_refused submit_reported (λ r. read_with c.args.«data».now r 0) 1 true c.args.rp_outcome c.args.«data».now c.in_err-f.ensures.0)

pub returns : goal.returns
unfolding replaced_in_all
returns c =
    rw c.message.ensures (record_found submit_reported (λ r. read_with c.args.«data».now r 0) 1 true c.args.rp_outcome c.args.«data».now c.in_ok-f.ensures.0)
