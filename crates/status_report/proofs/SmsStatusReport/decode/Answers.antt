-- `status_report::SmsStatusReport::decode` meets its contract: it is the reader that the layout describes.
use Rattle.std.proofs.lemmas.Result.{err_from_is_err_and}
use Rattle.status_report.proofs.RecordRead.{answer_refused, answer_done}
use Rattle.status_report.proofs.SmsStatusReport.decode.Goals as goal

pub returns-in_err-fields : goal.returns-in_err-fields
returns-in_err-fields c =
    let p = err_from_is_err_and c.from_residual.result c.from_residual.ensures.1 in
    rw (p.1, p.2) (answer_refused _ c.in_err-fields.ensures.0)

pub returns : goal.returns
returns c = rw c.message.ensures (answer_done _ _ c.in_ok-fields.ensures.0)
