-- `submit::decode_sms_submit_tpdu` meets its contract: it is the reader that the layout describes.
use Rattle.std.specs.Prelude.{Ok, Err}
use mathlib.Core.Path.{sym}
use Rattle.std.proofs.lemmas.Result.{err_from_is_err_and}
use Rattle.submit.specs.Submit.{read_with}
use Rattle.submit.proofs.RecordRead.{answer_is}
use Rattle.submit.proofs.decode_sms_submit_tpdu.Goals as goal

pub returns-in_err-fields : goal.returns-in_err-fields
returns-in_err-fields c =
    let p = err_from_is_err_and c.from_residual.result c.from_residual.ensures.1 in
    rw (p.1, p.2) (sym (answer_is c.args.«data».now (Err c.in_err-fields.field-0.0) c.in_err-fields.ensures.0 (read_with c.args.«data».now)))

pub returns : goal.returns
returns c = rw c.message.ensures (sym (answer_is c.args.«data».now (Ok c.in_ok-fields.fields) c.in_ok-fields.ensures.0 (read_with c.args.«data».now)))
