-- `deliver::writing::encode_fields` meets its contract: each answer is a case of what the writer makes.
use mathlib.Core.Path.{sym, ◌∙◌}
use Rattle.std.proofs.lemmas.Result.{err_from_is_err_and}
use Rattle.deliver.proofs.CheckByCheck.{another_type, data_against, address_against, no_time, short, written}
use Rattle.deliver.proofs.writing.encode_fields.Goals as goal

pub returns-then-v-ne-MTI_DELIVER : goal.returns-then-v-ne-MTI_DELIVER
returns-then-v-ne-MTI_DELIVER c = another_type _ _ _ _ _ _ _ c.if-v-ne-MTI_DELIVER.true

pub returns-in_err-check_user_data : goal.returns-in_err-check_user_data
returns-in_err-check_user_data c =
    let p = err_from_is_err_and c.from_residual.result c.from_residual.ensures.1 in
    rw (p.1, p.2) (data_against _ _ _ _ _ _ _ c.if-v-ne-MTI_DELIVER.false (sym c.in_err-check_user_data.ensures))

pub returns-in_err-count : goal.returns-in_err-count
returns-in_err-count c =
    let p = err_from_is_err_and c.from_residual-in_err-count.result c.from_residual-in_err-count.ensures.1 in
    rw (p.1, p.2) (address_against _ _ _ _ _ _ _ c.if-v-ne-MTI_DELIVER.false (sym c.in_ok-check_user_data.ensures) (sym c.in_err-count.ensures))

pub returns-then-not-is_time : goal.returns-then-not-is_time
returns-then-not-is_time c =
    no_time _ _ _ _ _ _ _ c.if-v-ne-MTI_DELIVER.false (sym c.in_ok-check_user_data.ensures) (sym c.in_ok-count.ensures) (sym c.is_time.ensures ∙ c.if-not-is_time.true)

pub returns-then-out-count : goal.returns-then-out-count
returns-then-out-count c =
    short _ _ _ _ _ _ _ c.if-v-ne-MTI_DELIVER.false (sym c.in_ok-check_user_data.ensures) (sym c.in_ok-count.ensures) (sym c.is_time.ensures ∙ c.if-not-is_time.false) c.if-out-count.true

pub returns : goal.returns
returns c =
    written _ _ _ _ _ _ _ c.if-v-ne-MTI_DELIVER.false (sym c.in_ok-check_user_data.ensures) (sym c.in_ok-count.ensures) (sym c.is_time.ensures ∙ c.if-not-is_time.false) c.if-out-count.false
    c.put_fields.ensures
