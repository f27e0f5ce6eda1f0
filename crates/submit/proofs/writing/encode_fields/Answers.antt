-- `submit::writing::encode_fields` meets its contract: each answer is a case of what the writer makes.
use mathlib.Core.Path.{◌≡◌, sym, ◌∙◌}
use borrow.Author.Rules.{rules}
use lib.ListN.{length}
use Rattle.std.specs.Prelude.{Option, Some, None}
use Rattle.std.proofs.lemmas.Result.{err_from_is_err_and}
use Rattle.octets.proofs.Laws.{lent_refused, lent_short, lent_written}
use Rattle.address.specs.declared.writing.Number.{Number}
use Rattle.submit.specs.Internal.{parts_in}
use Rattle.submit.proofs.CheckByCheck.{another_type, another_format, no_destination, data_against, address_against, no_time, all_made, all_size}
use Rattle.submit.proofs.writing.encode_fields.Goals as goal

-- a destination that is there
there : {to : Option Number} {n : Number} → to ≡ Some n → parts_in to ≡ Some (n.ton, n.npi, n.text.now)
there e = rw e

missing : {to : Option Number} → to ≡ None → parts_in to ≡ None
missing e = rw e

pub returns-then-v-ne-MTI_SUBMIT : goal.returns-then-v-ne-MTI_SUBMIT
returns-then-v-ne-MTI_SUBMIT c = lent_refused _ _ (another_type _ _ _ _ _ c.if-v-ne-MTI_SUBMIT.true)

pub returns-then-v-format : goal.returns-then-v-format
returns-then-v-format c =
    lent_refused _ _ (another_format _ _ _ _ _ c.if-v-ne-MTI_SUBMIT.false (λ e. c.if-v-format.true (e ∙ sym c.format.ensures.0)))

pub returns-in_default : goal.returns-in_default
returns-in_default c =
    lent_refused _ _ (no_destination _ _ _ _ _ c.if-v-ne-MTI_SUBMIT.false (c.if-v-format.false ∙ c.format.ensures.0) (missing c.in_default.is))

pub returns-in_err-check_user_data : goal.returns-in_err-check_user_data
returns-in_err-check_user_data c =
    let p = err_from_is_err_and c.from_residual.result c.from_residual.ensures.1 in
    rw (p.1, p.2)
    (lent_refused _ _ (data_against _ _ _ _ _ c.if-v-ne-MTI_SUBMIT.false (c.if-v-format.false ∙ c.format.ensures.0) (there c.in-Some.is) (sym c.in_err-check_user_data.ensures)))

pub returns-in_err-count : goal.returns-in_err-count
returns-in_err-count c =
    let p = err_from_is_err_and c.from_residual-in_err-count.result c.from_residual-in_err-count.ensures.1 in
    rw (p.1, p.2)
    (lent_refused _ _ (address_against _ _ _ _ _ c.if-v-ne-MTI_SUBMIT.false (c.if-v-format.false ∙ c.format.ensures.0) (there c.in-Some.is) (sym c.in_ok-check_user_data.ensures) (sym c.in_err-count.ensures)))

pub returns-then-not-check_period : goal.returns-then-not-check_period
returns-then-not-check_period c =
    lent_refused _ _ (no_time _ _ _ _ _ c.if-v-ne-MTI_SUBMIT.false (c.if-v-format.false ∙ c.format.ensures.0) (there c.in-Some.is) (sym c.in_ok-check_user_data.ensures) (sym c.in_ok-count.ensures) (sym c.check_period.ensures ∙ c.if-not-check_period.true))

pub returns-then-out-count : goal.returns-then-out-count
returns-then-out-count c =
    let a = c.args in
    let format = c.if-v-format.false ∙ c.format.ensures.0 in
    let time = sym c.check_period.ensures ∙ c.if-not-check_period.false in
    let is_made = all_made a.v _ a.digits.now a.enhanced a.«data».now c.if-v-ne-MTI_SUBMIT.false format (there c.in-Some.is) (sym c.in_ok-check_user_data.ensures) (sym c.in_ok-count.ensures) time in
    let seven : length a.enhanced ≡ 7 = search rules in
    let size = all_size a.v _ a.digits.now a.enhanced a.«data».now c.if-v-ne-MTI_SUBMIT.false format (there c.in-Some.is) (sym c.in_ok-check_user_data.ensures) (sym c.in_ok-count.ensures) time seven in
    lent_short _ is_made (rw (size, ← c.validity_octets-validity.ensures.0) c.if-out-count.true)

pub put_fields-requires : goal.put_fields-requires
put_fields-requires c =
    let seven : length c.args.enhanced ≡ 7 = search rules in
    (sym c.in_ok-count.ensures, sym c.check_period.ensures ∙ c.if-not-check_period.false, seven, rw (← c.format.ensures.0, ← c.if-v-format.false, ← c.validity_octets-validity.ensures.0) c.if-out-count.false)

pub returns : goal.returns
returns c =
    let a = c.args in
    let format = c.if-v-format.false ∙ c.format.ensures.0 in
    let time = sym c.check_period.ensures ∙ c.if-not-check_period.false in
    let is_made = all_made a.v _ a.digits.now a.enhanced a.«data».now c.if-v-ne-MTI_SUBMIT.false format (there c.in-Some.is) (sym c.in_ok-check_user_data.ensures) (sym c.in_ok-count.ensures) time in
    let seven : length a.enhanced ≡ 7 = search rules in
    let size = all_size a.v _ a.digits.now a.enhanced a.«data».now c.if-v-ne-MTI_SUBMIT.false format (there c.in-Some.is) (sym c.in_ok-check_user_data.ensures) (sym c.in_ok-count.ensures) time seven in
    lent_written _ is_made (rw (size, ← c.validity_octets-validity.ensures.0) c.if-out-count.false) c.put_fields.ensures
