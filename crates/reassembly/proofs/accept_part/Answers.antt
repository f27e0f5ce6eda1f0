-- `reassembly::accept_part` meets its contract: the fields that the reader finds first.
use mathlib.Core.Path.{sym, ◌∙◌}
use Rattle.reassembly.proofs.Accepting.{fields_refused, accepts_unfit, accepts_on}
use Rattle.std.proofs.lemmas.Result.{err_from_is_err_and}
use Rattle.message_store.proofs.Slots.{fits_room}
use Rattle.reassembly.proofs.accept_part.Goals as goal

pub returns-in_err-fields : goal.returns-in_err-fields
returns-in_err-fields c =
    let p = err_from_is_err_and c.from_residual.result c.from_residual.ensures.1 in
    rw (p.1, p.2) (fields_refused _ _ c.in_err-fields.ensures.0 _)

pub returns-then-not-fits_store : goal.returns-then-not-fits_store
returns-then-not-fits_store c = accepts_unfit _ _ c.in_ok-fields.ensures.0 _ (sym c.fits_store.ensures ∙ c.if-not-fits_store.true)

pub accept_fields-requires : goal.accept_fields-requires
accept_fields-requires c = (fits_room _ (sym c.fits_store.ensures ∙ c.if-not-fits_store.false), c.in_ok-fields.ensures.0, c.in_ok-fields.ensures.1)

pub returns : goal.returns
returns c = c.accept_fields.ensures ∙ accepts_on _ _ c.in_ok-fields.ensures.0 _ (sym c.fits_store.ensures ∙ c.if-not-fits_store.false)
