-- `gsm7::decode::unpack_gsm7` meets its contract: what the test of the count refuses, else the text.
use Rattle.std.specs.Prelude.{Ok, Err}
use Rattle.std.proofs.lemmas.Result.{err_from_is_err_and}
use mathlib.Core.Path.{◌≡◌, sym, ap, ◌∙◌}
use Rattle.gsm7.specs.Reading.{unpacked}
use Rattle.gsm7.proofs.Reading.{counted_not, counted_ok, unpacked_long, unpacked_few, unpacked_done}
use Rattle.gsm7.proofs.decode.unpack_gsm7.Goals as goal

pub returns-in_err-check_count : goal.returns-in_err-check_count
returns-in_err-check_count c =
    let os = c.args.«data».now in
    let n = c.args.septets in
    let p = err_from_is_err_and c.from_residual.result c.from_residual.ensures.1 in
    rw (p.1, p.2) (counted_not os n (λ why. Err why ≡ unpacked os 0 n) (λ h. sym (unpacked_long os 0 n h)) (λ h k. sym (unpacked_few os 0 n h k)) _ c.in_err-check_count.ensures)

pub whole_text-requires : goal.whole_text-requires
whole_text-requires c = (counted_ok _ _ _ c.in_ok-check_count.ensures).0

pub returns : goal.returns
returns c = let there = counted_ok _ _ _ c.in_ok-check_count.ensures in ap Ok c.whole_text.ensures ∙ sym (unpacked_done _ _ _ there.0 there.1)
