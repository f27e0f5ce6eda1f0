-- `submit::SmsSubmit::encode` meets its contract: the lengths are looked at first.
use Prim.Native.Nat.{◌/◌, ◌%◌}
use mathlib.Core.Path.{◌≡◌, sym, ◌∙◌}
use native.Mathlib.Omega.{arith}
use Rattle.octets.proofs.Laws.{lent_refused}
use Rattle.submit.specs.Submit.{first_of}
use Rattle.submit.proofs.CheckByCheck.{too_long, by_values}
use Rattle.submit.proofs.SmsSubmit.encode.Goals as goal

pub returns-then-not-lengths_fit : goal.returns-then-not-lengths_fit
returns-then-not-lengths_fit c = lent_refused _ _ (too_long _ (sym c.lengths_fit.ensures ∙ c.if-not-lengths_fit.true))

pub returns : goal.returns
returns c =
    let r = c.args.self in
    let low : r.tp_vpf / 1 % 2 ≡ r.tp_vpf % 2 = omega arith in
    let first : c.first_octet.result ≡ first_of r = rw low c.first_octet.ensures in
    rw (by_values r (sym c.lengths_fit.ensures ∙ c.if-not-lengths_fit.false), ← first, ← c.number_of.ensures, ← c.as_slice-digits.ensures, ← c.as_slice-data.ensures) c.encode_fields.ensures
