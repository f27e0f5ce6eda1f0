-- Limits of what is read and written.
-- Assumes nothing.
use Prim.Native.Nat.{ℕ, ◌≤◌}
use mathlib.Core.Path.{◌≡◌, sym, ap}
use mathlib.Core.Bool.{Bool, true, false}
use mathlib.Core.List.{List}
use native.Mathlib.Omega.{arith}
use borrow.Author.Tests.{leb-true}
use lib.Dec.{eqb}
use lib.ListN.{length, length-append}
use Rattle.std.specs.Prelude.{if◌then◌else◌, Option}
use Rattle.octets.specs.Each.{Octets}
use Rattle.octets.specs.Lent.{made}
use Rattle.octets.specs.Held.{holding, filled}
use Rattle.coding.specs.Coding.{coding_of}
use Rattle.address.specs.Address.{text_held}
use Rattle.address.specs.declared.SMSAddress.{SMSAddress}
use Rattle.address.proofs.Checks.{checks_passed}
use Rattle.layout.specs.Layout.{is_set, kept, Field, reached, read, read_from}
use Rattle.layout.proofs.Laws.{within_read}
use Rattle.layout.proofs.Makes.{Makes, makes}
use Rattle.validity_period.specs.Validity.{format_of, period_size}
use Rattle.validity_period.proofs.Period.{period_size_lem}
use Rattle.submit.specs.declared.SmsSubmit.{SmsSubmit}
use Rattle.submit.specs.Layout.{header_size, bits, fields}
use Rattle.submit.specs.Submit.{submitted, format, submit, destination_octets, submitting, Typed}
use Rattle.submit.proofs.CheckByCheck.{all_passed}
use Rattle.submit.proofs.Text.{readable_short}

short : Makes (λ (r : SmsSubmit) (cs : List Field). r.tp_user_data.length ≤ 510) format
unfolding format fields submitted holding
short x lx m mr lmr a wa pid lpid dcs ldcs vp ovp nvp udl ludl ud oud nud fits counted =
    readable_short (coding_of dcs) udl (header_size (is_set 6 (kept bits x)) ud) ud (omega arith) (leb-true _ _ fits) counted (sym nud)

module _ (s : List ℕ) {r : SmsSubmit} {n : ℕ} (e : read submit s ≡ reached r n) where
  -- no more octets are read than the string has
  pub octets_within : n ≤ length s
  octets_within = within_read submit s e

  -- the readable form of user data has at most 510 octets
  pub text_at_most : Octets s → r.tp_user_data.length ≤ 510
  unfolding read read_from
  text_at_most o = makes _ format short s 0 o e

-- ---- what is written has at most 164 octets: 1, 1, 12, 1, 1, 7, 1 and 140

at_most_seven : (v : ℕ) → period_size v ≤ 7
unfolding period_size
at_most_seven v = by (eqb v 0) (eqb v 2)
  where
    by : (a b : Bool) → (if a then 0 else if b then 1 else 7) ≤ 7
    by true b = omega arith
    by false true = omega arith
    by false false = omega arith

pub at_most : {octets : List ℕ} {answer : ℕ} (r : SmsSubmit) → Typed r → submitting r ≡ made octets answer → length octets ≤ 164
at_most r typed e =
    let p = all_passed r e in
    let to = p.destination in
    let vp = period_size_lem r.tp_validity_period (filled r.validity_period_digits) r.validity_period_octets p.time typed.2 in
    let size = ap (λ (o : Option SMSAddress). length (destination_octets o)) p.there in
    rw (← p.octets_are) (simp length-append (omega (arith, p.few, size, checks_passed to.ton to.npi (text_held to) p.address, vp, at_most_seven (format_of r.tp_validity_period))))
