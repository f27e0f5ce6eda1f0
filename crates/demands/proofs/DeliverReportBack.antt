-- Demand 2 of document 01 for SMS-DELIVER-REPORT, cut messages (document 02, Ask 9), and how much is written.
-- Assumes nothing.
use Rattle.std.specs.Prelude.{Some, None, Option}
use Prim.Native.Nat.{ℕ, ◌+◌, ◌≤◌}
use mathlib.Core.Path.{◌≡◌, refl, ◌∙◌}
use mathlib.Core.Bool.{Bool, true, false}
use mathlib.Core.List.{List, [], ◌∷◌}
use mathlib.Core.Option.{none}
use native.Mathlib.Omega.{arith}
use lib.Bits.{bit_and}
use lib.ListN.{length}
use lib.Seq.{length-take-le}
use Rattle.octets.specs.Answers.{fine}
use Rattle.octets.specs.Checks.{◌unless◌, all_fit}
use Rattle.octets.specs.Lent.{made}
use Rattle.octets.specs.declared.Refusal.TheVariants.{LengthTooLarge, OutcomeDisagrees}
use Rattle.octets.specs.Held.{filled}
use Rattle.octets.proofs.Holding.{held_back}
use Rattle.octets.proofs.Checks.{holds, made_told, made_counts, all_fit_lem}
use Rattle.layout.specs.Cut.{Cut}
use Rattle.layout.specs.Demand.{Demand2}
use Rattle.layout.specs.Layout.{first_octet}
use Rattle.parameters.specs.Optional.{held}
use Rattle.parameters.specs.Outcome.{outcome_agrees}
use Rattle.parameters.proofs.Laws.{one_at_most}
use Rattle.report.specs.Report.{checks_within}
use Rattle.deliver_report.specs.DeliverReport.{deliver_reported, layout_of, fields_in, lengths_of, standard_limit, deliver_reporting_within, deliver_reporting, deliver_reporting_to_standard, cleared, Typed}
use Rattle.deliver_report.specs.declared.SmsDeliverReport.{SmsDeliverReport}
use Rattle.deliver_report.proofs.Demand.{made_cleared}
use Rattle.demands.proofs.ReportBack.{Told, at_most_within, report_demand2, report_ends}

-- no unused bit of a written first octet is set
free : (udhi : Bool) → bit_and (first_octet 0 ((6, udhi) ∷ [])) 0xbc ≡ 0
unfolding first_octet
free true = refl
free false = refl

told : (limit : ℕ) (r : SmsDeliverReport) (os : List ℕ) (answer : ℕ) → deliver_reporting_within limit r ≡ made os answer → Told 0 (omega arith) free false deliver_reported fields_in Typed cleared (λ r. r) limit r os
unfolding deliver_reporting_within deliver_reported
told limit r os answer e =
    let (f, x) = made_told _ _ e in
    let (l, g) = holds LengthTooLarge (all_fit (lengths_of r)) ((OutcomeDisagrees unless outcome_agrees r.rp_outcome r.tp_failure_cause) ∷ checks_within limit true (fields_in r)) f in
    let (a, c) = holds OutcomeDisagrees (outcome_agrees r.rp_outcome r.tp_failure_cause) (checks_within limit true (fields_in r)) g in
    let d = r.tp_user_data in
    record {
      is = x;
      passed = record { agrees = a; checks = c; time_size = refl };
      same = λ t. let n : length (filled d) ≡ d.length = length-take-le d.length d.octets (omega (arith, t, (all_fit_lem (lengths_of r) l).0)) in made_cleared (fields_in r) ∙ rw (held_back d n);
    }

-- ---- the writer within the limit of each record

module _ (limitOf : SmsDeliverReport → ℕ) where
  pub deliver_report_demand2 : Demand2 Typed cleared (λ r. r) (λ r. layout_of r.rp_outcome) (λ r. deliver_reporting_within (limitOf r) r) (λ r. fine) (λ r. false)
  deliver_report_demand2 = report_demand2 0 (omega arith) free false deliver_reported fields_in Typed cleared (λ r. r) deliver_reporting_within told limitOf

  pub deliver_report_ends : Cut Typed cleared (λ r. r) (λ r. layout_of r.rp_outcome) (λ r. deliver_reporting_within (limitOf r) r) (λ r. none) (λ r. r)
  deliver_report_ends = report_ends 0 (omega arith) free false deliver_reported fields_in Typed cleared (λ r. r) deliver_reporting_within told limitOf

  pub deliver_report_counts : (r : SmsDeliverReport) (xs : List ℕ) (a : ℕ) → deliver_reporting_within (limitOf r) r ≡ made xs a → a ≡ length xs
  unfolding deliver_reporting_within
  deliver_report_counts r xs a e = made_counts _ _ e

-- ---- how much is written

module _ (r : SmsDeliverReport) {os : List ℕ} {answer : ℕ} where
  within : (limit : ℕ) → deliver_reporting_within limit r ≡ made os answer → length os ≤ 5 + held r.tp_failure_cause + limit
  within limit e = omega (arith, at_most_within 0 (omega arith) free false deliver_reported fields_in Typed cleared (λ r. r) deliver_reporting_within told limit r os answer e)

  pub at_most : deliver_reporting r ≡ made os answer → length os ≤ 146
  at_most e = omega (arith, within 140 e, one_at_most r.tp_failure_cause)

  pub standard_at_most : deliver_reporting_to_standard r ≡ made os answer → length os ≤ 164
  standard_at_most e = omega (arith, within (standard_limit r.tp_failure_cause) e, room r.tp_failure_cause)
    where
      -- a cause takes an octet from the user data
      room : (cause : Option ℕ) → held cause + standard_limit cause ≤ 159
      room None = omega arith
      room (Some x) = omega arith
