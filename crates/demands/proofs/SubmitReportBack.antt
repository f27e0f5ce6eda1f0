-- Demand 2 of document 01 for SMS-SUBMIT-REPORT, cut messages (document 02, Ask 9), and how much is written.
-- Assumes nothing.
use Rattle.std.specs.Prelude.{Some, None, Option}
use Prim.Native.Nat.{ℕ, zero, suc, ◌+◌, ◌≤◌}
use mathlib.Core.Path.{◌≡◌, refl, sym, ◌∙◌}
use mathlib.Core.Bool.{Bool, true, false}
use mathlib.Core.List.{List, [], ◌∷◌}
use mathlib.Core.Option.{none}
use native.Mathlib.Omega.{arith}
use borrow.Author.Tests.{leb-true}
use lib.Bits.{bit_and}
use lib.Dec.{eqb, leb}
use lib.ListN.{length}
use lib.Seq.{length-take-le}
use Rattle.octets.specs.Answers.{fine}
use Rattle.octets.specs.Checks.{◌unless◌, all_fit}
use Rattle.octets.specs.Choice.{flag}
use Rattle.octets.specs.Lent.{made}
use Rattle.octets.specs.declared.Refusal.TheVariants.{LengthTooLarge, UdhiTooLarge, NotATime, OutcomeDisagrees}
use Rattle.octets.specs.Held.{filled}
use Rattle.octets.proofs.Holding.{held_back}
use Rattle.octets.proofs.Checks.{holds, both_hold, made_told, made_counts, all_fit_lem}
use Rattle.time.specs.Time.{is_time}
use Rattle.time.proofs.Laws.{time_back, time_size}
use Rattle.layout.specs.Cut.{Cut}
use Rattle.layout.specs.Demand.{Demand2}
use Rattle.layout.specs.Layout.{first_octet}
use Rattle.parameters.specs.Checking.{indicator_checks, data_within}
use Rattle.parameters.specs.Optional.{held}
use Rattle.parameters.specs.Outcome.{outcome_agrees}
use Rattle.parameters.proofs.Laws.{one_at_most}
use Rattle.report.specs.Report.{checks_within}
use Rattle.submit_report.specs.SubmitReport.{submit_reported, layout_of, fields_in, lengths_of, standard_limit, submit_reporting_within, submit_reporting, submit_reporting_to_standard, cleared, capitalised, Typed}
use Rattle.submit_report.specs.declared.SmsSubmitReport.{SmsSubmitReport}
use Rattle.submit_report.proofs.Demand.{made_cleared}
use Rattle.demands.proofs.ReportBack.{Told, at_most_within, report_demand2, report_ends}

-- no unused bit of a written first octet is set
free : (udhi : Bool) → bit_and (first_octet 1 ((6, udhi) ∷ [])) 0xbc ≡ 0
unfolding first_octet
free true = refl
free false = refl

-- UDHI of at most 1 is told by its flag
udhi_again : (udhi : ℕ) → udhi ≤ 1 → flag (eqb udhi 1) 1 ≡ udhi
udhi_again zero h = refl
udhi_again (suc zero) h = refl
udhi_again (suc (suc udhi)) h = absurd (omega arith)

told : (limit : ℕ) (r : SmsSubmitReport) (os : List ℕ) (answer : ℕ) → submit_reporting_within limit r ≡ made os answer → Told 1 (omega arith) free true submit_reported fields_in Typed cleared capitalised limit r os
unfolding submit_reporting_within submit_reported
told limit r os answer e =
    let p = (fields_in r).parameters in
    let stamp = r.tp_service_centre_timestamp in
    let d = r.tp_user_data in
    let last = data_within limit p.dcs p.udl (length p.ud) in
    let of_Fields = checks_within limit (is_time (filled stamp)) (fields_in r) in
    let (f, x) = made_told _ _ e in
    let (l, g) = holds LengthTooLarge (all_fit (lengths_of r)) ((OutcomeDisagrees unless outcome_agrees r.rp_outcome r.tp_failure_cause) ∷ (UdhiTooLarge unless leb r.tp_udhi 1) ∷ of_Fields) f in
    let (a, h) = holds OutcomeDisagrees (outcome_agrees r.rp_outcome r.tp_failure_cause) ((UdhiTooLarge unless leb r.tp_udhi 1) ∷ of_Fields) g in
    let (u, c) = holds UdhiTooLarge (leb r.tp_udhi 1) of_Fields h in
    let (i, k) = both_hold (indicator_checks r.tp_parameter_indicator p.pid p.dcs p.udl) ((NotATime unless is_time (filled stamp)) ∷ last) c in
    let t = (holds NotATime (is_time (filled stamp)) last k).0 in
    let (m, (n, z)) = all_fit_lem (lengths_of r) l in
    record {
      is = x;
      passed = record { agrees = a; checks = rw t at c; time_size = sym (time_size (filled stamp) t) };
      same = λ typed.
          let lt : length (filled stamp) ≡ stamp.length = length-take-le stamp.length stamp.octets (omega (arith, typed.0, m)) in
          let ld : length (filled d) ≡ d.length = length-take-le d.length d.octets (omega (arith, typed.1, n)) in
          made_cleared (fields_in r) ∙ rw (udhi_again r.tp_udhi (leb-true _ _ u), time_back stamp t lt, held_back d ld);
    }

-- ---- the writer within the limit of each record

module _ (limitOf : SmsSubmitReport → ℕ) where
  pub submit_report_demand2 : Demand2 Typed cleared capitalised (λ r. layout_of r.rp_outcome) (λ r. submit_reporting_within (limitOf r) r) (λ r. fine) (λ r. false)
  submit_report_demand2 = report_demand2 1 (omega arith) free true submit_reported fields_in Typed cleared capitalised submit_reporting_within told limitOf

  pub submit_report_ends : Cut Typed cleared capitalised (λ r. layout_of r.rp_outcome) (λ r. submit_reporting_within (limitOf r) r) (λ r. none) (λ r. r)
  submit_report_ends = report_ends 1 (omega arith) free true submit_reported fields_in Typed cleared capitalised submit_reporting_within told limitOf

  pub submit_report_counts : (r : SmsSubmitReport) (xs : List ℕ) (a : ℕ) → submit_reporting_within (limitOf r) r ≡ made xs a → a ≡ length xs
  unfolding submit_reporting_within
  submit_report_counts r xs a e = made_counts _ _ e

-- ---- how much is written

module _ (r : SmsSubmitReport) {os : List ℕ} {answer : ℕ} where
  within : (limit : ℕ) → submit_reporting_within limit r ≡ made os answer → length os ≤ 12 + held r.tp_failure_cause + limit
  within limit e = omega (arith, at_most_within 1 (omega arith) free true submit_reported fields_in Typed cleared capitalised submit_reporting_within told limit r os answer e)

  pub at_most : submit_reporting r ≡ made os answer → length os ≤ 153
  at_most e = omega (arith, within 140 e, one_at_most r.tp_failure_cause)

  pub standard_at_most : submit_reporting_to_standard r ≡ made os answer → length os ≤ 164
  standard_at_most e = omega (arith, within (standard_limit r.tp_failure_cause) e, room r.tp_failure_cause)
    where
      -- a cause takes an octet from the user data
      room : (cause : Option ℕ) → held cause + standard_limit cause ≤ 152
      room None = omega arith
      room (Some x) = omega arith
