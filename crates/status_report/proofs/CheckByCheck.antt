-- What the writer makes, check by check.
-- Assumes nothing.
use Rattle.std.specs.Prelude.{Ok, Err, Some, None}
use Prim.Native.Nat.{ℕ, ◌+◌, ◌/◌, ◌≤◌, ◌<◌}
use mathlib.Core.Path.{◌≡◌, sym, ◌∙◌}
use mathlib.Core.Bool.{true}
use mathlib.Core.List.{List}
use native.Mathlib.Omega.{arith}
use borrow.Author.Tests.{eq-eqb, ne_eqb}
use lib.ListN.{length, length-append}
use Rattle.octets.specs.Answers.{Said, fine}
use Rattle.octets.specs.Checks.{checked, found}
use Rattle.octets.specs.Lent.{Making, made, lend, Wrote}
use Rattle.octets.specs.declared.Refusal.{Refusal}
use Rattle.octets.specs.declared.Refusal.TheVariants.{ParametersWithoutIndicator, OutputTooShort}
use Rattle.octets.proofs.Laws.{lent_refused, lent_short, lent_written}
use Rattle.octets.proofs.Checks.{passed, against, all_passed, one_against}
use Rattle.time.specs.Time.{is_time}
use Rattle.time.proofs.Laws.{time_size}
use Rattle.address.specs.Writing.{address_making}
use Rattle.address.specs.Internal.{check_of}
use Rattle.address.proofs.Checks.{after_check, address_checked, fine_size}
use Rattle.parameters.specs.Optional.{held}
use Rattle.parameters.specs.Parameters.{Parameters, parameters_octets}
use Rattle.parameters.specs.Checking.{indicator_checks, data_within}
use Rattle.parameters.proofs.Laws.{one_at_most}
use Rattle.status_report.specs.StatusReport.{optional_checks}
use Rattle.status_report.specs.Internal.{parameters_in, optional_size, octets_in, checks_after, making}
use Rattle.status_report.specs.declared.writing.StatusReportValues.{StatusReportValues}

-- ---- indicator, parameters and user data

module _ (limit : ℕ) (p : Parameters) where
  octets_count : length (parameters_octets p) ≡ held p.pid + held p.dcs + held p.udl + length p.ud
  octets_count = simp length-append (omega arith)

  module _ {n : ℕ} (e : n ≡ held p.pid + held p.dcs + held p.udl + length p.ud) where
    pub none_against : (n ≡ 0 → ⊥) → Err ParametersWithoutIndicator ≡ found (optional_checks limit None p)
    unfolding optional_checks
    none_against h = rw (octets_count, ← e, ne_eqb n 0 h)

    pub none_fine : n ≡ 0 → fine ≡ found (optional_checks limit None p)
    unfolding optional_checks
    none_fine h = rw (octets_count, ← e, eq-eqb n 0 h)

  module _ (i : ℕ) where
    pub indicator_against : {why : Refusal} → found (indicator_checks i p.pid p.dcs p.udl) ≡ Err why → Err why ≡ found (optional_checks limit (Some i) p)
    unfolding optional_checks
    indicator_against e = sym (against _ (indicator_checks i p.pid p.dcs p.udl) e)

    pub indicator_fine : found (indicator_checks i p.pid p.dcs p.udl) ≡ fine → found (data_within limit p.dcs p.udl (length p.ud)) ≡ found (optional_checks limit (Some i) p)
    unfolding optional_checks
    indicator_fine e = sym (passed _ (indicator_checks i p.pid p.dcs p.udl) e)

-- ---- all values

-- where both times are some, indicator, parameters and user data decide
pub rest_is : (limit : ℕ) (v : StatusReportValues) (scts dt ud : List ℕ) → is_time scts ≡ true → is_time dt ≡ true
    → found (checks_after limit v scts dt ud) ≡ found (optional_checks limit v.indicator (parameters_in v ud))
rest_is limit v scts dt ud s d = rw (s, d)

-- indicator and parameters are few octets
pub few : (v : StatusReportValues) (n : ℕ) → n ≤ 255 → optional_size v n ≤ 259
few v n h = omega (arith, one_at_most v.indicator, one_at_most v.parameters.pid, one_at_most v.parameters.dcs, one_at_most v.parameters.udl)

module _ (limit : ℕ) (v : StatusReportValues) (ton npi : ℕ) (text scts dt ud l : List ℕ) where
  abbrev all : Making ℕ
  all = making limit v ton npi text scts dt ud

  abbrev octets : List ℕ
  octets = octets_in v ton npi text scts dt ud

  abbrev lent : Said ℕ × List ℕ
  lent = lend all l

  by_address : all ≡ after_check (check_of (address_making ton npi text)) (checked (checks_after limit v scts dt ud) octets)
  unfolding making
  by_address = address_checked ton npi text (checks_after limit v scts dt ud) octets

  pub address_against : {why : Refusal} → check_of (address_making ton npi text) ≡ Err why → ◌≡◌ {A = Said ℕ × List ℕ} (Err why, l) lent
  address_against {why} e = lent_refused l why (by_address ∙ rw e)

  module _ {n : ℕ} (counted : check_of (address_making ton npi text) ≡ Ok n) where
    pub rest_against : {why : Refusal} → found (checks_after limit v scts dt ud) ≡ Err why → ◌≡◌ {A = Said ℕ × List ℕ} (Err why, l) lent
    rest_against {why} e = lent_refused l why (by_address ∙ rw counted (one_against octets (checks_after limit v scts dt ud) e))

    module _ (s : is_time scts ≡ true) (d : is_time dt ≡ true) (rest : found (optional_checks limit v.indicator (parameters_in v ud)) ≡ fine) where
      all_made : all ≡ made octets (length octets)
      all_made = by_address ∙ rw counted (all_passed octets (checks_after limit v scts dt ud) (rest_is limit v scts dt ud s d ∙ rest))

      all_size : length octets ≡ 19 + (n + 1) / 2 + optional_size v (length ud)
      all_size =
          let a = fine_size ton npi text n counted in
          let m = time_size scts s in
          let k = time_size dt d in
          simp length-append (omega arith)

      pub short : length l < 19 + (n + 1) / 2 + optional_size v (length ud) → ◌≡◌ {A = Said ℕ × List ℕ} (Err OutputTooShort, l) lent
      short h = lent_short l all_made (rw all_size h)

      pub written : {m : ℕ} {l' : List ℕ} → 19 + (n + 1) / 2 + optional_size v (length ud) ≤ length l → Wrote 0 octets l m l' → ◌≡◌ {A = Said ℕ × List ℕ} (Ok m, l') lent
      written h w = lent_written l all_made (rw all_size h) w
