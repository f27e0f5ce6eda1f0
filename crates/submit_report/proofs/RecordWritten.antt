-- What a writer makes of a record within a limit: its lengths, its outcome, its UDHI, then its fields.
-- Assumes nothing.
use Rattle.std.specs.Prelude.{Some}
use Prim.Native.Nat.{ℕ, ◌≤◌, ◌<◌}
use mathlib.Core.Path.{◌≡◌}
use mathlib.Core.Bool.{true, false}
use borrow.Author.Tests.{le-leb, lt-leb}
use lib.Dec.{eqb}
use Rattle.octets.specs.Checks.{checked, all_fit}
use Rattle.octets.specs.Lent.{refused}
use Rattle.octets.specs.declared.Refusal.TheVariants.{LengthTooLarge, OutcomeDisagrees, UdhiTooLarge}
use Rattle.octets.specs.Held.{filled}
use Rattle.parameters.specs.Outcome.{outcome_agrees}
use Rattle.report.specs.Internal.{making}
use Rattle.report.specs.declared.writing.ReportValues.{ReportValues}
use Rattle.submit_report.specs.SubmitReport.{lengths_of, submit_reporting_within}
use Rattle.submit_report.specs.declared.SmsSubmitReport.{SmsSubmitReport}

abbrev pub values_of : SmsSubmitReport → ReportValues
values_of r = record {
  mti = 1;
  udhi = eqb r.tp_udhi 1;
  cause = r.tp_failure_cause;
  indicator = r.tp_parameter_indicator;
  parameters = record { pid = r.tp_pid; dcs = r.tp_dcs; udl = r.tp_user_data_length };
}

module _ (limit : ℕ) (r : SmsSubmitReport) where
  pub too_long : all_fit (lengths_of r) ≡ false → submit_reporting_within limit r ≡ refused LengthTooLarge
  unfolding submit_reporting_within checked
  too_long e = rw e

  module _ (fit : all_fit (lengths_of r) ≡ true) where
    pub outcome_disagrees : outcome_agrees r.rp_outcome r.tp_failure_cause ≡ false → submit_reporting_within limit r ≡ refused OutcomeDisagrees
    unfolding submit_reporting_within checked
    outcome_disagrees e = rw (fit, e)

    module _ (agrees : outcome_agrees r.rp_outcome r.tp_failure_cause ≡ true) where
      pub udhi_large : 1 < r.tp_udhi → submit_reporting_within limit r ≡ refused UdhiTooLarge
      unfolding submit_reporting_within checked
      udhi_large h = rw (fit, agrees, lt-leb r.tp_udhi 1 h)

      pub by_fields : r.tp_udhi ≤ 1 → submit_reporting_within limit r ≡ making limit (values_of r) (Some (filled r.tp_service_centre_timestamp)) (filled r.tp_user_data)
      unfolding submit_reporting_within making checked
      by_fields h = rw (fit, agrees, le-leb r.tp_udhi 1 h)
