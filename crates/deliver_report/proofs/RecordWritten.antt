-- What a writer makes of a record within a limit: its length, its outcome, then its fields.
-- Assumes nothing.
use Rattle.std.specs.Prelude.{None}
use Prim.Native.Nat.{ℕ}
use mathlib.Core.Path.{◌≡◌}
use mathlib.Core.Bool.{true, false}
use Rattle.octets.specs.Checks.{checked, all_fit}
use Rattle.octets.specs.Lent.{refused}
use Rattle.octets.specs.declared.Refusal.TheVariants.{LengthTooLarge, OutcomeDisagrees}
use Rattle.octets.specs.Held.{filled}
use Rattle.parameters.specs.Outcome.{outcome_agrees}
use Rattle.report.specs.Internal.{making}
use Rattle.report.specs.declared.writing.ReportValues.{ReportValues}
use Rattle.deliver_report.specs.DeliverReport.{lengths_of, deliver_reporting_within}
use Rattle.deliver_report.specs.declared.SmsDeliverReport.{SmsDeliverReport}

abbrev pub values_of : SmsDeliverReport → ReportValues
values_of r = record {
  mti = 0;
  udhi = r.tp_udhi;
  cause = r.tp_failure_cause;
  indicator = r.tp_parameter_indicator;
  parameters = record { pid = r.tp_pid; dcs = r.tp_dcs; udl = r.tp_user_data_length };
}

module _ (limit : ℕ) (r : SmsDeliverReport) where
  pub too_long : all_fit (lengths_of r) ≡ false → deliver_reporting_within limit r ≡ refused LengthTooLarge
  unfolding deliver_reporting_within checked
  too_long e = rw e

  module _ (fit : all_fit (lengths_of r) ≡ true) where
    pub outcome_disagrees : outcome_agrees r.rp_outcome r.tp_failure_cause ≡ false → deliver_reporting_within limit r ≡ refused OutcomeDisagrees
    unfolding deliver_reporting_within checked
    outcome_disagrees e = rw (fit, e)

    pub by_fields : outcome_agrees r.rp_outcome r.tp_failure_cause ≡ true → deliver_reporting_within limit r ≡ making limit (values_of r) None (filled r.tp_user_data)
    unfolding deliver_reporting_within making checked
    by_fields e = rw (fit, e)
