-- DELIVER-REPORT's writers differ in the limit of user data alone.
-- Assumes nothing.
use lib.ListN.{length}
use mathlib.Core.Bool.{true}
use mathlib.Core.List.{[], ◌∷◌}
use Rattle.octets.specs.Checks.{◌unless◌, all_fit}
use Rattle.octets.specs.declared.Refusal.TheVariants.{LengthTooLarge, OutcomeDisagrees}
use Rattle.octets.specs.Held.{filled}
use Rattle.parameters.specs.Limits.{Limits}
use Rattle.parameters.specs.Outcome.{outcome_agrees}
use Rattle.report.proofs.Limits.{report_limits}
use Rattle.deliver_report.specs.DeliverReport.{fields_in, lengths_of, deliver_reporting_within}

pub deliver_report_limits : Limits deliver_reporting_within (λ r. length (filled r.tp_user_data))
unfolding deliver_reporting_within
deliver_report_limits = report_limits (λ r. (LengthTooLarge unless all_fit (lengths_of r)) ∷ (OutcomeDisagrees unless outcome_agrees r.rp_outcome r.tp_failure_cause) ∷ []) (λ r. true) 0 fields_in
