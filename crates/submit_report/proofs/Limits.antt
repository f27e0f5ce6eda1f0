-- SUBMIT-REPORT's writers differ in the limit of user data alone.
-- Assumes nothing.
use lib.Dec.{leb}
use lib.ListN.{length}
use mathlib.Core.List.{[], ◌∷◌}
use Rattle.octets.specs.Checks.{◌unless◌, all_fit}
use Rattle.octets.specs.declared.Refusal.TheVariants.{LengthTooLarge, OutcomeDisagrees, UdhiTooLarge}
use Rattle.octets.specs.Held.{filled}
use Rattle.time.specs.Time.{is_time}
use Rattle.parameters.specs.Limits.{Limits}
use Rattle.parameters.specs.Outcome.{outcome_agrees}
use Rattle.report.proofs.Limits.{report_limits}
use Rattle.submit_report.specs.SubmitReport.{fields_in, lengths_of, submit_reporting_within}

pub submit_report_limits : Limits submit_reporting_within (λ r. length (filled r.tp_user_data))
unfolding submit_reporting_within
submit_report_limits =
    report_limits
    (λ r. (LengthTooLarge unless all_fit (lengths_of r)) ∷ (OutcomeDisagrees unless outcome_agrees r.rp_outcome r.tp_failure_cause) ∷ (UdhiTooLarge unless leb r.tp_udhi 1) ∷ [])
    (λ r. is_time (filled r.tp_service_centre_timestamp)) 1 fields_in
