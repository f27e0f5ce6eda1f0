-- What a writer makes of a record within a limit: its lengths, then its fields.
-- Assumes nothing.
use Prim.Native.Nat.{ℕ, ◌≤◌}
use mathlib.Core.Path.{◌≡◌}
use mathlib.Core.Bool.{true, false}
use borrow.Author.Tests.{le-leb}
use Rattle.octets.specs.Checks.{checked, all_fit}
use Rattle.octets.specs.Lent.{refused}
use Rattle.octets.specs.declared.Refusal.TheVariants.{LengthTooLarge}
use Rattle.octets.specs.Held.{filled}
use Rattle.address.specs.Address.{text_held}
use Rattle.layout.specs.Layout.{first_octet}
use Rattle.status_report.specs.StatusReport.{lengths_of, flags_of, status_reporting_within}
use Rattle.status_report.specs.Internal.{making}
use Rattle.status_report.specs.declared.SmsStatusReport.{SmsStatusReport}

module _ (limit : ℕ) (r : SmsStatusReport) where
  pub too_long : all_fit (lengths_of r) ≡ false → status_reporting_within limit r ≡ refused LengthTooLarge
  unfolding status_reporting_within checked
  too_long e = rw e

  -- by the values of its fields
  pub by_fields : all_fit (lengths_of r) ≡ true → {first : ℕ} → first ≡ first_octet 2 (flags_of r)
      → status_reporting_within limit r ≡ making
      limit
      (record {
        first = first;
        mr = r.tp_mr;
        status = r.tp_status;
        indicator = r.tp_parameter_indicator;
        parameters = record { pid = r.tp_pid; dcs = r.tp_dcs; udl = r.tp_user_data_length };
      })
      r.tp_recipient_address.ton r.tp_recipient_address.npi (text_held r.tp_recipient_address) (filled r.tp_service_centre_timestamp) (filled r.tp_discharge_time) (filled r.tp_user_data)
  unfolding status_reporting_within making checked
  by_fields e f = rw (e, f)

pub fits : (r : SmsStatusReport) → r.tp_recipient_address.address.length ≤ 290 → r.tp_service_centre_timestamp.length ≤ 14 → r.tp_discharge_time.length ≤ 14 → r.tp_user_data.length ≤ 255 → all_fit (lengths_of r) ≡ true
fits r a t d u = rw (le-leb _ 290 a, le-leb r.tp_service_centre_timestamp.length 14 t, le-leb r.tp_discharge_time.length 14 d, le-leb _ 255 u)
