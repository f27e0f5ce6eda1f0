-- The default of the message is the blank record, and that of what reading gives is that with nothing replaced.
-- Assumes nothing.
use mathlib.Core.Path.{◌≡◌}
use Rattle.time.specs.Time.{time_digits}
use Rattle.address.specs.Address.{address_with}
use Rattle.layout.specs.contracts.MessageReadDefault.TheImpl.{ghosts as ghosts_of}
use Rattle.layout.proofs.Defaults.{default_read as default_read_of}
use Rattle.status_report.specs.StatusReport.{StatusReportRead, blank}
use Rattle.status_report.specs.contracts.SmsStatusReport.{the_row}
use Rattle.status_report.specs.contracts.SmsStatusReportDefault.TheImpl.{ghosts, dict}
use Rattle.status_report.specs.declared.SmsStatusReport.{SmsStatusReport}

pub default_blank : (r : SmsStatusReport) → ghosts.is_default r → r ≡ blank
unfolding blank address_with time_digits
default_blank r d =
    let (udhi, (srq, (lp, (mms, (mr, ((ton, (npi, text)), (time, (discharge, (status, (indicator, (pid, (dcs, (udl, ud))))))))))))) = d in
    λ i. record {
      tp_udhi = udhi i;
      tp_srq = srq i;
      tp_lp = lp i;
      tp_mms = mms i;
      tp_mr = mr i;
      tp_recipient_address = record { ton = ton i; npi = npi i; address = text i };
      tp_service_centre_timestamp = time i;
      tp_discharge_time = discharge i;
      tp_status = status i;
      tp_parameter_indicator = indicator i;
      tp_pid = pid i;
      tp_dcs = dcs i;
      tp_user_data_length = udl i;
      tp_user_data = ud i;
    }

pub default_read : (r : StatusReportRead) → (ghosts_of the_row ghosts dict).is_default r → r ≡ record { message = blank; replaced_escapes = 0 }
default_read = default_read_of the_row ghosts dict blank default_blank
