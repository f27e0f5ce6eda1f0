-- The default of the message is the blank record, and that of what reading gives is that with nothing replaced.
-- Assumes nothing.
use mathlib.Core.Path.{◌≡◌}
use Rattle.layout.specs.contracts.MessageReadDefault.TheImpl.{ghosts as ghosts_of}
use Rattle.layout.proofs.Defaults.{default_read as default_read_of}
use Rattle.deliver_report.specs.DeliverReport.{blank, DeliverReportRead}
use Rattle.deliver_report.specs.contracts.SmsDeliverReport.{the_row}
use Rattle.deliver_report.specs.contracts.SmsDeliverReportDefault.TheImpl.{ghosts, dict}
use Rattle.deliver_report.specs.declared.SmsDeliverReport.{SmsDeliverReport}

pub default_blank : (r : SmsDeliverReport) → ghosts.is_default r → r ≡ blank
default_blank r d = d

pub default_read : (r : DeliverReportRead) → (ghosts_of the_row ghosts dict).is_default r → r ≡ record { message = blank; replaced_escapes = 0 }
default_read = default_read_of the_row ghosts dict blank default_blank
