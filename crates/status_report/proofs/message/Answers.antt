-- `status_report::message` meets its contract.
use Rattle.status_report.proofs.RecordRead.{message_is}
use Rattle.status_report.proofs.message.Goals as goal

pub returns : goal.returns
returns c =
    message_is c.args.«data».now (λ i. (c.type_inv.«data» i).fits) c.args.f c.requires
    _ c.address_at-read.ensures.0 _ c.time_at-timestamp.ensures _ c.time_at-discharge_time.ensures _ c.hold-user_data.ensures _ c.address_at-read.ensures.1
