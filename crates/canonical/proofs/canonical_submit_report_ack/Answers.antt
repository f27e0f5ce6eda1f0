-- `canonical::canonical_submit_report_ack` meets its contract where a message is read: the answer is the writer's.
use mathlib.Core.Path.{refl}
use Rattle.layout.specs.Layout.{read}
use Rattle.layout.proofs.Rewriting.{written_whole}
use Rattle.parameters.specs.declared.RpOutcome.TheVariants.{RpAck}
use Rattle.submit_report.specs.SubmitReport.{layout_of, read_with, submit_reporting}
use Rattle.canonical.proofs.canonical_submit_report_ack.Goals as goal

pub returns : goal.returns
returns c =
    let s = c.args.«data».now in
    written_whole (read_with s) submit_reporting (read (layout_of RpAck) s) _ (λ a. a.message) (λ r n. refl) c.in_ok-read.ensures c.encode.ensures
