-- `canonical::canonical_status_report` meets its contract where a message is read: the answer is the writer's.
use mathlib.Core.Path.{refl}
use Rattle.layout.specs.Layout.{read}
use Rattle.layout.proofs.Rewriting.{written_whole}
use Rattle.status_report.specs.StatusReport.{read_with, status_report, status_reporting}
use Rattle.canonical.proofs.canonical_status_report.Goals as goal

pub returns : goal.returns
returns c =
    let s = c.args.«data».now in
    written_whole (read_with s) status_reporting (read status_report s) _ (λ a. a.message) (λ r n. refl) c.in_ok-read.ensures c.encode.ensures
