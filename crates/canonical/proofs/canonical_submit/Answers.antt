-- `canonical::canonical_submit` meets its contract where a message is read: the answer is the writer's.
use mathlib.Core.Path.{refl}
use Rattle.layout.specs.Layout.{read}
use Rattle.layout.proofs.Rewriting.{written_whole}
use Rattle.submit.specs.Submit.{read_with, submit, submitting}
use Rattle.canonical.proofs.canonical_submit.Goals as goal

pub returns : goal.returns
returns c =
    let s = c.args.«data».now in
    written_whole (read_with s) submitting (read submit s) _ (λ a. a.message) (λ r n. refl) c.in_ok-read.ensures c.encode.ensures
