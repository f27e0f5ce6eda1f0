-- `canonical::canonical_deliver` meets its contract where a message is read: the answer is the writer's.
use mathlib.Core.Path.{refl}
use Rattle.layout.specs.Layout.{read}
use Rattle.layout.proofs.Rewriting.{written_whole}
use Rattle.deliver.specs.Deliver.{deliver, delivering, read_with}
use Rattle.canonical.proofs.canonical_deliver.Goals as goal

pub returns : goal.returns
returns c =
    let s = c.args.«data».now in
    written_whole (read_with s) delivering (read deliver s) _ (λ a. a.message) (λ r n. refl) c.in_ok-read.ensures c.encode.ensures
