-- `message_store::all_same` meets its contract.
use Rattle.std.proofs.Common.{◌∙◌}
use Rattle.message_store.proofs.AtStart.{starts_begins}
use Rattle.message_store.proofs.all_same.Goals as goal

pub returns : goal.returns
returns c = c.eq.ensures ∙ starts_begins _ _
