-- `reassembly::accepted` meets its contract.
use Rattle.reassembly.specs.Calls.{told}
use Rattle.reassembly.proofs.accepted.Goals as goal

pub returns : goal.returns
unfolding told
returns c = rw c.missing_in-missing.ensures
