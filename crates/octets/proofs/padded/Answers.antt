use mathlib.Core.Path.{◌∙◌}
use Rattle.octets.proofs.Laws.{sets_zeros}
use Rattle.octets.proofs.padded.Goals as goal

pub returns : goal.returns
returns g c = c.put_octets.ensures.list ∙ sets_zeros _ _ c.requires
