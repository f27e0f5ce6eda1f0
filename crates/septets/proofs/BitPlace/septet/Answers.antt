-- `septets::BitPlace::septet` meets its contract: it is the first septet of the window.
use mathlib.Core.Path.{◌∙◌}
use native.Mathlib.Omega.{arith}
use Rattle.septets.specs.Septets.{place_after}
use Rattle.septets.proofs.BitPlace.septet.Goals as goal

pub window-requires : goal.window-requires
window-requires c = c.requires

pub returns : goal.returns
unfolding place_after
returns c = c.septet_in.ensures ∙ c.window.ensures 0 (omega arith)
