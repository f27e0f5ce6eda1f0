-- `time::is_hex` meets its contract: the tests are the definition's.
use mathlib.Core.Path.{refl}
use Rattle.time.specs.Time.{is_hex}
use Rattle.time.proofs.is_hex.Goals as goal

pub returns : goal.returns
unfolding is_hex
returns c = refl
