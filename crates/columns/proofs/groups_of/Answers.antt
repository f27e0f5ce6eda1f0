-- `columns::groups_of` meets its contract.
use mathlib.Core.Path.{sym, ap}
use native.Mathlib.Omega.{arith}
use lib.ListN.{length}
use Rattle.columns.proofs.Numbers.{groups_one, groups_two}
use Rattle.columns.proofs.groups_of.Goals as goal

pub returns-then-n-lt128 : goal.returns-then-n-lt128
returns-then-n-lt128 c = sym (ap length (groups_one _ (omega arith)))

pub returns-else-n-lt128 : goal.returns-else-n-lt128
returns-else-n-lt128 c = sym (ap length (groups_two _ (omega arith) (omega arith)))
