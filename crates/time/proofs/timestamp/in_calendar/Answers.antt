-- `time::timestamp::in_calendar` meets its contract: the tests are the definition's.
use mathlib.Core.Path.{refl}
use Rattle.time.specs.Timestamp.{in_calendar}
use Rattle.time.proofs.timestamp.in_calendar.Goals as goal

pub returns : goal.returns
unfolding in_calendar
returns c = refl
