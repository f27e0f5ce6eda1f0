-- `septets::BitPlace::next` meets its contract: seven bits on is one octet on and a bit less, or the last bit of the same octet.
use native.Mathlib.Omega.{arith}
use Rattle.septets.proofs.BitPlaces.{place_is}
use Rattle.septets.proofs.BitPlace.next.Goals as goal

pub returns-then-shift-eq0 : goal.returns-then-shift-eq0
returns-then-shift-eq0 c = place_is _ _ _ (omega arith) (omega arith)

pub returns : goal.returns
returns c = place_is _ _ _ (omega arith) (omega arith)
