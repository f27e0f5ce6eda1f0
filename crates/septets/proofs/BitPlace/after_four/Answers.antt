-- `septets::BitPlace::after_four` meets its contract: four septets on is half an octet less than four octets on.
use Prim.Native.Nat.{ℕ, ◌+◌, ◌*◌, ◌<◌}
use mathlib.Core.Path.{◌≡◌}
use native.Mathlib.Omega.{arith}
use Rattle.septets.specs.Septets.{bit_of, place_after}
use Rattle.septets.specs.declared.BitPlace.{BitPlace}
use Rattle.septets.proofs.BitPlaces.{place_is, bit_after}
use Rattle.septets.proofs.BitPlace.after_four.Goals as goal

-- 28 bits on
four_on : (p : BitPlace) (o s : ℕ) → bit_of p + 28 ≡ o * 8 + s → s < 8 → ◌≡◌ {A = BitPlace} (record { octet = o; shift = s }) (place_after p 4)
unfolding place_after
four_on p o s e h = place_is o s _ (omega (arith, bit_after p 3)) h

pub returns-then-shift-lt4 : goal.returns-then-shift-lt4
returns-then-shift-lt4 c = four_on _ _ _ (omega arith) (omega arith)

pub returns : goal.returns
returns c = four_on _ _ _ (omega arith) (omega arith)
