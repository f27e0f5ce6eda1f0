-- The place of a bit: by quotient and remainder, and back; and the places of the septets from there on.
-- Assumes nothing.
use Prim.Native.Nat.{ℕ, zero, suc, ◌+◌, ◌*◌, ◌/◌, ◌%◌, ◌<◌}
use mathlib.Core.Path.{◌≡◌, ap, ◌∙◌}
use mathlib.Core.List.{List}
use native.Mathlib.Omega.{arith}
use Rattle.septets.specs.Septets.{bit_place, bit_of, place_after, septet_from, septet_at}
use Rattle.septets.specs.declared.BitPlace.{BitPlace}

pub place_is : (o s b : ℕ) → b ≡ o * 8 + s → s < 8 → ◌≡◌ {A = BitPlace} (record { octet = o; shift = s }) (bit_place b)
place_is o s b e h =
    let d : b / 8 ≡ o = omega arith in
    let m : b % 8 ≡ s = omega arith in
    rw (d, m)

bit_place_lem : (b : ℕ) → bit_of (bit_place b) ≡ b
bit_place_lem b = omega arith

-- k septets on are 7k bits on
pub bit_after : (p : BitPlace) (k : ℕ) → bit_of (place_after p k) ≡ bit_of p + k * 7
unfolding place_after
bit_after p zero = omega arith
bit_after p (suc k) = bit_place_lem (bit_of (place_after p k) + 7) ∙ omega (arith, bit_after p k)

-- a loop over septets after f fill bits, at septet i
module _ (f i : ℕ) {p : BitPlace} (e : p ≡ bit_place (f + i * 7)) where
  bit_here : bit_of p ≡ f + i * 7
  bit_here = ap bit_of e ∙ bit_place_lem (f + i * 7)

  -- the place of each septet from there on
  pub places_here : (k : ℕ) → place_after p k ≡ bit_place (f + (i + k) * 7)
  unfolding place_after
  places_here zero = e ∙ ap bit_place (omega arith)
  places_here (suc k) = let n : bit_of (place_after p k) + 7 ≡ f + (i + suc k) * 7 = omega (arith, bit_after p k, bit_here) in ap bit_place n

  pub septet_after : (os : List ℕ) (k : ℕ) {x : ℕ} → x ≡ septet_from os (bit_of (place_after p k)) → x ≡ septet_at os f (i + k)
  septet_after os k h = h ∙ ap (λ (q : BitPlace). septet_from os (bit_of q)) (places_here k) ∙ ap (septet_from os) (bit_place_lem (f + (i + k) * 7))

  pub next_here : {r : BitPlace} → r ≡ bit_place (bit_of p + 7) → r ≡ bit_place (f + (i + 1) * 7)
  unfolding place_after
  next_here h = h ∙ places_here 1
