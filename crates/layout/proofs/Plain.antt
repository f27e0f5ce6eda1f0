-- What the tests of a layout decide, in plain terms.
-- Assumes nothing.
use Prim.Native.Nat.{ℕ, ◌<◌}
use mathlib.Core.Path.{◌≡◌}
use mathlib.Core.Bool.{true, false, not, false≢true}
use mathlib.Core.List.{List, [], ◌∷◌}
use mathlib.Core.Logic.{◌⊎◌, ◌↔◌}
use native.Mathlib.Omega.{arith}
use borrow.Author.Tests.{ltb-true, lt-ltb, eqb-true, eq-eqb, eqb-false, ne_eqb, not-true}
use lib.Bits.{bit_and}
use lib.Dec.{eqb}
use lib.ListN.{length}
use Rattle.octets.proofs.Choice.{and_means, or_means}
use Rattle.layout.specs.Layout.{any, up_to, Kind, first, octet, octets, address, indicator, bit, message_type, leading, Field, past_limit, any_past_limit, stops}

-- a field that a writer refuses
abbrev pub PastLimit : Kind → List ℕ → Type 0
PastLimit (first bits) c = ⊥
PastLimit octet c = ⊥
PastLimit (octets any n) c = ⊥
PastLimit (octets (up_to most) n) c = most < length c
PastLimit address c = 12 < length c
PastLimit indicator c = bit 7 (leading c) ≡ 1

abbrev pub AnyPastLimit : List Field → Type 0
AnyPastLimit [] = ⊥
AnyPastLimit (c ∷ cs) = PastLimit c.kind c.stands ⊎ AnyPastLimit cs

none : (false ≡ true) ↔ ⊥
none = (λ e. false≢true e, λ n. absurd n)

past_means : (k : Kind) (c : List ℕ) → (past_limit k c ≡ true) ↔ PastLimit k c
past_means (first bits) c = none
past_means octet c = none
past_means (octets any n) c = none
past_means (octets (up_to most) n) c = (ltb-true most (length c), lt-ltb most (length c))
past_means address c = (ltb-true 12 (length c), lt-ltb 12 (length c))
past_means indicator c = (eqb-true (bit 7 (leading c)) 1, eq-eqb (bit 7 (leading c)) 1)

pub any_past_means : (cs : List Field) → (any_past_limit cs ≡ true) ↔ AnyPastLimit cs
any_past_means [] = none
any_past_means (c ∷ cs) = or_means _ _ (past_means c.kind c.stands) (any_past_means cs)

-- a first octet that stops an RP-ERROR
pub stops_means : (mti : ℕ) (s : List ℕ) → (stops mti s ≡ true) ↔ ((0 < length s) × ((message_type (leading s) ≡ mti) × (bit_and (leading s) 0xbc ≡ 0 → ⊥)))
unfolding stops
stops_means mti [] = (λ e. absurd (false≢true e), λ h. absurd (omega (arith, h.0)))
stops_means mti (x ∷ s) =
    let m = and_means _ _ (eqb-true (message_type x) mti, eq-eqb (message_type x) mti) (differs (bit_and x 0xbc)) in
    (λ e. (omega arith, m.0 e), λ h. m.1 h.1)
  where
    differs : (n : ℕ) → (not (eqb n 0) ≡ true) ↔ (n ≡ 0 → ⊥)
    differs n = (λ e. eqb-false n 0 (not-true (eqb n 0) e), λ h. rw (ne_eqb n 0 h))
