-- Semi-octets (TS 23.040 §9.1.2.3): two to an octet, the first in the low half.
use Rattle.std.specs.Prelude.{ℕ, ◌+◌, ◌*◌, ◌/◌, ◌%◌, ◌≡◌, refl, List, [], ◌∷◌}

-- the semi-octets of octets
unfoldable pub semi_octets : List ℕ → List ℕ
semi_octets [] = []
semi_octets (octet ∷ octets) = octet % 16 ∷ octet / 16 ∷ semi_octets octets

-- the octets of semi-octets; F is the high half after an odd number
unfoldable pub in_pairs : List ℕ → List ℕ
in_pairs [] = []
in_pairs (first ∷ []) = (first + 16 * 0xf) ∷ []
in_pairs (first ∷ second ∷ rest) = (first + 16 * second) ∷ in_pairs rest

known_pairs : (semi_octets (0x21 ∷ 0xf3 ∷ []) ≡ 1 ∷ 2 ∷ 3 ∷ 0xf ∷ []) × (in_pairs (1 ∷ 2 ∷ 3 ∷ []) ≡ 0x21 ∷ 0xf3 ∷ [])
unfolding semi_octets in_pairs
known_pairs = (refl, refl)
