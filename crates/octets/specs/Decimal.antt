-- Numbers in decimal.
use Rattle.std.specs.Prelude.{ℕ, zero, suc, ◌+◌, ◌/◌, ◌%◌, ◌≡◌, refl, List, [], ◌∷◌, ◌++◌, eqb, if◌then◌else◌}
use Prim.Native.Char.{code}
use Rattle.octets.specs.Texts.{codes}

-- the last decimal digits of a number, at most k, with no zero in front: none of 0
unfoldable pub significant : ℕ → ℕ → List ℕ
significant zero n = []
significant (suc k) n = if eqb n 0 then [] else significant k (n / 10) ++ (code "0" + n % 10) ∷ []

-- a number of at most 20 digits in decimal, with no zero in front but that of 0
unfoldable pub decimal_text : ℕ → List ℕ
decimal_text n = significant 19 (n / 10) ++ (code "0" + n % 10) ∷ []

known_decimals : (decimal_text 0 ≡ codes "0") × (decimal_text 10 ≡ codes "10") × (decimal_text 905 ≡ codes "905")
    × (decimal_text 18446744073709551615 ≡ codes "18446744073709551615")
unfolding codes significant decimal_text
known_decimals = (refl, refl, refl, refl)
