-- A text without the spaces at its end.
-- Assumes nothing.
use Prim.Native.Nat.{ℕ, zero, suc, ◌-◌}
use Prim.Native.Char.{code}
use mathlib.Core.Path.{◌≡◌, refl}
use mathlib.Core.List.{List, [], ◌∷◌, ◌++◌}
use native.Mathlib.Omega.{arith}
use borrow.Author.Tests.{ne_eqb}
use lib.ListN.{length, replicate, length-append}
use Rattle.shift_page.specs.ShiftPage.{left}
use Rattle.shift_page.specs.Told.{trimmed}

no_spaces : (n : ℕ) → trimmed (replicate n (code " ")) ≡ []
unfolding trimmed
no_spaces zero = refl
no_spaces (suc n) = rw (no_spaces n)

spaces_after : (n : ℕ) (text : List ℕ) → trimmed (text ++ replicate n (code " ")) ≡ trimmed text
unfolding trimmed
spaces_after n [] = no_spaces n
spaces_after n (c ∷ text) = rw (spaces_after n text)

-- unused columns are none of it
pub trimmed_left : (n : ℕ) (text : List ℕ) → trimmed (left n text) ≡ trimmed text
unfolding left
trimmed_left n text = spaces_after (n - length text) text

-- a text that ends in no space is itself
pub none_at_end : (text : List ℕ) (c : ℕ) → (c ≡ code " " → ⊥) → trimmed (text ++ (c ∷ [])) ≡ text ++ (c ∷ [])
unfolding trimmed
none_at_end [] c h = rw (ne_eqb c (code " ") h)
none_at_end (d ∷ text) c h = rw (none_at_end text c h, ne_eqb (length (text ++ (c ∷ []))) 0 (λ e. omega (arith, length-append text (c ∷ []))))
