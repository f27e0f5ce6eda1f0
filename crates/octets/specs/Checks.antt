-- A writer's checks, in the order of document 01.
use Rattle.std.specs.Prelude.{◌≡◌, refl, Bool, true, false, ◌&&◌, List, [], ◌∷◌, ℕ, leb, length, if◌then◌else◌, Ok, Err}
use Rattle.octets.specs.Answers.{Said, fine}
use Rattle.octets.specs.Lent.{Making, refused, made}
use Rattle.octets.specs.declared.Refusal.{Refusal}

infix 3 ◌unless◌
-- a refusal, and the test that rules it out
pub data Check : Type 0 where
  ◌unless◌ : Refusal → Bool → Check

-- the first check whose test fails
abbrev pub found : List Check → Said Unit
found [] = fine
found ((why unless holds) ∷ checks) = if holds then found checks else Err why

-- the first check whose test fails refuses; where all hold the octets are written
unfoldable pub checked : List Check → List ℕ → Making ℕ
checked [] octets = made octets (length octets)
checked ((why unless holds) ∷ checks) octets = if holds then checked checks octets else refused why

-- what follows an answer of a check
abbrev pub after_checked : Said Unit → Making ℕ → Making ℕ
after_checked (Ok x) next = next
after_checked (Err why) next = refused why

-- lengths, each with the size of its array: they all fit (refusal 1)
abbrev pub all_fit : List (ℕ × ℕ) → Bool
all_fit [] = true
all_fit (l ∷ []) = leb l.0 l.1
all_fit (l ∷ k ∷ lengths) = leb l.0 l.1 && all_fit (k ∷ lengths)

-- 14 digits fit 14, 15 don't
known_fit : (all_fit ((290, 290) ∷ (14, 14) ∷ []) ≡ true) × (all_fit ((0, 290) ∷ (15, 14) ∷ []) ≡ false)
known_fit = (refl, refl)
