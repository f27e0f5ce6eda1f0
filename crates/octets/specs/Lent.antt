-- What every writer does with a lent buffer.
use Rattle.std.specs.Prelude.{ℕ, ◌+◌, ◌≡◌, List, ◌++◌, length, drop, leb, if◌then◌else◌, Ok, Err}
use Rattle.std.proofs.lemmas.List.Edits.{sets}
use Rattle.octets.specs.Answers.{Said}
use Rattle.octets.specs.declared.Refusal.{Refusal}
use Rattle.octets.specs.declared.Refusal.TheVariants.{OutputTooShort}

-- what a writer makes of its input: octets and what it tells of them, or a refusal
pub data Making (A : Type 0) : Type 0 where
  refused : Refusal → Making A
  made : List ℕ → A → Making A

-- the answer, and the lent buffer afterwards: the octets stand at its start and none after them changes; where they don't fit, 23; a refusal changes no octet
unfoldable pub lend : {A : Type 0} → Making A → List ℕ → Said A × List ℕ
lend (refused r) buffer = (Err r, buffer)
lend (made octets told) buffer =
    if leb (length octets) (length buffer) then (Ok told, octets ++ drop (length octets) buffer)
    else (Err OutputTooShort, buffer)

-- what a step of a writer does: it stores octets from place `at` on, and answers the place after them
pub record Wrote (at : ℕ) (octets before : List ℕ) (next : ℕ) (after : List ℕ) : Type 0 where
  pub place : next ≡ at + length octets
  pub list : after ≡ sets before at octets
