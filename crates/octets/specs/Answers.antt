-- What an answer says, case by case, in document 01's terms: number 0 with its values, or a refusal's number.
use Rattle.std.specs.Prelude.{ℕ, ◌≡◌, refl, Result, Ok, Err}
use Rattle.octets.specs.Refusals.{refusal_number}
use Rattle.octets.specs.declared.Refusal.{Refusal}
use Rattle.octets.specs.declared.Refusal.TheVariants.{OctetsEnd}

-- values, or a refusal
abbrev pub Said : Type 0 → Type 0
Said A = Result A Refusal

-- its number
abbrev pub said_number : {A : Type 0} → Said A → ℕ
said_number (Ok x) = 0
said_number (Err why) = refusal_number why

-- no value, and no refusal
abbrev pub fine : Said Unit
fine = Ok tt

-- the octets end: 2; seven octets written: 0
known_answers : (let x : Said ℕ = Err OctetsEnd in said_number x ≡ 2) × (let x : Said ℕ = Ok 7 in said_number x ≡ 0)
known_answers = (refl, refl)
