-- What only functions of this crate say to each other: the septets of a text that has some, the next part of a text, and what is counted of its parts.
use Rattle.std.specs.Prelude.{ℕ, ◌+◌, ◌*◌, ◌<◌, ◌≤◌, ◌≡◌, List, [], ◌∷◌, ◌++◌, length, take, drop, Ok, Err}
use Rattle.std.proofs.Math.Option.{Option, none, some}
use Rattle.octets.specs.Answers.{Said}
use Rattle.octets.specs.declared.Refusal.TheVariants.{NotInAlphabet}
use Rattle.gsm7.specs.Writing.{septets_of}
use Rattle.concatenation.specs.declared.Counted.{Counted}
use Rattle.concatenation.specs.Cutting.{parts_of}

-- septets before others, if there are any
abbrev pub with_rest : List ℕ → Option (List ℕ) → Option (List ℕ)
with_rest p none = none
with_rest p (some rest) = some (p ++ rest)

-- septets p are the part of a text that starts at `from`, and the text goes on at `next`
pub record PartAt (text : List ℕ) (from : ℕ) (p : List ℕ) (next : ℕ) : Type 0 where
  pub septets : septets_of (drop from text) ≡ with_rest p (septets_of (drop next text))
  pub first : (rest : List ℕ) → septets_of (drop next text) ≡ some rest → parts_of (p ++ rest) ≡ p ∷ parts_of rest
  pub small : length p ≤ 153
  pub on : from < next
  pub few : (length p + 2 * from ≤ 2 * next) × (length p + 2 * from ≤ 2 * length text)

-- a part's septets stand at the array's start
abbrev pub StoredAs : List ℕ → ℕ → List ℕ → Said (ℕ × ℕ) → Type 0
StoredAs text from codes (Ok (count, next)) = PartAt text from (take count codes) next × (length (take count codes) ≡ count) × (length codes ≡ 255)
StoredAs text from codes (Err why) = (septets_of (drop from text) ≡ none) × (why ≡ NotInAlphabet)

-- the septets of the last part; h, where there is none
unfoldable pub last_length : ℕ → List (List ℕ) → ℕ
last_length h [] = h
last_length h (p ∷ ps) = last_length (length p) ps

-- what is counted of a text's septets: how many they are, how many parts, and how many are the last part's; a character that is in neither table, or no UTF-8: 10
abbrev pub counted_as : Option (List ℕ) → Said Counted
counted_as none = Err NotInAlphabet
counted_as (some ss) = Ok (record { septets = length ss; parts = length (parts_of ss); last = last_length 0 (parts_of ss) })

-- the septets of a text, and that it has some: it is UTF-8 of characters of the alphabet
abbrev pub those : Option (List ℕ) → List ℕ
those none = []
those (some ss) = ss

abbrev pub codes_of : List ℕ → List ℕ
codes_of text = those (septets_of text)

abbrev pub Coded : List ℕ → Type 0
Coded text = septets_of text ≡ some (codes_of text)
