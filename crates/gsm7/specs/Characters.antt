-- A text said plainly: characters of the two tables, one after the other. (Document 01's "a character of the alphabet": ESC is no writable character.)
use Rattle.std.specs.Prelude.{ℕ, ◌<◌, ◌≡◌, List, [], ◌∷◌, ◌++◌, get_or}
use Rattle.gsm7.specs.Alphabet.{extension, row, character}
use Rattle.gsm7.specs.Reading.{utf8}

-- an entry of the default alphabet but the escape, or of the extension table
pub data Entry : Type 0 where
  plain : (code : ℕ) → code < 128 → (code ≡ 0x1b → ⊥) → Entry
  extended : (place : ℕ) → place < 10 → Entry

-- its character
abbrev pub character_of : Entry → ℕ
character_of (plain code h n) = character code
character_of (extended place h) = (get_or extension place (row 0 0)).character

-- the UTF-8 of its character
abbrev pub octets_for : Entry → List ℕ
octets_for e = utf8 (character_of e)

-- its septets
abbrev pub septets_for : Entry → List ℕ
septets_for (plain code h n) = code ∷ []
septets_for (extended place h) = 0x1b ∷ (get_or extension place (row 0 0)).code ∷ []

-- the characters of entries, one after the other
unfoldable pub spelled : List Entry → List ℕ
spelled [] = []
spelled (e ∷ es) = octets_for e ++ spelled es

-- their codes, one after the other
unfoldable pub coded : List Entry → List ℕ
coded [] = []
coded (e ∷ es) = septets_for e ++ coded es
