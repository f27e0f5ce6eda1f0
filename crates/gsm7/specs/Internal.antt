-- What the codec's functions that read and write text say to each other. Only these use it, and nobody has to believe anything here.
use Rattle.std.specs.Prelude.{ℕ, ◌≡◌, Bool, not, ◌&&◌, List, [], ◌∷◌, ◌++◌, length, eqb, ltb, if◌then◌else◌, Ok, Err, Some, None, Option as Maybe}
use Rattle.std.proofs.Math.Option.{Option, none, some}
use Rattle.std.proofs.lemmas.List.Edits.{sets}
use Rattle.octets.specs.Answers.{Said}
use Rattle.octets.specs.Lent.{Wrote}
use Rattle.octets.specs.declared.Refusal.TheVariants.{NotInAlphabet}
use Rattle.septets.specs.Septets.{in_window}
use Rattle.gsm7.specs.Alphabet.{character, escaped}

-- a code that is no escape, and whose character takes one octet
unfoldable pub plain : ℕ → Bool
plain code = not (eqb code 0x1b) && ltb (character code) 0x80

-- the first four septets of a window are plain, and their characters
abbrev pub four_plain : ℕ → Bool
four_plain w = plain (in_window w 0) && plain (in_window w 1) && plain (in_window w 2) && plain (in_window w 3)

abbrev pub four_characters : ℕ → List ℕ
four_characters w = character (in_window w 0) ∷ character (in_window w 1) ∷ character (in_window w 2) ∷ character (in_window w 3) ∷ []

-- characters written one after the other, by the octets of each
unfoldable pub written_by : (ℕ → List ℕ) → List ℕ → List ℕ
written_by form [] = []
written_by form (c ∷ cs) = form c ++ written_by form cs

-- the characters of septets, written so: an escape takes the next septet with it; as the last one it is a space
unfoldable mutual
  pub shown_by : (ℕ → List ℕ) → List ℕ → List ℕ
  shown_by form [] = []
  shown_by form (s ∷ ss) =
      let escape = shown_after form ss in
      let plain = form (character s) ++ shown_by form ss in
      if eqb s 0x1b then escape else plain

  pub shown_after : (ℕ → List ℕ) → List ℕ → List ℕ
  shown_after form [] = form 0x20
  shown_after form (t ∷ ss) = form (escaped t) ++ shown_by form ss

-- a text's septets, if it has any: their number is told, and they are stored from the array's start, as far as it goes
abbrev pub ScannedAs : Option (List ℕ) → Said ℕ → List ℕ → List ℕ → Type 0
ScannedAs none r before after = r ≡ Err NotInAlphabet
ScannedAs (some ss) r before after = (r ≡ Ok (length ss)) × (after ≡ sets before 0 ss)

-- the code that an entry of a table stands for: below 128 itself
abbrev pub entry_code : ℕ → Maybe ℕ
entry_code x = if ltb x 128 then Some x else None

-- the septets of a character by its code in the default alphabet, else others
abbrev pub single_or : Maybe ℕ → Said (List ℕ) → Said (List ℕ)
single_or (Some k) others = Ok (k ∷ [])
single_or None others = others

-- and by its code in the extension table; in neither table: 10
abbrev pub escape_says : Maybe ℕ → Said (List ℕ)
escape_says (Some k) = Ok (0x1b ∷ k ∷ [])
escape_says None = Err NotInAlphabet

-- a character's septets stored after `count` others, and their number with these; where it has none, nothing is stored
abbrev pub AddedAs : Said (List ℕ) → ℕ → Maybe ℕ → List ℕ → List ℕ → Type 0
AddedAs (Ok ks) count r before after = (next : ℕ) × (r ≡ Some next) × Wrote count ks before next after
AddedAs (Err why) count r before after = (r ≡ None) × (after ≡ before)
