-- The septets of a text: characters of UTF-8, one after the other, each with its code or its escape and code. The law `adequate` says the same with no scanning.
use Rattle.std.specs.Prelude.{ℕ, zero, suc, ◌+◌, ◌-◌, ◌*◌, ◌%◌, ◌≡◌, refl, Bool, true, false, ◌&&◌, List, [], ◌∷◌, ◌++◌, get_or, eqb, ltb, if◌then◌else◌, Ok, Err}
use Rattle.std.proofs.Math.Option.{Option, none, some}
use Rattle.octets.specs.Answers.{Said}
use Rattle.octets.specs.declared.Refusal.TheVariants.{NotInAlphabet}
use Rattle.gsm7.specs.declared.decode.Extension.{Extension}
use Rattle.gsm7.specs.Alphabet.{alphabet, extension, row_with, index_of}
use Rattle.gsm7.specs.Reading.{utf8}

-- an escape and the code of a row, if there is one
abbrev pub escape_and_code : Option Extension → Said (List ℕ)
escape_and_code none = Err NotInAlphabet
escape_and_code (some e) = Ok (0x1b ∷ e.code ∷ [])

-- the septets of a character that is not in the default alphabet
unfoldable pub extended_code : ℕ → Said (List ℕ)
extended_code c = escape_and_code (row_with (λ (e : Extension). e.character) c extension)

-- the septets of a character: its code, or an escape and its code; a space is 20, though 1B reads as one too
unfoldable pub code_of : ℕ → Said (List ℕ)
code_of c =
    if eqb c 0x20 then Ok (0x20 ∷ [])
    else if ltb (index_of alphabet c) 128 then Ok (index_of alphabet c ∷ [])
    else extended_code c

-- two lists are the same
unfoldable pub same : List ℕ → List ℕ → Bool
same [] [] = true
same [] (y ∷ ys) = false
same (x ∷ xs) [] = false
same (x ∷ xs) (y ∷ ys) = same xs ys && eqb x y

-- the character that two or three octets are, if they are its UTF-8, with their number
unfoldable pub two_octets : ℕ → ℕ → Said (ℕ × ℕ)
two_octets a b =
    let c = a % 32 * 64 + b % 64 in
    if same (utf8 c) (a ∷ b ∷ []) then Ok (c, 2) else Err NotInAlphabet

unfoldable pub three_octets : ℕ → ℕ → ℕ → Said (ℕ × ℕ)
three_octets a b d =
    let c = a % 16 * 4096 + b % 64 * 64 + d % 64 in
    if same (utf8 c) (a ∷ b ∷ d ∷ []) then Ok (c, 3) else Err NotInAlphabet

-- the first character of a text, with the number of its octets
unfoldable pub first_character : List ℕ → Said (ℕ × ℕ)
first_character xs =
    let a = get_or xs 0 0 in
    if ltb a 0x80 then Ok (a, 1)
    else if ltb a 0xe0 then two_octets a (get_or xs 1 0)
    else three_octets a (get_or xs 1 0) (get_or xs 2 0)

-- septets before others; nothing, where a character has none
unfoldable pub before : Said (List ℕ) → Option (List ℕ) → Option (List ℕ)
before (Ok ks) none = none
before (Ok ks) (some ss) = some (ks ++ ss)
before (Err why) rest = none

-- the septets of a text that starts with a character, by those of what follows its octets
unfoldable pub starting_with : Said (ℕ × ℕ) → (ℕ → Option (List ℕ)) → Option (List ℕ)
starting_with (Ok (c, width)) rest = before (code_of c) (rest (width - 1))
starting_with (Err why) rest = none

-- the septets of a text, once the octets of a character that is read already are skipped
unfoldable pub scan : List ℕ → ℕ → Option (List ℕ)
scan [] skip = some []
scan (x ∷ xs) zero = starting_with (first_character (x ∷ xs)) (λ skip. scan xs skip)
scan (x ∷ xs) (suc skip) = scan xs skip

-- the septets of a text; nothing, where it is not UTF-8 or a character is in neither table
abbrev pub septets_of : List ℕ → Option (List ℕ)
septets_of text = scan text 0

-- the euro sign; overlong "A", a cut character and ESC itself have no septets
known_septets : (septets_of (0xe2 ∷ 0x82 ∷ 0xac ∷ []) ≡ some (0x1b ∷ 0x65 ∷ [])) × (septets_of (0xc1 ∷ 0x81 ∷ []) ≡ none) × (septets_of (0xe2 ∷ 0x82 ∷ []) ≡ none)
    × (septets_of (0x1b ∷ []) ≡ none)
unfolding scan starting_with before first_character two_octets three_octets same utf8 code_of extended_code index_of row_with
known_septets = (refl, refl, refl, refl)
