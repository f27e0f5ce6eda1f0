-- The alphabet printed (change request 14): a line for each septet, then one for each code that follows an escape (TS 23.038 §6.2.1, §6.2.1.1).
use Rattle.std.specs.Prelude.{ℕ, suc, ◌/◌, ◌%◌, ◌≡◌, refl, List, [], ◌∷◌, ◌++◌, length, get_or, take, drop}
use Prim.Native.Char.{code as ascii}
use Rattle.octets.specs.Texts.{codes}
use Rattle.time.specs.Time.{hex_digit}
use Rattle.gsm7.specs.declared.decode.Extension.{Extension}
use Rattle.gsm7.specs.Alphabet.{alphabet, extension, row, character}
use Rattle.gsm7.specs.Characters.{Entry, plain, extended}

-- a line: two capital hexadecimal digits for the code, a space, four for the character, a line feed
unfoldable pub line_of : ℕ → ℕ → List ℕ
line_of code shown =
    hex_digit (code / 16) ∷ hex_digit (code % 16) ∷ ascii " "
    ∷ hex_digit (shown / 4096) ∷ hex_digit (shown / 256 % 16) ∷ hex_digit (shown / 16 % 16) ∷ hex_digit (shown % 16) ∷ 0x0a ∷ []

-- the lines of characters whose septets count up from the given one
unfoldable pub septet_lines : ℕ → List ℕ → List ℕ
septet_lines septet [] = []
septet_lines septet (shown ∷ more) = line_of septet shown ++ septet_lines (suc septet) more

-- the lines of rows of the extension table: 1B straight before the code
unfoldable pub escape_lines : List Extension → List ℕ
escape_lines [] = []
escape_lines (e ∷ es) = codes "1B" ++ (line_of e.code e.character ++ escape_lines es)

-- all lines, of the tables that the text readers use
unfoldable pub alphabet_lines : List ℕ
alphabet_lines = septet_lines 0 alphabet ++ escape_lines extension

-- the first line is 00 0040, the escape's 1B 0020, the last, the euro's, 1B65 20AC; 1,124 octets
known_lines : (take 8 alphabet_lines ≡ codes "00 0040" ++ (0x0a ∷ [])) × (take 8 (drop 216 alphabet_lines) ≡ codes "1B 0020" ++ (0x0a ∷ []))
    × (drop 1114 alphabet_lines ≡ codes "1B65 20AC" ++ (0x0a ∷ [])) × (length alphabet_lines ≡ 1124)
unfolding alphabet_lines septet_lines escape_lines line_of hex_digit codes
known_lines = (refl, refl, refl, refl)

-- the character that the line of an entry shows: of a septet but 1B, or of a row of the extension table
abbrev pub shown_for : Entry → ℕ
shown_for (plain code h n) = character code
shown_for (extended place h) = (get_or extension place (row 0 0)).character
