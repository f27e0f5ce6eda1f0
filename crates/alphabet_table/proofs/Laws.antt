-- What the lines show: line by line the tables' characters, as the text readers give them; each character stands for one code only, the space of 1B apart; the codes rise.
-- Assumes nothing.
use Rattle.std.specs.Prelude.{Ok, Err}
use Prim.Native.Nat.{ℕ, suc, ◌+◌, ◌*◌, ◌<◌}
use mathlib.Core.Path.{◌≡◌, refl, sym, ap, ◌∙◌}
use mathlib.Core.List.{List, [], ◌∷◌, ◌++◌}
use borrow.Author.Tests.{ltb-true}
use lib.Dec.{ltb}
use lib.ListN.{get_or, take, drop}
use Rattle.octets.specs.Answers.{Said}
use Rattle.octets.specs.Texts.{codes}
use Rattle.octets.proofs.Table.{below}
use Rattle.time.specs.Time.{hex_digit}
use Rattle.gsm7.specs.declared.decode.Extension.{Extension}
use Rattle.gsm7.specs.Alphabet.{extension, row, row_with, character, escaped}
use Rattle.gsm7.specs.Characters.{Entry, plain, extended, septets_for}
use Rattle.gsm7.specs.Reading.{utf8, text_of, after_escape}
use Rattle.gsm7.specs.Writing.{same, code_of}
use Rattle.gsm7.proofs.Tables.{same_is, alphabet_one_to_one, extension_coded}
use Rattle.alphabet_table.specs.AlphabetLines.{line_of, septet_lines, escape_lines, alphabet_lines, shown_for}

-- ---- each character stands for one code only

coded : (e : Entry) → code_of (shown_for e) ≡ Ok (septets_for e)
coded (plain code h n) = alphabet_one_to_one code h n
coded (extended place h) = extension_coded place h

abbrev septets : Said (List ℕ) → List ℕ
septets (Ok ks) = ks
septets (Err why) = []

-- of both tables together: entries that show one character have one code
pub one_code : (e f : Entry) → shown_for e ≡ shown_for f → septets_for e ≡ septets_for f
one_code e f alike = ap septets (sym (coded e) ∙ ap code_of alike ∙ coded f)

-- no entry is 1B, which shows the space of 20
pub escape_shows : character 0x1b ≡ character 0x20
unfolding character
escape_shows = refl

-- ---- the lines one by one

module _ (septet : ℕ) (h : septet < 128) where
  -- where the line of a septet stands, and what it shows
  pub septet_line : take 8 (drop (8 * septet) alphabet_lines) ≡ line_of septet (character septet)
  unfolding alphabet_lines septet_lines escape_lines line_of hex_digit codes character same
  septet_line = same_is _ _ (below (λ k. same (take 8 (drop (8 * k) alphabet_lines)) (line_of k (character k))) 128 refl septet h)

  -- it is what the text readers give for the septet alone
  pub septet_read : text_of (septet ∷ []) ≡ utf8 (character septet)
  unfolding text_of after_escape utf8 character same
  septet_read = same_is _ _ (below (λ k. same (text_of (k ∷ [])) (utf8 (character k))) 128 refl septet h)

abbrev at : ℕ → Extension
at place = get_or extension place (row 0 0)

module _ (place : ℕ) (h : place < 10) where
  -- the same of a row of the extension table
  pub escape_line : take 10 (drop (1024 + 10 * place) alphabet_lines) ≡ codes "1B" ++ line_of (at place).code (at place).character
  unfolding alphabet_lines septet_lines escape_lines line_of hex_digit codes same
  escape_line = same_is _ _ (below (λ k. same (take 10 (drop (1024 + 10 * k) alphabet_lines)) (codes "1B" ++ line_of (at k).code (at k).character)) 10 refl place h)

  pub escape_read : text_of (0x1b ∷ (at place).code ∷ []) ≡ utf8 (at place).character
  unfolding text_of after_escape utf8 character escaped row_with same
  escape_read = same_is _ _ (below (λ k. same (text_of (0x1b ∷ (at k).code ∷ [])) (utf8 (at k).character)) 10 refl place h)

-- the extension table's lines come by rising code
pub rising : (place : ℕ) → place < 9 → (at place).code < (at (suc place)).code
rising place h = ltb-true _ _ (below (λ k. ltb (at k).code (at (suc k)).code) 9 refl place h)
