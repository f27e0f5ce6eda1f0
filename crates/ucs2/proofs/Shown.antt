-- The characters that septets show: those of the text reader; and their septets, which are those read with each replaced escape as the character shown.
-- Assumes nothing.
use Prim.Native.Nat.{ℕ, suc, ◌<◌, ◌≤◌}
use mathlib.Core.Path.{◌≡◌, refl, sym, ◌∙◌, ap}
use mathlib.Core.Bool.{Bool, true, false}
use mathlib.Core.List.{List, [], ◌∷◌, ◌++◌, append-nil}
use mathlib.Core.Option.{Option, none, some}
use mathlib.Core.Logic.{◌↔◌}
use native.Mathlib.Omega.{arith}
use borrow.Author.Tests.{eqb-true, eqb-false, ne_eqb}
use lib.Dec.{eqb}
use lib.ListN.{length, length-append}
use Rattle.std.specs.Prelude.{if◌then◌else◌, Ok}
use Rattle.septets.specs.Septets.{Digits}
use Rattle.gsm7.specs.declared.decode.Extension.{Extension}
use Rattle.gsm7.specs.Alphabet.{extension, row_with, character, character_or, escaped}
use Rattle.gsm7.specs.Reading.{utf8, text_of, after_escape as textAfterEscape, replaced_in}
use Rattle.gsm7.specs.Writing.{code_of, before}
use Rattle.gsm7.proofs.Rows.{Stands, row_stands}
use Rattle.gsm7.proofs.Adequate.{none_replaced}
use Rattle.gsm7.proofs.DecodingLaws.{unreplaced_coded}
use Rattle.gsm7.proofs.Tables.{alphabet_one_to_one, extension_coded}
use Rattle.ucs2.specs.Ucs2.{utf8_of, codes_of, characters_of, after_escape}
use Rattle.ucs2.specs.Shown.{standing, as_shown, escape_as_shown}
use Rattle.ucs2.proofs.Characters.{adequate, entries_shown}

-- what holds of no septets and of a last escape, and of more septets by a plain one or by an escape and its code, holds of all
module _ (P : List ℕ → Type 0) (nothing : P []) (last : P (0x1b ∷ [])) (plain : (s : ℕ) (ss : List ℕ) → (s ≡ 0x1b → ⊥) → P ss → P (s ∷ ss))
    (escape : (t : ℕ) (ss : List ℕ) → P ss → P (0x1b ∷ t ∷ ss)) where
  also_escaped : (ss : List ℕ) → P ss × P (0x1b ∷ ss)
  also_escaped [] = (nothing, last)
  also_escaped (s ∷ ss) = (by_test (eqb s 0x1b) refl (also_escaped ss), escape s ss (also_escaped ss).0)
    where
      by_test : (b : Bool) → eqb s 0x1b ≡ b → P ss × P (0x1b ∷ ss) → P (s ∷ ss)
      by_test true e r = rw (eqb-true s 0x1b e) r.1
      by_test false e r = plain s ss (eqb-false s 0x1b e) r.0

  by_shown : (ss : List ℕ) → P ss
  by_shown ss = (also_escaped ss).0

-- ---- the characters shown are those of the text that the text reader gives

pub characters_shown : (ss : List ℕ) → text_of ss ≡ utf8_of (characters_of ss)
unfolding text_of textAfterEscape characters_of after_escape utf8_of
characters_shown =
    by_shown (λ ss. text_of ss ≡ utf8_of (characters_of ss)) refl (sym (append-nil (utf8 0x20))) (λ s ss n r. rw (ne_eqb s 0x1b n, r)) (λ t ss r. rw r)

-- ---- they have septets: those read, with each replaced escape as the character shown

code_space : code_of 0x20 ≡ Ok (0x20 ∷ [])
unfolding code_of
code_space = refl

-- of a code that follows an escape and is not in the extension table
code_alone : (t : ℕ) → t < 128 → code_of (character t) ≡ Ok ((if eqb t 0x1b then 0x20 else t) ∷ [])
unfolding character
code_alone t h = by_test (eqb t 0x1b) refl
  where
    by_test : (b : Bool) → eqb t 0x1b ≡ b → code_of (character t) ≡ Ok ((if b then 0x20 else t) ∷ [])
    by_test true e = ap (λ (k : ℕ). code_of (character k)) (eqb-true t 0x1b e) ∙ code_space
    by_test false e = alphabet_one_to_one t h (eqb-false t 0x1b e)

-- a character before others, and the septets that it comes back as
standing_before : (t : ℕ) → t < 128 → (ss : List ℕ) → before (code_of (escaped t)) (some ss) ≡ some (standing t (row_with (λ (e : Extension). e.code) t extension) ++ ss)
unfolding escaped before
standing_before t h ss = by_row (row_with (λ (e : Extension). e.code) t extension) (row_stands (λ (e : Extension). e.code) t extension)
  where
    by_row : (o : Option Extension) → Stands (λ (e : Extension). e.code) t extension o → before (code_of (character_or (character t) o)) (some ss) ≡ some (standing t o ++ ss)
    by_row none s = rw (code_alone t h)
    by_row (some e) s = rw (ap (λ (x : Extension). code_of x.character) (sym s.2) ∙ extension_coded s.0 s.1 ∙ ap (λ (x : Extension). Ok (0x1b ∷ x.code ∷ [])) s.2, s.3)

pub shown_codes : (ss : List ℕ) → Digits 7 ss → codes_of (characters_of ss) ≡ some (as_shown ss)
unfolding codes_of characters_of after_escape as_shown escape_as_shown before
shown_codes =
    by_shown (λ ss. Digits 7 ss → codes_of (characters_of ss) ≡ some (as_shown ss)) (λ d. refl) (λ d. rw code_space)
    (λ s ss n r d. rw (ne_eqb s 0x1b n, r (λ i. d (suc i)), alphabet_one_to_one s (d 0) n))
    (λ t ss r d. rw (r (λ i. d (suc (suc i)))) (standing_before t (d 1) (as_shown ss)))

-- no more characters than septets that come back, and no more of these than were read
standing_short : (t : ℕ) (o : Option Extension) → (1 ≤ length (standing t o)) × (length (standing t o) ≤ 2)
standing_short t none = omega arith
standing_short t (some e) = omega arith

fewer : (ss : List ℕ) → (length (characters_of ss) ≤ length (as_shown ss)) × (length (as_shown ss) ≤ length ss)
unfolding characters_of after_escape as_shown escape_as_shown
fewer =
    by_shown (λ ss. (length (characters_of ss) ≤ length (as_shown ss)) × (length (as_shown ss) ≤ length ss)) (omega arith) (omega arith)
    (λ s ss n r. rw (ne_eqb s 0x1b n) (omega arith))
    (λ t ss r. rw length-append (omega (arith, standing_short t (row_with (λ (e : Extension). e.code) t extension))))

pub shown_fewer : (ss : List ℕ) → length (as_shown ss) ≤ length ss
shown_fewer ss = (fewer ss).1

pub characters_fewer : (ss : List ℕ) → length (characters_of ss) ≤ length ss
characters_fewer ss = omega (arith, fewer ss)

-- none is replaced exactly when they come back unchanged
pub unchanged : (ss : List ℕ) → Digits 7 ss → (replaced_in ss ≡ 0) ↔ (as_shown ss ≡ ss)
unchanged ss d = (as_read, counted)
  where
    as_read : replaced_in ss ≡ 0 → as_shown ss ≡ ss
    as_read e =
        let w = unreplaced_coded ss d e in
        let q = sym (shown_codes ss d) ∙ (adequate (characters_of ss) ss).1 (w.0, sym (entries_shown w.0) ∙ ap characters_of w.1, w.1) in
        cc

    counted : as_shown ss ≡ ss → replaced_in ss ≡ 0
    counted e = let w = (adequate (characters_of ss) ss).0 (shown_codes ss d ∙ ap some e) in ap replaced_in (sym w.2) ∙ none_replaced w.0
