-- One more line in a loop, and none at the end; how long they are.
-- Assumes nothing.
use Prim.Native.Nat.{ℕ, ◌+◌, ◌<◌, ◌≤◌}
use mathlib.Core.Path.{◌≡◌, refl}
use mathlib.Core.List.{List, [], ◌++◌}
use native.Mathlib.Numerals.{add-one}
use lib.ListN.{length, get_or, drop, drop_of_length-le}
use lib.Seq.{drop-cons}
use Rattle.octets.specs.Texts.{codes}
use Rattle.gsm7.specs.declared.decode.Extension.{Extension}
use Rattle.gsm7.specs.Alphabet.{alphabet, row}
use Rattle.alphabet_table.specs.AlphabetLines.{line_of, septet_lines, escape_lines, alphabet_lines}

pub length_line : (code shown : ℕ) → length (line_of code shown) ≡ 8
unfolding line_of
length_line code shown = refl

pub length_septets : length (septet_lines 0 alphabet) ≡ 1024
unfolding septet_lines line_of
length_septets = refl

pub length_all : length alphabet_lines ≡ 1124
unfolding alphabet_lines septet_lines escape_lines line_of codes
length_all = refl

module _ (i : ℕ) where
  pub septets_next : (t : List ℕ) → i < length t → septet_lines i (drop i t) ≡ line_of i (get_or t i 0) ++ septet_lines (i + 1) (drop (i + 1) t)
  unfolding septet_lines
  septets_next t h = rw (add-one, drop-cons t i 0 h)

  pub septets_end : (t : List ℕ) → length t ≤ i → septet_lines i (drop i t) ≡ []
  unfolding septet_lines
  septets_end t h = rw (drop_of_length-le t h)

  pub escapes_next : (es : List Extension) {e : Extension} → i < length es → e ≡ get_or es i (row 0 0)
      → escape_lines (drop i es) ≡ (codes "1B" ++ line_of e.code e.character) ++ escape_lines (drop (i + 1) es)
  unfolding escape_lines codes
  escapes_next es h at = rw (add-one, drop-cons es i (row 0 0) h, ← at)

  pub escapes_end : (es : List Extension) → length es ≤ i → escape_lines (drop i es) ≡ []
  unfolding escape_lines
  escapes_end es h = rw (drop_of_length-le es h)
