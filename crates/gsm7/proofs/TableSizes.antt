-- How many octets a character of the two tables takes, by a test that antt computes over the whole tables; and what an escape counts.
-- Assumes nothing.
use Prim.Native.Nat.{ℕ, ◌<◌, ◌≤◌}
use mathlib.Core.Path.{◌≡◌, refl}
use mathlib.Core.Bool.{Bool, true, ◌&&◌}
use mathlib.Core.Option.{Option, none, some}
use native.Mathlib.Omega.{arith}
use borrow.Author.Tests.{leb-true}
use lib.Dec.{leb}
use lib.ListN.{length}
use Rattle.octets.proofs.Choice.{and_true}
use Rattle.octets.proofs.Table.{below}
use Rattle.gsm7.specs.declared.decode.Extension.{Extension}
use Rattle.gsm7.specs.Alphabet.{extension, row_with, character, escaped, one_without, replaced}
use Rattle.gsm7.specs.Reading.{utf8}

short_test : ℕ → Bool
short_test k = leb (length (utf8 (character k))) 2 && leb (length (utf8 (escaped k))) 3

module _ (k : ℕ) (h : k < 128) where
  shorts : (leb (length (utf8 (character k))) 2 ≡ true) × (leb (length (utf8 (escaped k))) 3 ≡ true)
  unfolding short_test utf8 escaped character row_with
  shorts = and_true _ _ (below short_test 128 refl k h)

  pub short : length (utf8 (character k)) ≤ 2
  short = leb-true _ _ shorts.0

  pub short_escaped : length (utf8 (escaped k)) ≤ 3
  short_escaped = leb-true _ _ shorts.1

-- an escape counts one at most
pub replaced_small : (code : ℕ) → replaced code ≤ 1
unfolding replaced
replaced_small code = by_row (row_with (λ (e : Extension). e.code) code extension)
  where
    by_row : (o : Option Extension) → one_without o ≤ 1
    by_row none = omega arith
    by_row (some e) = omega arith
