-- Every text that was read has septets; and those that were read, where none was replaced.
-- Assumes nothing.
use Prim.Native.Nat.{ℕ, ◌≤◌}
use mathlib.Core.Path.{◌≡◌, refl, sym, ap, ◌∙◌}
use mathlib.Core.List.{List}
use mathlib.Core.Option.{some}
use lib.ListN.{length}
use Rattle.septets.specs.Septets.{Digits}
use Rattle.gsm7.specs.Reading.{text_of, replaced_in}
use Rattle.gsm7.specs.Characters.{coded}
use Rattle.gsm7.proofs.DecodingLaws.{read_spelled, unreplaced_coded}
use Rattle.gsm7.specs.Writing.{septets_of}
use Rattle.gsm7.proofs.Adequate.{adequate, read_coded}

-- a text that was read can be written, in no more septets
pub read_writable : (ss : List ℕ) → Digits 7 ss → (ks : List ℕ) × (septets_of (text_of ss) ≡ some ks) × (length ks ≤ length ss)
read_writable ss d = let r = read_spelled ss d in (coded r.0, (adequate (text_of ss) (coded r.0)).1 (r.0, r.1, refl), r.2)

-- a text that was read with none replaced has the septets that it was read from
pub read_again : (ss : List ℕ) → Digits 7 ss → replaced_in ss ≡ 0 → septets_of (text_of ss) ≡ some ss
read_again ss d e = let w = unreplaced_coded ss d e in (adequate (text_of ss) ss).1 (w.0, sym (read_coded w.0) ∙ ap text_of w.1, w.1)
