-- A search of the extension table from the front, by either column; and the places of what is found.
-- Assumes nothing.
use Prim.Native.Nat.{ℕ, zero, suc, ◌+◌, ◌<◌, ◌≤◌}
use mathlib.Core.Path.{◌≡◌, refl, sym, ◌∙◌}
use mathlib.Core.Bool.{Bool, true, false}
use mathlib.Core.List.{List, [], ◌∷◌}
use mathlib.Core.Option.{Option, none, some}
use native.Mathlib.Omega.{arith}
use native.Mathlib.Nat.{le_of_suc-le-suc, not-suc-le-zero}
use native.Mathlib.Numerals.{add-one}
use borrow.Author.Tests.{eq-eqb, ne_eqb, eqb-true}
use lib.Dec.{eqb}
use lib.ListN.{length, get_or, drop, drop_of_length-le}
use lib.Seq.{drop-cons}
use denote.Ref.{Bor}
use Rattle.std.specs.Prelude.{if◌then◌else◌, None, Some, MatchOption, Option as Maybe}
use Rattle.std.specs.List.{AllWithin, HoldsAt}
use Rattle.gsm7.specs.declared.decode.Extension.{Extension}
use Rattle.gsm7.specs.Alphabet.{row, row_with, index_of}

-- what a search for a row gives
abbrev pub seen : Maybe (Bor Extension) → Option Extension
seen None = none
seen (Some e) = some e.now

module _ (column : Extension → ℕ) (x : ℕ) where
  -- what is found from place i on
  module _ (es : List Extension) (i : ℕ) where
    module _ (h : i < length es) {e : Extension} (at : e ≡ get_or es i (row 0 0)) where
      pub row_here : column e ≡ x → row_with column x (drop i es) ≡ some e
      unfolding row_with
      row_here p = rw (drop-cons es i (row 0 0) h, ← at, eq-eqb (column e) x p)

      pub row_next : (column e ≡ x → ⊥) → row_with column x (drop i es) ≡ row_with column x (drop (i + 1) es)
      unfolding row_with
      row_next p = rw (add-one, drop-cons es i (row 0 0) h, ← at, ne_eqb (column e) x p)

    pub row_end : length es ≤ i → row_with column x (drop i es) ≡ none
    unfolding row_with
    row_end h = rw (drop_of_length-le es h)

  abbrev pub Other : Extension → Type 0
  Other e = column e ≡ x → ⊥

  row_from : (es : List Extension) (i : ℕ) → i ≤ length es → AllWithin Other es 0 i → row_with column x es ≡ row_with column x (drop i es)
  row_from es zero h others = refl
  row_from es (suc i) h others =
      row_from es i (omega arith) (λ k d l m. others k d l (omega arith))
      ∙ rw (← add-one) (row_next es i h refl (others i (row 0 0) (omega arith) (omega arith)))

  pub row_found : (es : List Extension) (r : Maybe (Bor Extension))
      → MatchOption r (AllWithin Other es 0 (length es)) (λ e. (column e.now ≡ x) × (i : ℕ) × (i < length es) × HoldsAt (λ y. y ≡ e.now) es i × AllWithin Other es 0 i)
      → row_with column x es ≡ seen r
  row_found es None others = row_from es (length es) (omega arith) others ∙ row_end es (length es) (omega arith)
  row_found es (Some e) h = row_from es h.1 (omega (arith, h.2)) h.4 ∙ row_here es h.1 h.2 (sym (h.3 (row 0 0))) h.0

  -- a row that is found stands in the table, with x in the column
  abbrev pub Stands : List Extension → Option Extension → Type 0
  Stands es none = Unit
  Stands es (some e) = (i : ℕ) × (i < length es) × (get_or es i (row 0 0) ≡ e) × (column e ≡ x)

  later : (e : Extension) (es : List Extension) (o : Option Extension) → Stands es o → Stands (e ∷ es) o
  later e es none s = tt
  later e es (some f) s = (suc s.0, omega arith, s.2, s.3)

  pub row_stands : (es : List Extension) → Stands es (row_with column x es)
  unfolding row_with
  row_stands [] = tt
  row_stands (e ∷ es) = by_test (eqb (column e) x) refl (row_stands es)
    where
      by_test : (t : Bool) → eqb (column e) x ≡ t → Stands es (row_with column x es) → Stands (e ∷ es) (if t then some e else row_with column x es)
      by_test true p s = (0, omega arith, refl, eqb-true _ _ p)
      by_test false p s = later e es (row_with column x es) s

-- a character that is found in the alphabet stands there
pub index_found : (t : List ℕ) (x : ℕ) → index_of t x < length t → get_or t (index_of t x) 0 ≡ x
unfolding index_of
index_found [] x h = absurd (not-suc-le-zero h)
index_found (y ∷ ys) x h = by_test (eqb y x) refl (index_found ys x)
  where
    by_test : (b : Bool) → eqb y x ≡ b → (index_of ys x < length ys → get_or ys (index_of ys x) 0 ≡ x)
        → get_or (y ∷ ys) (if eqb y x then zero else suc (index_of ys x)) 0 ≡ x
    by_test true e found = rw e (eqb-true y x e)
    by_test false e found = rw e (found (le_of_suc-le-suc (rw e at h)))
