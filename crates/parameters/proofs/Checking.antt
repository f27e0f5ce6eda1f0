-- What the checks of indicator and parameters find.
-- Assumes nothing.
use Prim.Native.Nat.{ℕ, ◌≤◌}
use mathlib.Core.Path.{◌≡◌, refl, ◌∙◌}
use mathlib.Core.Bool.{Bool, true, false, not, ◌||◌}
use mathlib.Core.List.{List, [], ◌++◌}
use native.Mathlib.Omega.{arith}
use borrow.Author.Tests.{eq-eqb, eqb-true, leb-true, leb-false, le-leb, le-ltb, lt-ltb}
use lib.Dec.{eqb, leb, ltb}
use lib.ListN.{length}
use Rattle.octets.specs.Answers.{Said, fine}
use Rattle.std.specs.Prelude.{if◌then◌else◌, Err, Some, None, Option}
use Rattle.octets.specs.Checks.{Check, checked, found}
use Rattle.octets.specs.declared.Refusal.TheVariants.{IndicatorExtended, UserDataTooLong, UserDataWithoutLength}
use Rattle.octets.proofs.Checks.{passed, against, all_passed, one_against, holds}
use Rattle.coding.proofs.Laws.{within_passed}
use Rattle.layout.specs.Layout.{is_set}
use Rattle.layout.proofs.Demand.{Answers}
use Rattle.parameters.specs.Optional.{or_zero}
use Rattle.parameters.specs.Parameters.{Parameters}
use Rattle.parameters.proofs.Agreeing.{data_count, Agreeing}
use Rattle.parameters.specs.Checking.{indicator_checks, data_within}

-- past the limit they are refused
abbrev limited : ℕ → ℕ → Said Unit
limited limit n = if leb n limit then fine else Err UserDataTooLong

data_found : (limit : ℕ) (dcs udl : Option ℕ) {n : ℕ} → n ≡ data_count dcs udl → found (data_within limit dcs udl n) ≡ limited limit n
unfolding data_within
data_found limit dcs None e = rw (e, le-leb 0 limit (omega arith))
data_found limit dcs (Some udl) {n} e = rw (eq-eqb n _ e)

-- data that pass keep within the limit, and have the number that DCS and UDL give
pub data_few : (limit : ℕ) (dcs udl : Option ℕ) (n : ℕ) → found (data_within limit dcs udl n) ≡ fine → (n ≡ data_count dcs udl) × (n ≤ limit)
unfolding data_within
data_few limit dcs None n e = let none = eqb-true n 0 (holds UserDataWithoutLength (eqb n 0) [] e).0 in (none, omega arith)
data_few limit dcs (Some udl) n e = within_passed (or_zero dcs) udl n limit e

-- so they pass within every limit that they keep within
pub data_moves : (limit other : ℕ) (dcs udl : Option ℕ) (n : ℕ) → found (data_within limit dcs udl n) ≡ fine → n ≤ other → found (data_within other dcs udl n) ≡ fine
data_moves limit other dcs udl n e h = data_found other dcs udl (data_few limit dcs udl n e).0 ∙ rw (le-leb n other h)

-- ---- parameters that go with their indicator pass the checks, but for bit 7 and more than 140 octets

module _ {pi : ℕ} {p : Parameters} (h : Agreeing pi p) where
  indicator_found : found (indicator_checks pi p.pid p.dcs p.udl) ≡ (if is_set 7 pi then Err IndicatorExtended else fine)
  unfolding indicator_checks
  indicator_found = rw (eq-eqb _ _ h.bits) (by (is_set 7 pi))
    where
      by : (b : Bool) → (if not b then fine else Err IndicatorExtended) ≡ (if b then Err IndicatorExtended else fine)
      by true = refl
      by false = refl

  pub answers : {past : Bool} → past ≡ ltb 140 (length p.ud) → (octets : List ℕ)
      → Answers (checked (indicator_checks pi p.pid p.dcs p.udl ++ data_within 140 p.dcs p.udl (length p.ud)) octets) octets (is_set 7 pi || past)
  answers limit octets = rw limit (by (is_set 7 pi) indicator_found (leb (length p.ud) 140) refl)
    where
      first : List Check
      first = indicator_checks pi p.pid p.dcs p.udl

      more : List Check
      more = data_within 140 p.dcs p.udl (length p.ud)

      by : (b : Bool) → found first ≡ (if b then Err IndicatorExtended else fine) → (t : Bool) → leb (length p.ud) 140 ≡ t
          → Answers (checked (first ++ more) octets) octets (b || ltb 140 (length p.ud))
      by true e t d = (IndicatorExtended, one_against octets (first ++ more) (against more first e))
      by false e true d = rw (le-ltb 140 (length p.ud) (leb-true _ _ d)) (all_passed octets (first ++ more) (passed more first e ∙ data_found 140 _ _ h.counted ∙ rw d))
      by false e false d = rw (lt-ltb 140 (length p.ud) (leb-false _ _ d)) (UserDataTooLong, one_against octets (first ++ more) (passed more first e ∙ data_found 140 _ _ h.counted ∙ rw d))
