-- User data among a writer's checks.
-- Assumes nothing.
use Prim.Native.Nat.{ℕ, ◌≤◌}
use native.Mathlib.Omega.{arith}
use mathlib.Core.Path.{◌≡◌, refl, ap, ◌∙◌}
use mathlib.Core.Bool.{Bool, true, false}
use mathlib.Core.List.{List, [], ◌∷◌, ◌++◌}
use borrow.Author.Tests.{eq-eqb, eqb-true, le-ltb, lt-ltb, leb-true, leb-false}
use lib.Dec.{eqb, leb, ltb}
use lib.ListN.{length as size}
use Rattle.octets.specs.Answers.{fine}
use Rattle.octets.specs.Checks.{Check, ◌unless◌, found, checked, after_checked}
use Rattle.std.specs.Prelude.{if◌then◌else◌}
use Rattle.octets.specs.Lent.{refused}
use Rattle.octets.specs.declared.Refusal.TheVariants.{UserDataLengthDisagrees, UserDataTooLong}
use Rattle.octets.proofs.Checks.{checked_then, holds}
use Rattle.coding.specs.declared.UserDataCoding.{UserDataCoding}
use Rattle.coding.specs.declared.UserDataCoding.TheVariants.{Gsm7Bit, EightBit, Ucs2, Compressed}
use Rattle.coding.specs.Coding.{coding_of, data_octets, data_within, checked_data, data_checks}

-- the number of octets of user data, as the calls tell it
pub size_told : {n : ℕ} (dcs udl : ℕ) {k : UserDataCoding} → n ≡ data_octets k udl → k ≡ coding_of dcs → n ≡ data_octets (coding_of dcs) udl
size_told dcs udl e c = e ∙ ap (λ (k : UserDataCoding). data_octets k udl) c

module _ (dcs udl n : ℕ) where
  -- the answer of `check_user_data` decides
  pub data_checked : (checks : List Check) (xs : List ℕ) → checked (data_checks dcs udl n ++ checks) xs ≡ after_checked (checked_data dcs udl n) (checked checks xs)
  unfolding checked_data
  data_checked checks xs = checked_then xs (data_checks dcs udl n) checks

  -- data that pass within a limit have the number that UDL and DCS give, and keep within it
  pub within_passed : (limit : ℕ) → found (data_within limit dcs udl n) ≡ fine → (n ≡ data_octets (coding_of dcs) udl) × (n ≤ limit)
  within_passed limit e =
      let (size, f) = holds UserDataLengthDisagrees (eqb n (data_octets (coding_of dcs) udl)) ((UserDataTooLong unless leb n limit) ∷ []) e in
      (eqb-true _ _ size, leb-true _ _ (holds UserDataTooLong (leb n limit) [] f).0)

  pub data_passed : checked_data dcs udl n ≡ fine → (n ≡ data_octets (coding_of dcs) udl) × (n ≤ 140)
  unfolding checked_data
  data_passed e = within_passed 140 e

-- no more octets than UDL counts
pub data_at_most : (coding : UserDataCoding) (udl : ℕ) → data_octets coding udl ≤ udl
unfolding data_octets
data_at_most Gsm7Bit udl = omega arith
data_at_most EightBit udl = omega arith
data_at_most Ucs2 udl = omega arith
data_at_most Compressed udl = omega arith

-- data that were read have the number that UDL and DCS give, so that the limit alone decides
pub data_limit : (dcs udl n : ℕ) → data_octets (coding_of dcs) udl ≡ n → (checks : List Check) (xs : List ℕ) → checked (data_checks dcs udl n ++ checks) xs ≡ (if ltb 140 n then refused UserDataTooLong else checked checks xs)
unfolding checked
data_limit dcs udl n e checks xs = rw (e, eq-eqb n n refl) (by (leb n 140) refl)
  where
    by : (b : Bool) → leb n 140 ≡ b → (if leb n 140 then checked checks xs else refused UserDataTooLong) ≡ (if ltb 140 n then refused UserDataTooLong else checked checks xs)
    by true h = rw (h, le-ltb 140 n (leb-true _ _ h))
    by false h = rw (h, lt-ltb 140 n (leb-false _ _ h))
