-- What the writer of a report makes, check by check.
-- Assumes nothing.
use Rattle.std.specs.Prelude.{Err, Some, None, Option, is_some, option_copied}
use Rattle.std.proofs.Common.{Bor}
use Prim.Native.Nat.{ℕ, ◌+◌, ◌≤◌}
use mathlib.Core.Path.{◌≡◌, refl, ◌∙◌}
use mathlib.Core.Bool.{Bool, true, false}
use mathlib.Core.List.{List, [], ◌∷◌, ◌++◌}
use native.Mathlib.Omega.{arith}
use lib.ListN.{length, length-append}
use Rattle.octets.specs.Answers.{fine}
use Rattle.octets.specs.Checks.{Check, ◌unless◌, found}
use Rattle.octets.specs.Lent.{Making, refused, made}
use Rattle.octets.specs.declared.Refusal.{Refusal}
use Rattle.octets.specs.declared.Refusal.TheVariants.{NotATime}
use Rattle.octets.proofs.Checks.{passed, against, all_passed, one_against}
use Rattle.time.proofs.Laws.{time_size as time_long}
use Rattle.layout.specs.Layout.{first_octet}
use Rattle.parameters.specs.Checking.{indicator_checks, data_within}
use Rattle.parameters.specs.Optional.{held}
use Rattle.parameters.proofs.Laws.{one_at_most}
use Rattle.report.specs.Report.{time_size, octets_of}
use Rattle.report.specs.declared.writing.ReportValues.{ReportValues}
use Rattle.report.specs.Internal.{time_if, time_holds, fields_with, making}

-- the octets of a time that is written or not
pub timed_size : (digits : Option (Bor (List ℕ))) → time_holds (option_copied digits) ≡ true → length (time_if (option_copied digits)) ≡ time_size (is_some digits)
timed_size None e = refl
timed_size (Some digits) e = time_long digits.now e

-- a report's only flag
pub only_udhi : (mti : ℕ) (udhi : Bool) → first_octet mti ((7, false) ∷ (6, udhi) ∷ (5, false) ∷ (4, false) ∷ (3, false) ∷ (2, false) ∷ []) ≡ first_octet mti ((6, udhi) ∷ [])
unfolding first_octet
only_udhi mti udhi = omega arith

-- time and parameters without the user data are few octets
pub size_small : (hasTime : Bool) (pid dcs udl : Option ℕ) → time_size hasTime + (held pid + held dcs + held udl) ≤ 10
size_small true pid dcs udl = omega (arith, one_at_most pid, one_at_most dcs, one_at_most udl)
size_small false pid dcs udl = omega (arith, one_at_most pid, one_at_most dcs, one_at_most udl)

module _ (v : ReportValues) (digits : Option (List ℕ)) (ud : List ℕ) where
  abbrev octets : List ℕ
  octets = octets_of v.mti (fields_with v digits ud)

  pub size_is : length octets ≡ 2 + held v.cause + (length (time_if digits) + (held v.parameters.pid + held v.parameters.dcs + held v.parameters.udl + length ud))
  size_is = simp length-append (omega arith)

  module _ (limit : ℕ) where
    abbrev all : Making ℕ
    all = making limit v digits ud

    -- the indicator's checks, the user data's, and the order of all
    abbrev first : List Check
    first = indicator_checks v.indicator v.parameters.pid v.parameters.dcs v.parameters.udl

    abbrev last : List Check
    last = data_within limit v.parameters.dcs v.parameters.udl (length ud)

    abbrev timed : List Check
    timed = (NotATime unless time_holds digits) ∷ last

    against_one : {why : Refusal} → found (first ++ timed) ≡ Err why → all ≡ refused why
    unfolding making
    against_one e = one_against octets (first ++ timed) e

    pub indicator_against : {why : Refusal} → found first ≡ Err why → all ≡ refused why
    indicator_against e = against_one (against timed first e)

    module _ (i : found first ≡ fine) where
      pub no_time : time_holds digits ≡ false → all ≡ refused NotATime
      no_time e = against_one (passed timed first i ∙ rw e)

      module _ (t : time_holds digits ≡ true) where
        by_data : found (first ++ timed) ≡ found last
        by_data = passed timed first i ∙ rw t

        pub data_against : {why : Refusal} → found last ≡ Err why → all ≡ refused why
        data_against e = against_one (by_data ∙ e)

        pub all_made : found last ≡ fine → all ≡ made octets (length octets)
        unfolding making
        all_made d = all_passed octets (first ++ timed) (by_data ∙ d)
