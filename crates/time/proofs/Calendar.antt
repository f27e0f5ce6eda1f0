-- A time from its calendar values and zone: when it is refused, that it is a time otherwise, and that its digits are those of seven octets.
-- Assumes nothing.
use Rattle.std.specs.Prelude.{Ok, Err}
use Rattle.octets.specs.Answers.{Said}
use Rattle.std.specs.Prelude.{Err}
use Prim.Native.Nat.{ℕ, ◌+◌, ◌*◌, ◌/◌, ◌%◌, ◌≤◌}
use mathlib.Core.Path.{sym, subst, ◌≡◌, refl}
use mathlib.Core.Bool.{Bool, true, false}
use mathlib.Core.List.{List, [], ◌∷◌, ◌++◌}
use mathlib.Core.Logic.{◌↔◌}
use native.Mathlib.Omega.{arith}
use borrow.Author.Tests.{le-ltb, ltb-false}
use lib.Dec.{ltb}
use lib.IntN.{ℤ, pos, negsuc, nat_abs}
use Rattle.octets.specs.Each.{each}
use Rattle.octets.proofs.Choice.{leb_means, and_means, within_means}
use Rattle.time.proofs.Laws.{octet_digits, pair_hex}
use Rattle.time.specs.Internal.{decimal_octet}
use Rattle.time.specs.Time.{is_hex, time_digits, is_time}
use Rattle.octets.proofs.Checks.{never}
use Rattle.time.specs.Timestamp.{in_calendar, two_digits, zone_sign, timestamp}

two : (value : ℕ) → value ≤ 99 → (octets : List ℕ) → time_digits (decimal_octet value ∷ octets) ≡ two_digits value ++ time_digits octets
two value h octets = octet_digits (value / 10) (value % 10) octets (omega arith)

two_hex : (value : ℕ) → value ≤ 99 → (digits : List ℕ) → each is_hex (two_digits value ++ digits) ≡ each is_hex digits
two_hex value h = pair_hex (value / 10) (value % 10) (omega arith) (omega arith)

sign_small : (zone : ℤ) → zone_sign zone ≤ 8
sign_small (pos n) = rw (le-ltb n 0 (omega arith)) (omega arith)
sign_small (negsuc n) = omega arith

module _ (year month day hour minute second : ℕ) where
  -- the calendar's ranges
  pub calendar_means : (in_calendar year month day hour minute second ≡ true)
      ↔ ((((((year ≤ 99) × ((1 ≤ month) × (month ≤ 12))) × ((1 ≤ day) × (day ≤ 31))) × (hour ≤ 23)) × (minute ≤ 59)) × (second ≤ 59))
  unfolding in_calendar
  calendar_means =
      and_means _ _ (and_means _ _ (and_means _ _ (and_means _ _ (and_means _ _ (leb_means _ _) (within_means _ _ _)) (within_means _ _ _)) (leb_means _ _)) (leb_means _ _)) (leb_means _ _)

  -- the digits of a time that is not refused are those of these octets
  pub timestamp_octets : (zone : ℤ) → in_calendar year month day hour minute second ≡ true → nat_abs zone ≤ 79
      → timestamp year month day hour minute second zone
      ≡ Ok (time_digits (decimal_octet year ∷ decimal_octet month ∷ decimal_octet day ∷ decimal_octet hour ∷ decimal_octet minute ∷ decimal_octet second ∷ (decimal_octet (nat_abs zone) + zone_sign zone) ∷ []))
  unfolding timestamp time_digits
  timestamp_octets zone e z =
      let h = calendar_means.0 e in
      let q = nat_abs zone in
      let d : decimal_octet q + zone_sign zone ≡ (q / 10 + zone_sign zone) + 16 * (q % 10) = omega arith in
      let s = sign_small zone in
      rw (e, le-ltb 79 q z, two year (omega arith), two month (omega arith), two day (omega arith), two hour (omega arith), two minute (omega arith), two second (omega arith), d, octet_digits (q / 10 + zone_sign zone) (q % 10) [] (omega arith))

  module _ (zone : ℤ) where
    -- every calendar value and the zone are in their ranges, or there is a refusal
    pub done_means : ((digits : List ℕ) × (timestamp year month day hour minute second zone ≡ Ok digits)) ↔ ((in_calendar year month day hour minute second ≡ true) × (nat_abs zone ≤ 79))
    unfolding timestamp
    done_means = (by (in_calendar year month day hour minute second) (ltb 79 (nat_abs zone)) refl refl, λ h. (_, timestamp_octets zone h.0 h.1))
      where
        by : (a b : Bool) → in_calendar year month day hour minute second ≡ a → ltb 79 (nat_abs zone) ≡ b → ((digits : List ℕ) × (timestamp year month day hour minute second zone ≡ Ok digits))
            → (in_calendar year month day hour minute second ≡ true) × (nat_abs zone ≤ 79)
        by true false a b done = (a, ltb-false 79 (nat_abs zone) b)
        by true true a b done = absurd (never (sym (rw (a, b) at done.1)))
        by false b a e done = absurd (never (sym (rw a at done.1)))

    -- what is not refused is a time
    abbrev IsTime : Said (List ℕ) → Type 0
    IsTime (Ok digits) = is_time digits ≡ true
    IsTime (Err why) = Unit {0}

    pub timestamp_time : {digits : List ℕ} → timestamp year month day hour minute second zone ≡ Ok digits → is_time digits ≡ true
    unfolding timestamp is_time each
    timestamp_time e =
        let p = done_means.0 (_, e) in
        let h = calendar_means.0 p.0 in
        let s = sign_small zone in
        let q = nat_abs zone in
        let t : IsTime (timestamp year month day hour minute second zone) = rw (p.0, le-ltb 79 q p.1, two_hex year (omega arith), two_hex month (omega arith), two_hex day (omega arith), two_hex hour (omega arith), two_hex minute (omega arith), two_hex second (omega arith), pair_hex (q / 10 + zone_sign zone) (q % 10) (omega arith) (omega arith)) in
        subst IsTime e t
