-- A time from its calendar values and zone (TS 23.040 §9.2.3.11): two decimal digits each, and the sign of the zone in its first digit.
use Rattle.std.specs.Prelude.{ℕ, ◌+◌, ◌/◌, ◌%◌, ◌≡◌, refl, Bool, not, ◌&&◌, List, [], ◌∷◌, ◌++◌, leb, ltb, ℤ, pos, negsuc, nat_abs, if◌then◌else◌, Ok, Err}
use Rattle.std.specs.Int.Signed.{lt_z}
use Rattle.octets.specs.Answers.{Said}
use Rattle.octets.specs.Choice.{within, flag}
use Rattle.octets.specs.Texts.{codes}
use Rattle.octets.specs.declared.Refusal.TheVariants.{CalendarOutOfRange, ZoneOutOfRange}
use Rattle.time.specs.Time.{hex_digit}

-- year 0 to 99, month 1 to 12, day 1 to 31, hour 0 to 23, minute and second 0 to 59
unfoldable pub in_calendar : ℕ → ℕ → ℕ → ℕ → ℕ → ℕ → Bool
in_calendar year month day hour minute second = leb year 99 && within 1 12 month && within 1 31 day && leb hour 23 && leb minute 59 && leb second 59

-- two decimal digits
abbrev pub two_digits : ℕ → List ℕ
two_digits n = hex_digit (n / 10) ∷ hex_digit (n % 10) ∷ []

-- the sign of a zone, and its digits, in quarter hours: a negative one has 8 added to its tens digit
abbrev pub zone_sign : ℤ → ℕ
zone_sign zone = flag (lt_z zone (pos 0)) 8

abbrev pub zone_digits : ℤ → List ℕ
zone_digits zone = hex_digit (nat_abs zone / 10 + zone_sign zone) ∷ hex_digit (nat_abs zone % 10) ∷ []

-- refusal 20 where a calendar value is out of range, else 21 where the zone passes 79 either way, else the digits
unfoldable pub timestamp : ℕ → ℕ → ℕ → ℕ → ℕ → ℕ → ℤ → Said (List ℕ)
timestamp year month day hour minute second zone =
    if not (in_calendar year month day hour minute second) then Err CalendarOutOfRange
    else if ltb 79 (nat_abs zone) then Err ZoneOutOfRange
    else Ok (two_digits year ++ two_digits month ++ two_digits day ++ two_digits hour ++ two_digits minute ++ two_digits second ++ zone_digits zone)

known_zones : (zone_digits (negsuc 4) ≡ codes "85") × (zone_digits (pos 79) ≡ codes "79") × (zone_digits (negsuc 78) ≡ codes "F9")
unfolding codes hex_digit
known_zones = (refl, refl, refl)

known_timestamps : (timestamp 24 2 15 12 30 45 (pos 0) ≡ Ok (codes "24021512304500"))
    × (timestamp 24 2 0 12 30 45 (pos 80) ≡ Err CalendarOutOfRange) × (timestamp 24 2 15 12 30 45 (negsuc 79) ≡ Err ZoneOutOfRange)
unfolding codes hex_digit in_calendar timestamp
known_timestamps = (refl, refl, refl)
