-- The validity period (TS 23.040 §9.2.3.3, §9.2.3.12).
use Rattle.std.specs.Prelude.{ℕ, ◌≡◌, refl, Bool, true, List, [], ◌∷◌, eqb, if◌then◌else◌}
use Rattle.time.specs.Time.{is_time, time_octets}
use Rattle.layout.specs.Layout.{leading}
use Rattle.validity_period.specs.declared.ValidityPeriod.{ValidityPeriod}

-- the octets that TP-VPF calls for: 0 none, 2 one, 3 (a time) and 1 seven
unfoldable pub period_size : ℕ → ℕ
period_size vpf = if eqb vpf 0 then 0 else if eqb vpf 2 then 1 else 7

-- the period that they are
unfoldable pub period_in : ℕ → List ℕ → ValidityPeriod
period_in vpf vp = if eqb vpf 0 then ValidityPeriod.None else if eqb vpf 2 then ValidityPeriod.Relative (leading vp) else if eqb vpf 3 then ValidityPeriod.Absolute else ValidityPeriod.Enhanced

-- what stands beside it: the digits of a time, and the seven octets of the enhanced format
abbrev pub of_format : ℕ → ℕ → List ℕ → List ℕ
of_format format vpf vp = if eqb vpf format then vp else []

-- TP-VPF of a period
abbrev pub format_of : ValidityPeriod → ℕ
format_of ValidityPeriod.None = 0
format_of (ValidityPeriod.Relative x) = 2
format_of ValidityPeriod.Absolute = 3
format_of ValidityPeriod.Enhanced = 1

-- its octets, by the digits and the seven octets beside it
abbrev pub period_octets : ValidityPeriod → List ℕ → List ℕ → List ℕ
period_octets ValidityPeriod.None digits enhanced = []
period_octets (ValidityPeriod.Relative x) digits enhanced = x ∷ []
period_octets ValidityPeriod.Absolute digits enhanced = time_octets digits
period_octets ValidityPeriod.Enhanced digits enhanced = enhanced

abbrev pub is_absolute : ValidityPeriod → Bool
is_absolute vp = eqb (format_of vp) 3

-- the digits of a period are a time, if it is held as one
abbrev pub time_holds : ValidityPeriod → List ℕ → Bool
time_holds ValidityPeriod.None digits = true
time_holds (ValidityPeriod.Relative x) digits = true
time_holds ValidityPeriod.Absolute digits = is_time digits
time_holds ValidityPeriod.Enhanced digits = true

-- VPF 2 and one octet; 3 and a time; 1 and seven octets as they stand
known_periods : (period_in 2 (0xa7 ∷ []) ≡ ValidityPeriod.Relative 0xa7) × (period_in 3 [] ≡ ValidityPeriod.Absolute) × (period_in 1 [] ≡ ValidityPeriod.Enhanced) × (period_in 0 [] ≡ ValidityPeriod.None)
    × (period_size 0 ≡ 0) × (period_size 2 ≡ 1) × (period_size 3 ≡ 7) × (period_size 1 ≡ 7)
unfolding period_in period_size
known_periods = (refl, refl, refl, refl, refl, refl, refl, refl)
