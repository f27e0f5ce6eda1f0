-- A validity period by its format.
-- Assumes nothing.
use Prim.Native.Nat.{ℕ, zero, suc, ◌≤◌, ◌<◌}
use mathlib.Core.Path.{◌≡◌, refl, sym, ◌∙◌}
use mathlib.Core.Bool.{true}
use mathlib.Core.List.{List, [], ◌∷◌}
use native.Mathlib.Omega.{arith}
use lib.Dec.{eqb}
use lib.ListN.{length, take}
use Rattle.octets.specs.Arrays.{pad}
use Rattle.std.specs.Prelude.{if◌then◌else◌}
use Rattle.octets.specs.Each.{Octets}
use Rattle.octets.proofs.Laws.{take_pad, pad_full}
use Rattle.time.specs.Time.{time_in, time_digits}
use Rattle.time.proofs.Laws.{length_octets, length_digits, time_means, octets_back, digits_time}
use Rattle.validity_period.specs.declared.ValidityPeriod.{ValidityPeriod}
use Rattle.octets.specs.Choice.{length_if}
use Rattle.octets.specs.Held.{holding}
use Rattle.validity_period.specs.Validity.{format_of, period_size, period_in, of_format, period_octets, is_absolute, time_holds}

-- the number of octets that it is written as
pub period_size_lem : (p : ValidityPeriod) (digits enhanced : List ℕ) → time_holds p digits ≡ true → length enhanced ≡ 7 → length (period_octets p digits enhanced) ≡ period_size (format_of p)
unfolding period_size
period_size_lem ValidityPeriod.None digits enhanced t n = refl
period_size_lem (ValidityPeriod.Relative x) digits enhanced t n = refl
period_size_lem ValidityPeriod.Absolute digits enhanced t n = length_octets digits ∙ rw ((time_means digits).0 t).0
period_size_lem ValidityPeriod.Enhanced digits enhanced t n = n

-- ---- of octets that were read

-- the digits beside it, and how many count
abbrev pub digits_count : ℕ → List ℕ → ℕ
digits_count v vp = length_if (is_absolute (period_in v vp)) (time_in (of_format 3 v vp)).length

abbrev pub digits_beside : ℕ → List ℕ → List ℕ
digits_beside v vp = take (digits_count v vp) (time_in (of_format 3 v vp)).octets

-- the seven octets beside it that count
abbrev pub enhanced_beside : ℕ → List ℕ → List ℕ
enhanced_beside v vp = if eqb (format_of (period_in v vp)) 1 then pad 7 (of_format 1 v vp) else []

pub record Held (v : ℕ) (vp : List ℕ) : Type 0 where
  pub format : format_of (period_in v vp) ≡ v
  pub time : time_holds (period_in v vp) (digits_beside v vp) ≡ true
  pub few : digits_count v vp ≤ 14
  pub octets : period_octets (period_in v vp) (digits_beside v vp) (pad 7 (of_format 1 v vp)) ≡ vp
  pub counted : period_octets (period_in v vp) (digits_beside v vp) (enhanced_beside v vp) ≡ vp

pub period_held : (v : ℕ) (vp : List ℕ) → v < 4 → period_size v ≡ length vp → Octets vp → Held v vp
unfolding period_size period_in holding
period_held zero [] l n o = record { format = refl; time = refl; few = omega arith; octets = refl; counted = refl }
period_held zero (x ∷ vp) l n o = absurd (omega arith)
period_held (suc zero) vp l n o =
    let full = pad_full 7 vp (sym n) in
    record { format = refl; time = refl; few = omega arith; octets = full; counted = full }
period_held (suc (suc zero)) [] l n o = absurd (omega arith)
period_held (suc (suc zero)) (x ∷ []) l n o = record { format = refl; time = refl; few = omega arith; octets = refl; counted = refl }
period_held (suc (suc zero)) (x ∷ y ∷ vp) l n o = absurd (omega arith)
period_held (suc (suc (suc zero))) vp l n o =
    let back = take_pad 14 (time_digits vp) in
    record { format = refl; time = rw back (digits_time vp o (sym n)); few = omega (arith, length_digits vp); octets = rw back (octets_back vp o); counted = rw back (octets_back vp o) }
period_held (suc (suc (suc (suc v)))) vp l n o = absurd (omega arith)
