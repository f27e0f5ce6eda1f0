-- What the writer makes of a record, check by check.
-- Assumes nothing.
use Prim.Native.Nat.{ℕ, ◌+◌, ◌/◌, ◌≤◌}
use mathlib.Core.Path.{◌≡◌, refl, ◌∙◌}
use mathlib.Core.Bool.{Bool, true, false}
use mathlib.Core.List.{List, [], ◌∷◌, ◌++◌}
use native.Mathlib.Omega.{arith}
use borrow.Author.Tests.{eqb-true, eq-eqb, ne_eqb}
use lib.Dec.{eqb}
use lib.ListN.{length, take, length-append}
use Rattle.octets.specs.Answers.{fine}
use Rattle.octets.specs.Checks.{Check, ◌unless◌, found, checked, after_checked, all_fit}
use Rattle.std.specs.Prelude.{Ok, Err, Option, Some, None, is_some}
use Rattle.std.proofs.lemmas.Bool.{false≢true}
use Rattle.octets.specs.Choice.{length_if}
use Rattle.octets.specs.Lent.{Making, refused, made}
use Rattle.octets.specs.declared.Refusal.{Refusal}
use Rattle.octets.specs.declared.Refusal.TheVariants.{LengthTooLarge, WrongMessageType, ValidityFormatDisagrees, NoDestination, NotATime}
use Rattle.octets.specs.Held.{filled}
use Rattle.octets.proofs.Checks.{holds, both_hold, made_told, Fit, all_fit_lem}
use Rattle.coding.specs.Coding.{coding_of, data_octets, checked_data, data_checks}
use Rattle.coding.proofs.Laws.{data_checked, data_passed}
use Rattle.time.specs.Time.{Time}
use Rattle.address.specs.Address.{text_held}
use Rattle.address.specs.Writing.{address_checks, address_making}
use Rattle.address.specs.Internal.{check_of}
use Rattle.address.specs.declared.SMSAddress.{SMSAddress}
use Rattle.address.proofs.Checks.{after_check, address_checked, fine_size}
use Rattle.validity_period.specs.Validity.{format_of, is_absolute, period_size, period_octets, time_holds}
use Rattle.validity_period.specs.declared.ValidityPeriod.{ValidityPeriod}
use Rattle.validity_period.proofs.Period.{period_size_lem}
use Rattle.submit.specs.declared.SmsSubmit.{SmsSubmit}
use Rattle.submit.specs.declared.writing.SubmitValues.{SubmitValues}
use Rattle.submit.specs.Submit.{lengths_of, first_of, destination_checks, octets_of, submitting}
use Rattle.submit.specs.Internal.{destination_in, octets_in, making}

-- ---- by the lengths that count

-- digits that don't count are neither looked at nor written
pub digits_counted : (p : ValidityPeriod) (n : ℕ) (ds enhanced : List ℕ) → let counted = take (length_if (is_absolute p) n) ds in
    (time_holds p counted ≡ time_holds p (take n ds)) × (period_octets p counted enhanced ≡ period_octets p (take n ds) enhanced)
digits_counted ValidityPeriod.None n ds enhanced = (refl, refl)
digits_counted (ValidityPeriod.Relative x) n ds enhanced = (refl, refl)
digits_counted ValidityPeriod.Absolute n ds enhanced = (refl, refl)
digits_counted ValidityPeriod.Enhanced n ds enhanced = (refl, refl)

-- ---- values, check by check

-- the checks from the time, from the address, and from the data on
abbrev pub last : SubmitValues → List ℕ → List Check
last v digits = (NotATime unless time_holds v.period digits) ∷ []

abbrev pub to_address : SubmitValues → ℕ → ℕ → List ℕ → List ℕ → List Check
to_address v ton npi text digits = address_checks ton npi text ++ last v digits

abbrev pub to_data : SubmitValues → ℕ → ℕ → List ℕ → List ℕ → List ℕ → List Check
to_data v ton npi text digits ud = data_checks v.dcs v.udl (length ud) ++ to_address v ton npi text digits

module _ (v : SubmitValues) (to : Option (ℕ × ℕ × List ℕ)) (digits enhanced ud : List ℕ) where
  abbrev all : Making ℕ
  all = making v to digits enhanced ud

  pub another_type : (v.mti ≡ 1 → ⊥) → all ≡ refused WrongMessageType
  unfolding making checked
  another_type h = rw (ne_eqb v.mti 1 h)

  module _ (m : v.mti ≡ 1) where
    pub another_format : (v.vpf ≡ format_of v.period → ⊥) → all ≡ refused ValidityFormatDisagrees
    unfolding making checked
    another_format h = rw (eq-eqb v.mti 1 m, ne_eqb v.vpf (format_of v.period) h)

    module _ (f : v.vpf ≡ format_of v.period) where
      pub no_destination : to ≡ None → all ≡ refused NoDestination
      unfolding making checked
      no_destination h = rw (eq-eqb v.mti 1 m, eq-eqb v.vpf (format_of v.period) f, h)

      module _ {ton npi : ℕ} {text : List ℕ} (t : to ≡ Some (ton, npi, text)) where
        abbrev octets : List ℕ
        octets = octets_in v ton npi text (period_octets v.period digits enhanced) ud

        to_data_lem : all ≡ checked (to_data v ton npi text digits ud) octets
        unfolding making checked
        to_data_lem = rw (eq-eqb v.mti 1 m, eq-eqb v.vpf (format_of v.period) f, t)

        by_data : all ≡ after_checked (checked_data v.dcs v.udl (length ud)) (checked (to_address v ton npi text digits) octets)
        by_data = to_data_lem ∙ data_checked v.dcs v.udl (length ud) (to_address v ton npi text digits) octets

        pub data_against : {r : Refusal} → checked_data v.dcs v.udl (length ud) ≡ Err r → all ≡ refused r
        data_against e = by_data ∙ rw e

        module _ (d : checked_data v.dcs v.udl (length ud) ≡ fine) where
          by_address : all ≡ after_check (check_of (address_making ton npi text)) (checked (last v digits) octets)
          by_address = by_data ∙ rw d (address_checked ton npi text (last v digits) octets)

          pub address_against : {r : Refusal} → check_of (address_making ton npi text) ≡ Err r → all ≡ refused r
          address_against e = by_address ∙ rw e

          module _ {l : ℕ} (a : check_of (address_making ton npi text) ≡ Ok l) where
            pub no_time : time_holds v.period digits ≡ false → all ≡ refused NotATime
            unfolding checked
            no_time h = by_address ∙ rw (a, h)

            module _ (h : time_holds v.period digits ≡ true) where
              pub all_made : all ≡ made octets (length octets)
              unfolding checked
              all_made = by_address ∙ rw (a, h)

              pub all_size : length enhanced ≡ 7 → length octets ≡ 7 + (l + 1) / 2 + period_size v.vpf + length ud
              all_size seven =
                  let size = fine_size ton npi text l a in
                  let period = period_size_lem v.period digits enhanced h seven in
                  rw f (simp length-append (omega arith))

-- ---- a record: its lengths, then its values

abbrev pub lengths_fit : SmsSubmit → Bool
lengths_fit r = all_fit (lengths_of r)

abbrev pub values_of : SmsSubmit → SubmitValues
values_of r = record {
  mti = r.tp_mti;
  vpf = r.tp_vpf;
  first = first_of r;
  mr = r.tp_mr;
  pid = r.tp_pid;
  dcs = r.tp_dcs;
  period = r.tp_validity_period;
  udl = r.tp_user_data_length;
}

module _ (r : SmsSubmit) where
  abbrev stamp : Time
  stamp = r.validity_period_digits

  abbrev ud : List ℕ
  ud = filled r.tp_user_data_raw

  pub too_long : lengths_fit r ≡ false → submitting r ≡ refused LengthTooLarge
  unfolding submitting checked
  too_long e = rw e

  module _ (e : lengths_fit r ≡ true) where
    pub by_fields : r.tp_mti ≡ 1 → r.tp_vpf ≡ format_of r.tp_validity_period → {to : SMSAddress} → r.tp_destination_address ≡ Some to →
        submitting r ≡ checked (to_data (values_of r) to.ton to.npi (text_held to) (filled stamp) ud) (octets_of r)
    unfolding submitting checked
    by_fields m f t = rw (e, eq-eqb r.tp_mti 1 m, eq-eqb r.tp_vpf (format_of r.tp_validity_period) f, t)

    pub by_values : submitting r ≡ making (values_of r) (destination_in r) (filled stamp) r.validity_period_octets ud
    unfolding submitting making checked
    by_values = by r.tp_destination_address refl
      where
        by : (to : Option SMSAddress) → r.tp_destination_address ≡ to → submitting r ≡ making (values_of r) (destination_in r) (filled stamp) r.validity_period_octets ud
        by None t = rw (e, t)
        by (Some to) t = rw (e, t)

-- where octets are written, every check has held
pub record Passed (r : SmsSubmit) (xs : List ℕ) : Type 0 where
  pub fits : Fit (lengths_of r)
  pub mti_is : r.tp_mti ≡ 1
  pub format_is : r.tp_vpf ≡ format_of r.tp_validity_period
  pub destination : SMSAddress
  pub there : r.tp_destination_address ≡ Some destination
  pub size_is : length (ud r) ≡ data_octets (coding_of r.tp_dcs) r.tp_user_data_length
  pub few : length (ud r) ≤ 140
  pub address : found (address_checks destination.ton destination.npi (text_held destination)) ≡ fine
  pub time : time_holds r.tp_validity_period (filled (stamp r)) ≡ true
  pub octets_are : octets_of r ≡ xs

held : (o : Option SMSAddress) → is_some o ≡ true → (to : SMSAddress) × (o ≡ Some to)
held None e = absurd (false≢true e)
held (Some to) e = (to, refl)

pub all_passed : (r : SmsSubmit) {xs : List ℕ} {n : ℕ} → submitting r ≡ made xs n → Passed r xs
unfolding submitting checked_data
all_passed r e =
    let from_time = (NotATime unless time_holds r.tp_validity_period (filled (stamp r))) ∷ [] in
    let from_address = destination_checks r.tp_destination_address ++ from_time in
    let of_data = data_checks r.tp_dcs r.tp_user_data_length (length (ud r)) in
    let from-destination = (NoDestination unless is_some r.tp_destination_address) ∷ of_data ++ from_address in
    let from_format = (ValidityFormatDisagrees unless eqb r.tp_vpf (format_of r.tp_validity_period)) ∷ from-destination in
    let (f0, x) = made_told _ _ e in
    let (l, f) = holds LengthTooLarge (lengths_fit r) ((WrongMessageType unless eqb r.tp_mti 1) ∷ from_format) f0 in
    let (m, f1) = holds WrongMessageType (eqb r.tp_mti 1) from_format f in
    let (p, f2) = holds ValidityFormatDisagrees (eqb r.tp_vpf (format_of r.tp_validity_period)) from-destination f1 in
    let (t, f3) = holds NoDestination (is_some r.tp_destination_address) (of_data ++ from_address) f2 in
    let (d, f4) = both_hold of_data from_address f3 in
    let (a, f5) = both_hold (destination_checks r.tp_destination_address) from_time f4 in
    let (size, few) = data_passed _ _ _ d in
    let (time, f6) = holds NotATime (time_holds r.tp_validity_period (filled (stamp r))) [] f5 in
    let (to, there) = held r.tp_destination_address t in
    record { fits = all_fit_lem (lengths_of r) l; mti_is = eqb-true _ _ m; format_is = eqb-true _ _ p; destination = to; there = there; size_is = size; few = few; address = rw there at a; time = time; octets_are = x }
