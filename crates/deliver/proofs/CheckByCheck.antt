-- What the writer makes of values, check by check.
-- Assumes nothing.
use Rattle.std.specs.Prelude.{Ok, Err}
use Prim.Native.Nat.{ℕ, ◌+◌, ◌/◌, ◌≤◌, ◌<◌}
use mathlib.Core.Path.{◌≡◌, ◌∙◌}
use mathlib.Core.Bool.{true, false}
use mathlib.Core.List.{List, [], ◌∷◌, ◌++◌}
use native.Mathlib.Omega.{arith}
use borrow.Author.Tests.{eq-eqb, ne_eqb}
use lib.ListN.{length, length-append}
use Rattle.octets.specs.Answers.{Said, fine}
use Rattle.octets.specs.Checks.{Check, ◌unless◌, checked, after_checked}
use Rattle.octets.specs.Lent.{Making, made, lend, Wrote}
use Rattle.octets.specs.declared.Refusal.{Refusal}
use Rattle.octets.specs.declared.Refusal.TheVariants.{WrongMessageType, NotATime, OutputTooShort}
use Rattle.octets.proofs.Laws.{lent_refused, lent_short, lent_written}
use Rattle.coding.specs.Coding.{checked_data}
use Rattle.coding.proofs.Laws.{data_checked}
use Rattle.time.specs.Time.{is_time}
use Rattle.time.proofs.Laws.{time_size}
use Rattle.address.specs.Writing.{address_checks, address_making}
use Rattle.address.specs.Internal.{check_of}
use Rattle.address.proofs.Checks.{after_check, address_checked, fine_size}
use Rattle.deliver.specs.declared.writing.DeliverValues.{DeliverValues}
use Rattle.deliver.specs.Internal.{octets_in, making}

module _ (v : DeliverValues) (ton npi : ℕ) (text digits ud l : List ℕ) where
  abbrev octets : List ℕ
  octets = octets_in v ton npi text digits ud

  abbrev all : Making ℕ
  all = making v ton npi text digits ud

  abbrev Lent : Said ℕ → List ℕ → Type 0
  Lent answer after = ◌≡◌ {A = Said ℕ × List ℕ} (answer, after) (lend all l)

  pub another_type : (v.mti ≡ 0 → ⊥) → Lent (Err WrongMessageType) l
  unfolding making checked
  another_type h = lent_refused l WrongMessageType (rw (ne_eqb v.mti 0 h))

  abbrev last : List Check
  last = (NotATime unless is_time digits) ∷ []

  module _ (m : v.mti ≡ 0) where
    by_data : all ≡ after_checked (checked_data v.dcs v.udl (length ud)) (checked (address_checks ton npi text ++ last) octets)
    unfolding making checked
    by_data = rw (eq-eqb v.mti 0 m) (data_checked v.dcs v.udl (length ud) (address_checks ton npi text ++ last) octets)

    pub data_against : {why : Refusal} → checked_data v.dcs v.udl (length ud) ≡ Err why → Lent (Err why) l
    data_against e = lent_refused l _ (by_data ∙ rw e)

    module _ (d : checked_data v.dcs v.udl (length ud) ≡ fine) where
      by_address : all ≡ after_check (check_of (address_making ton npi text)) (checked last octets)
      by_address = by_data ∙ rw d (address_checked ton npi text last octets)

      pub address_against : {why : Refusal} → check_of (address_making ton npi text) ≡ Err why → Lent (Err why) l
      address_against e = lent_refused l _ (by_address ∙ rw e)

      module _ {n : ℕ} (counted : check_of (address_making ton npi text) ≡ Ok n) where
        pub no_time : is_time digits ≡ false → Lent (Err NotATime) l
        unfolding checked
        no_time t = lent_refused l _ (by_address ∙ rw (counted, t))

        module _ (t : is_time digits ≡ true) where
          all_made : all ≡ made octets (length octets)
          unfolding checked
          all_made = by_address ∙ rw (counted, t)

          all_size : length octets ≡ 13 + (n + 1) / 2 + length ud
          all_size = simp length-append (omega (arith, fine_size ton npi text n counted, time_size digits t))

          pub short : length l < 13 + (n + 1) / 2 + length ud → Lent (Err OutputTooShort) l
          short h = lent_short l all_made (rw all_size h)

          pub written : {k : ℕ} {after : List ℕ} → 13 + (n + 1) / 2 + length ud ≤ length l → Wrote 0 octets l k after → Lent (Ok k) after
          written h w = lent_written l all_made (rw all_size h) w
