-- Demand 2 of document 01 for SMS-SUBMIT: what was written is read back as the same record but for header and text, which are derived, time letters capital; or refused with 17 or 18 for the header in its data.
-- And each proper beginning of it is refused with 2 (document 02, Ask 9).
-- Assumes nothing.
use Prim.Native.Nat.{ℕ, ◌+◌, ◌*◌, ◌/◌, ◌%◌, ◌≤◌, ◌<◌}
use mathlib.Core.Path.{◌≡◌, refl, sym, ap, ◌∙◌}
use mathlib.Core.Bool.{Bool, true, false}
use mathlib.Core.List.{List, [], ◌∷◌}
use mathlib.Core.Option.{none}
use native.Mathlib.Omega.{arith}
use borrow.Author.Tests.{eqb-true, eqb-false, le-leb}
use lib.Dec.{eqb}
use lib.ListN.{length, take}
use lib.Seq.{length-take-le}
use Rattle.octets.specs.Arrays.{pad}
use Rattle.std.specs.Prelude.{if◌then◌else◌, Err, Option, Some}
use Rattle.octets.specs.Choice.{length_if}
use Rattle.octets.specs.Lent.{made}
use Rattle.octets.specs.declared.Refusal.{Refusal}
use Rattle.octets.specs.declared.Refusal.TheVariants.{OctetsEnd}
use Rattle.octets.specs.Held.{holding, filled, cleared_held, TypedHeld}
use Rattle.octets.proofs.Holding.{held_back}
use Rattle.octets.proofs.Checks.{never, made_counts}
use Rattle.octets.proofs.Laws.{pad_full}
use Rattle.coding.specs.Coding.{coding_of}
use Rattle.coding.specs.declared.UserDataCoding.{UserDataCoding}
use Rattle.coding.specs.declared.UserDataCoding.TheVariants.{Gsm7Bit, EightBit, Ucs2, Compressed}
use Rattle.user_data_header.specs.Header.{in_count}
use Rattle.time.specs.Time.{time_in, time_digits, capitals, capital_time, Time}
use Rattle.time.proofs.Laws.{time_back}
use Rattle.address.specs.Address.{address_in, cleared_address, text_held}
use Rattle.address.specs.declared.SMSAddress.{SMSAddress}
use Rattle.address.proofs.Laws.{Spelled, address_passed, address_held}
use Rattle.layout.specs.Cut.{Cut}
use Rattle.layout.specs.Demand.{Demand2}
use Rattle.layout.specs.Layout.{bit, is_set, message_type, kept, halted, read}
use Rattle.layout.proofs.Beginnings.{cut_always}
use Rattle.layout.proofs.FirstOctet.{names, flag_at, first_type, first_flag, first_kept}
use Rattle.validity_period.specs.Validity.{format_of, period_in, period_octets, is_absolute, time_holds, period_size, of_format}
use Rattle.validity_period.specs.declared.ValidityPeriod.{ValidityPeriod}
use Rattle.validity_period.proofs.Period.{period_size_lem}
use Rattle.submit.specs.declared.SmsSubmit.{SmsSubmit}
use Rattle.submit.specs.Layout.{Fields, format_in, header_size, bits}
use Rattle.submit.specs.Submit.{submitted, submit, first_of, destination_octets, submitting, header_answer, underived, compared, capitalised, Typed}
use Rattle.submit.proofs.CheckByCheck.{Passed, all_passed}
use Rattle.submit.proofs.Demand.{made_cleared}
use Rattle.demands.proofs.SubmitWritten.{ends, written_read, written_cut}

-- ---- the first octet tells its flags, its MTI and its format

record Tells (r : SmsSubmit) (f : ℕ) : Type 0 where
  pub kept_is : kept bits f ≡ f
  pub mti_is : message_type f ≡ 1
  pub rp_is : is_set 7 f ≡ r.tp_rp
  pub udhi_is : is_set 6 f ≡ r.tp_udhi
  pub srr_is : is_set 5 f ≡ r.tp_srr
  pub rd_is : is_set 2 f ≡ r.tp_rd
  pub vpf_is : format_in f ≡ r.tp_vpf

-- two bits that are set alike are the same
same_bit : (a b : ℕ) → a < 2 → b < 2 → eqb a 1 ≡ eqb b 1 → a ≡ b
same_bit a b ha hb e = by (eqb b 1) refl
  where
    by : (t : Bool) → eqb b 1 ≡ t → a ≡ b
    by true w = omega (arith, eqb-true a 1 (e ∙ w), eqb-true b 1 w)
    by false w = omega (arith, eqb-false a 1 (e ∙ w), eqb-false b 1 w)

two_bits : (a : ℕ) → a % 4 ≡ 2 * (a / 2 % 2) + a / 1 % 2
two_bits a = omega arith

small : (v : ℕ) → v < 4 → v % 4 ≡ v
small v l = omega arith

format_alike : (f v : ℕ) → v < 4 → bit 4 f ≡ bit 1 v → bit 3 f ≡ bit 0 v → format_in f ≡ v
format_alike f v l high low =
    let higher : f / 8 / 2 ≡ f / 16 = omega arith in
    let lower : f / 8 / 1 ≡ f / 8 = omega arith in
    two_bits (f / 8) ∙ rw (higher, lower, high, low) (sym (two_bits v)) ∙ small v l

first_tells : (r : SmsSubmit) → r.tp_vpf < 4 → Tells r (first_of r)
first_tells r l =
    let vpf = r.tp_vpf in
    let f = first_of r in
    let flags : List (ℕ × Bool) = (7, r.tp_rp) ∷ (6, r.tp_udhi) ∷ (5, r.tp_srr) ∷ (4, is_set 1 vpf) ∷ (3, is_set 0 vpf) ∷ (2, r.tp_rd) ∷ [] in
    let flag_is : (b : ℕ) → names bits b ≡ true → is_set b f ≡ flag_at flags b = first_flag 1 (omega arith) flags refl in
    let high : bit 4 f ≡ bit 1 vpf = same_bit _ _ (omega arith) (omega arith) (flag_is 4 refl) in
    let low : bit 3 f ≡ bit 0 vpf = same_bit _ _ (omega arith) (omega arith) (flag_is 3 refl) in
    record { kept_is = first_kept 1 (omega arith) flags refl; mti_is = first_type 1 (omega arith) flags refl; rp_is = flag_is 7 refl; udhi_is = flag_is 6 refl; srr_is = flag_is 5 refl; rd_is = flag_is 2 refl; vpf_is = format_alike f vpf l high low }

format_small : (p : ValidityPeriod) → format_of p < 4
format_small ValidityPeriod.None = omega arith
format_small (ValidityPeriod.Relative x) = omega arith
format_small ValidityPeriod.Absolute = omega arith
format_small ValidityPeriod.Enhanced = omega arith

-- ---- the period, and the digits and octets beside it

period_back : (p : ValidityPeriod) (t : Time) (enhanced : List ℕ) → TypedHeld t → length_if (is_absolute p) t.length ≤ 14 → length enhanced ≡ 7 → time_holds p (filled t) ≡ true
    → (let vp = period_octets p (filled t) enhanced in
    (period_in (format_of p) vp ≡ p) × (time_in (of_format 3 (format_of p) vp) ≡ capital_time (if is_absolute p then cleared_held t else time_in [])) × (pad 7 (of_format 1 (format_of p) vp) ≡ (if eqb (format_of p) 1 then enhanced else pad 7 [])))
unfolding period_in holding time_digits capitals pad
period_back ValidityPeriod.None t enhanced n few seven h = (refl, refl, refl)
period_back (ValidityPeriod.Relative x) t enhanced n few seven h = (refl, refl, refl)
period_back ValidityPeriod.Absolute t enhanced n few seven h = (refl, time_back t h (length-take-le t.length t.octets (omega (arith, n))), refl)
period_back ValidityPeriod.Enhanced t enhanced n few seven h = (refl, refl, pad_full 7 enhanced seven)

-- ---- the record that the octets make

same_record : (r : SmsSubmit) (f : ℕ) → Tells r f → r.tp_mti ≡ 1 → {to : SMSAddress} → r.tp_destination_address ≡ Some to → (da vp : List ℕ) → address_in da ≡ cleared_address to → (let p = r.tp_validity_period in
    period_in (format_in f) vp ≡ p → time_in (of_format 3 (format_in f) vp) ≡ capital_time (if is_absolute p then cleared_held r.validity_period_digits else time_in [])
    → pad 7 (of_format 1 (format_in f) vp) ≡ (if eqb (format_of p) 1 then r.validity_period_octets else pad 7 []) → holding 255 (filled r.tp_user_data_raw) ≡ cleared_held r.tp_user_data_raw
    → underived (submitted (record { first = f; mr = r.tp_mr; da = da; pid = r.tp_pid; dcs = r.tp_dcs; vp = vp; udl = r.tp_user_data_length; ud = filled r.tp_user_data_raw })) ≡ capitalised (compared r))
unfolding submitted
same_record r f t mti there da vp ea ep et ee ed = rw (t.rp_is, t.udhi_is, t.srr_is, t.rd_is, t.mti_is, mti, ea, ep, et, ee, ed, t.vpf_is, there)

-- a destination that is there has the octets of its address
destination_spelled : {o : Option SMSAddress} {to : SMSAddress} → o ≡ Some to → Spelled to.ton to.npi (text_held to) (destination_octets (Some to)) → Spelled to.ton to.npi (text_held to) (destination_octets o)
destination_spelled there s = rw there s

-- ---- a record

module _ {octets : List ℕ} {answer : ℕ} (r : SmsSubmit) (typed : Typed r) (e : submitting r ≡ made octets answer) where
  abbrev to_fields : Fields
  to_fields = record {
    first = first_of r;
    mr = r.tp_mr;
    da = destination_octets r.tp_destination_address;
    pid = r.tp_pid;
    dcs = r.tp_dcs;
    vp = period_octets r.tp_validity_period (filled r.validity_period_digits) r.validity_period_octets;
    udl = r.tp_user_data_length;
    ud = filled r.tp_user_data_raw;
  }

  passed : Passed r octets
  passed = all_passed r e

  abbrev to : SMSAddress
  to = passed.destination

  told : Tells r (first_of r)
  told = first_tells r (rw passed.format_is (format_small r.tp_validity_period))

  format_told : format_in (first_of r) ≡ format_of r.tp_validity_period
  format_told = told.vpf_is ∙ passed.format_is

  spelled : Spelled to.ton to.npi (text_held to) to_fields.da
  spelled = destination_spelled passed.there (address_passed _ _ _ passed.address)

  period_is : period_size (format_in (first_of r)) ≡ length to_fields.vp
  period_is = rw format_told (sym (period_size_lem r.tp_validity_period (filled r.validity_period_digits) r.validity_period_octets passed.time typed.2))

  -- it is read as its fields, or as the answer of its header says
  read_back : read submit octets ≡ ends (header_answer r) (submitted to_fields) (length octets)
  unfolding header_answer
  read_back = rw (← passed.octets_are) (rw told.udhi_is at (written_read to_fields told.kept_is told.mti_is spelled.whole spelled.again period_is (sym passed.size_is)))

  -- and each proper beginning of it is refused with 2
  cut_back : (k : ℕ) → k < length octets → read submit (take k octets) ≡ halted OctetsEnd
  cut_back = rw (← passed.octets_are) (written_cut to_fields told.kept_is told.mti_is spelled.whole spelled.again period_is (sym passed.size_is))

  -- the fields make the same record
  record_back : compared (submitted to_fields) ≡ capitalised (compared r)
  record_back =
      let p = passed in
      let d = r.tp_user_data_raw in
      let few_digits = p.fits.1.0 in
      let few-data = p.fits.1.1.0 in
      let few : to.address.length ≤ 290 = rw p.there at p.fits.0 in
      let long : length to.address.octets ≡ 290 = (rw p.there at typed.0) in
      let la : length (text_held to) ≡ to.address.length = length-take-le to.address.length to.address.octets (omega arith) in
      let ld : length (filled d) ≡ d.length = length-take-le d.length d.octets (omega (arith, typed.3)) in
      let (period, digits, enhanced) = period_back r.tp_validity_period r.validity_period_digits r.validity_period_octets typed.1 few_digits typed.2 p.time in
      ap underived (made_cleared to_fields)
      ∙ same_record r (first_of r) told p.mti_is p.there _ _ (spelled.back ∙ address_held to la) (rw format_told period) (rw format_told digits) (rw format_told enhanced) (held_back d ld)

-- without UDHI nothing is said of a header
no_header : (coding : UserDataCoding) (udl : ℕ) → in_count coding udl 0 ≡ true
unfolding in_count
no_header Gsm7Bit udl = le-leb _ udl (omega arith)
no_header EightBit udl = refl
no_header Ucs2 udl = refl
no_header Compressed udl = refl

only_udhi : (r : SmsSubmit) (why : Refusal) → header_answer r ≡ Err why → r.tp_udhi ≡ true
unfolding header_answer header_size
only_udhi r why e = by r.tp_udhi refl
  where
    by : (b : Bool) → r.tp_udhi ≡ b → r.tp_udhi ≡ true
    by true u = u
    by false u = absurd (never (rw (u, le-leb 0 (length (filled r.tp_user_data_raw)) (omega arith), no_header (coding_of r.tp_dcs) r.tp_user_data_length) at e))

pub submit_demand2 : Demand2 Typed compared capitalised (λ r. submit) submitting header_answer (λ r. r.tp_udhi)
submit_demand2 = record {
  back = λ r t octets n e x. (submitted (to_fields r t e), length octets, read_back r t e ∙ rw x, record_back r t e);
  excepted = λ r t octets n e why x. read_back r t e ∙ rw x;
  only = only_udhi;
}

pub submit_ends : Cut Typed compared capitalised (λ r. submit) submitting (λ r. none) (λ r. r)
submit_ends = cut_always _ _ _ _ _ λ r t octets n e. cut_back r t e

pub submit_counts : (r : SmsSubmit) (xs : List ℕ) (a : ℕ) → submitting r ≡ made xs a → a ≡ length xs
unfolding submitting
submit_counts r xs a e = made_counts _ _ e
