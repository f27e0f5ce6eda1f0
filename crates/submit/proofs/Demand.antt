-- Demand 3 of SMS-SUBMIT, and that its writer looks at nothing that is no part of a record.
-- Assumes nothing.
use Rattle.time.specs.Time.{time_digits, is_time, time_octets, time_in, Time}
use Prim.Native.Nat.{ℕ, zero, suc, ◌/◌, ◌%◌, ◌≤◌, ◌<◌}
use mathlib.Core.Path.{◌≡◌, refl, sym, ap, ◌∙◌}
use mathlib.Core.Bool.{Bool, true, false}
use mathlib.Core.List.{List, [], ◌∷◌, ◌++◌, append-nil, append_assoc}
use native.Mathlib.Omega.{arith}
use borrow.Author.Tests.{eqb-true, le-leb, leb-true}
use lib.Dec.{eqb, ltb}
use lib.ListN.{length, take, length-take}
use Rattle.octets.specs.Arrays.{pad}
use Rattle.octets.specs.Checks.{checked}
use Rattle.std.specs.Prelude.{if◌then◌else◌, Option, Some, None, is_some, option_map, unwrap_or, IfSome}
use Rattle.std.specs.Bool.{then_some}
use Rattle.octets.specs.Choice.{length_if}
use Rattle.octets.specs.Each.{Octets}
use Rattle.octets.specs.Lent.{Making, refused, made}
use Rattle.octets.specs.declared.Refusal.TheVariants.{UserDataTooLong, AddressTooLong, NotATime}
use Rattle.octets.specs.Held.{holding, filled, cleared_held, TypedHeld}
use Rattle.octets.proofs.Holding.{filled_holding, holding_cleared}
use Rattle.octets.proofs.Checks.{check_holds, no_checks}
use Rattle.octets.proofs.Laws.{cleared_pad, take_cleared}
use Rattle.coding.specs.Coding.{coding_of, data_octets, UserData}
use Rattle.coding.proofs.Laws.{data_at_most, data_limit}
use Rattle.user_data_header.specs.Header.{in_count}
use Rattle.address.specs.Address.{address_in, canonical_address, cleared_address, text_held, TypedAddress}
use Rattle.address.specs.Writing.{address_octets, octets_or, address_checks}
use Rattle.address.specs.declared.SMSAddress.{SMSAddress}
use Rattle.address.proofs.Laws.{address_cleared, canonical_reads, octets_again, length_short, read_checked, Field as AddressField}
use Rattle.layout.specs.Demand.{Demand3}
use Rattle.layout.specs.Layout.{is_set, message_type, kept, first_octet, reached, read, canonical_of, unwritable}
use Rattle.layout.proofs.Demand.{Answers, Writes, demand3, answers_plain, answers_two}
use Rattle.layout.proofs.FirstOctet.{flags_in, kept_first}
use Rattle.layout.proofs.Makes.{Makes}
use Rattle.validity_period.specs.Validity.{period_in, of_format, format_of, is_absolute, period_octets, time_holds}
use Rattle.validity_period.specs.declared.ValidityPeriod.{ValidityPeriod}
use Rattle.validity_period.proofs.Period.{digits_count, Held, period_held}
use Rattle.submit.specs.declared.SmsSubmit.{SmsSubmit}
use Rattle.submit.specs.declared.writing.SubmitValues.{SubmitValues}
use Rattle.submit.specs.Layout.{Fields, format_in, bits, fields}
use Rattle.submit.specs.Submit.{readable, header_in, submitted, format, submit, first_of, destination_octets, destination_checks, octets_of, submitting, cleared, Typed}
use Rattle.submit.proofs.FieldByField.{kept_whole}
use Rattle.submit.proofs.CheckByCheck.{digits_counted, last, to_address, to_data, lengths_fit, values_of, by_fields}
use Rattle.submit.proofs.Text.{readable_short}

-- ---- what is no part of a record is not written

-- a length that counts
digits_same : (there : Bool) (t : Time) → length_if there (if there then cleared_held t else time_in []).length ≡ length_if there t.length
digits_same true t = refl
digits_same false t = refl

address_same : (o : Option SMSAddress) → (let size : SMSAddress → ℕ = λ a. a.address.length in unwrap_or (option_map size (option_map cleared_address o)) 0 ≡ unwrap_or (option_map size o) 0)
address_same (Some to) = refl
address_same None = refl

header_same : (o : Option UserData) → (let size : UserData → ℕ = λ d. d.length in unwrap_or (option_map size (option_map cleared_held o)) 0 ≡ unwrap_or (option_map size o) 0)
header_same (Some header) = refl
header_same None = refl

-- the destination
destination_same : (o : Option SMSAddress) → IfSome o TypedAddress → (let c = option_map cleared_address o in
    (is_some c ≡ is_some o) × (destination_octets c ≡ destination_octets o) × (destination_checks c ≡ destination_checks o))
destination_same (Some to) n =
    let same = take_cleared 290 to.address.length to.address.octets n in
    (refl, ap (λ (text : List ℕ). octets_or [] (address_octets to.ton to.npi text)) same, ap (λ (text : List ℕ). address_checks to.ton to.npi text) same)
destination_same None n = (refl, refl, refl)

-- the period: its digits are looked at in the absolute format, its octets in the enhanced one
period_same : (p : ValidityPeriod) (t : Time) (enhanced : List ℕ) → TypedHeld t → (let digits = filled (if is_absolute p then cleared_held t else time_in []) in
    (time_holds p digits ≡ time_holds p (filled t)) × (period_octets p digits (if eqb (format_of p) 1 then enhanced else pad 7 []) ≡ period_octets p (filled t) enhanced))
period_same ValidityPeriod.None t enhanced n = (refl, refl)
period_same (ValidityPeriod.Relative x) t enhanced n = (refl, refl)
period_same ValidityPeriod.Absolute t enhanced n = let same = take_cleared 14 t.length t.octets n in (ap is_time same, ap time_octets same)
period_same ValidityPeriod.Enhanced t enhanced n = (refl, refl)

module _ (r : SmsSubmit) (typed : Typed r) where
  lengths_same : lengths_fit (cleared r) ≡ lengths_fit r
  lengths_same = rw (address_same r.tp_destination_address, digits_same (is_absolute r.tp_validity_period) r.validity_period_digits, header_same r.tp_user_data_header)

  of_cleared : submitting (cleared r) ≡ submitting r
  unfolding submitting checked
  of_cleared =
      let (time, octets) = period_same r.tp_validity_period r.validity_period_digits r.validity_period_octets typed.1 in
      let (there, written, checks) = destination_same r.tp_destination_address typed.0 in
      rw (lengths_same, time, octets, there, written, checks, take_cleared 255 r.tp_user_data_raw.length r.tp_user_data_raw.octets typed.3)

-- equal records are written alike
pub written_alike : (r q : SmsSubmit) → Typed r → Typed q → cleared r ≡ cleared q → submitting r ≡ submitting q
written_alike r q f g e = sym (of_cleared r f) ∙ ap submitting e ∙ of_cleared q g

-- ---- a record that was made of fields is cleared

period_cleared : (v : ℕ) (vp : List ℕ) → v < 4 → ((if is_absolute (period_in v vp) then cleared_held (time_in (of_format 3 v vp)) else time_in []) ≡ time_in (of_format 3 v vp))
    × ((if eqb (format_of (period_in v vp)) 1 then pad 7 (of_format 1 v vp) else pad 7 []) ≡ pad 7 (of_format 1 v vp))
unfolding period_in
period_cleared zero vp l = (refl, refl)
period_cleared (suc zero) vp l = (refl, refl)
period_cleared (suc (suc zero)) vp l = (refl, refl)
period_cleared (suc (suc (suc zero))) vp l = (holding_cleared 14 (time_digits vp), refl)
period_cleared (suc (suc (suc (suc v)))) vp l = absurd (omega arith)

header_cleared : (udhi : Bool) (header : List ℕ) → option_map cleared_held (then_some udhi (holding 255 header)) ≡ then_some udhi (holding 255 header)
header_cleared true header = ap (λ (d : UserData). Some d) (holding_cleared 255 header)
header_cleared false header = refl

pub made_cleared : (x : Fields) → cleared (submitted x) ≡ submitted x
unfolding submitted holding
made_cleared x =
    let (digits, enhanced) = period_cleared (format_in x.first) x.vp (omega arith) in
    rw (address_cleared x.da, digits, enhanced, holding_cleared 255 x.ud, header_cleared (is_set 6 x.first) (take (header_in x) x.ud), cleared_pad 510 (readable (coding_of x.dcs) x.udl (header_in x) x.ud))

-- ---- a record that was read: its octets, and how its checks fare

-- a first octet with MTI 1 is written as it was
first_back : (x : Fields) → x.first < 256 → message_type x.first ≡ 1 → first_of (submitted x) ≡ x.first
unfolding submitted
first_back x h m =
    let f = x.first in
    let high : f / 8 % 4 / 2 % 2 ≡ f / 16 % 2 = omega arith in
    let low : f / 8 % 4 / 1 % 2 ≡ f / 8 % 2 = omega arith in
    rw (high, low) (ap (λ (n : ℕ). first_octet n (flags_in bits f)) (sym m) ∙ sym (kept_first bits f) ∙ kept_whole f h)

module _ (x : Fields) (small : x.first < 256) (mti : message_type x.first ≡ 1) (a : List ℕ) (wa : AddressField a) (da : x.da ≡ canonical_address a) (held : Held (format_in x.first) x.vp)
    (few : x.udl < 256) (size : data_octets (coding_of x.dcs) x.udl ≡ length x.ud) (fits : header_in x ≤ length x.ud) (counted : in_count (coding_of x.dcs) x.udl (header_in x) ≡ true) where
  abbrev sent : SmsSubmit
  sent = submitted x

  abbrev string : List ℕ
  string = x.first ∷ x.mr ∷ x.da ++ x.pid ∷ x.dcs ∷ x.vp ++ x.udl ∷ x.ud

  its_address : address_in x.da ≡ address_in a
  its_address = ap address_in da ∙ canonical_reads a wa

  -- the digits count only in the absolute format
  its_digits : let t = time_in (of_format 3 (format_in x.first) x.vp) in
      (time_holds (period_in (format_in x.first) x.vp) (filled t) ≡ true) × (period_octets (period_in (format_in x.first) x.vp) (filled t) (pad 7 (of_format 1 (format_in x.first) x.vp)) ≡ x.vp)
  its_digits =
      let t = time_in (of_format 3 (format_in x.first) x.vp) in
      let (holds, octets) = digits_counted (period_in (format_in x.first) x.vp) t.length t.octets (pad 7 (of_format 1 (format_in x.first) x.vp)) in
      (sym holds ∙ held.time, sym octets ∙ held.octets)

  its_octets : octets_of sent ≡ string
  unfolding submitted
  its_octets = rw (its_address, octets_again a wa, first_back x small mti, its_digits.1, filled_holding 255 x.ud, da)

  at_most : length x.ud ≤ 255
  at_most = omega (arith, data_at_most (coding_of x.dcs) x.udl)

  header_few : (b : Bool) → unwrap_or (option_map (λ (d : UserData). d.length) (then_some b (holding 255 (take (header_in x) x.ud)))) 0 ≤ 255
  unfolding holding
  header_few true = rw length-take (omega (arith, at_most))
  header_few false = omega arith

  lengths_fit_lem : lengths_fit sent ≡ true
  unfolding submitted holding
  lengths_fit_lem =
      rw (
        its_address,
        le-leb _ 290 (length_short a wa),
        le-leb (digits_count (format_in x.first) x.vp) 14 held.few,
        le-leb (length x.ud) 255 at_most,
        le-leb _ 255 (header_few (is_set 6 x.first)),
        le-leb _ 510 (readable_short (coding_of x.dcs) x.udl (header_in x) x.ud (omega arith) fits counted (sym size)),
      )

  -- what its checks come to
  abbrev answered : List ℕ → Making ℕ
  answered xs = if ltb 140 (length x.ud) then refused UserDataTooLong else if ltb 12 (length x.da) then refused AddressTooLong else made xs (length xs)

  abbrev values : SubmitValues
  values = values_of sent

  abbrev text : List ℕ
  text = text_held (address_in x.da)

  abbrev digits : List ℕ
  digits = filled sent.validity_period_digits

  its_checks : (xs : List ℕ) → checked (to_data values (address_in x.da).ton (address_in x.da).npi text digits (filled sent.tp_user_data_raw)) xs ≡ answered xs
  unfolding submitted
  its_checks xs =
      rw (filled_holding 255 x.ud)
      (data_limit x.dcs x.udl (length x.ud) size (to_address values (address_in x.da).ton (address_in x.da).npi text digits) xs ∙ rw (its_address, read_checked a wa (last values digits) xs, da, check_holds its_digits.0 NotATime [] xs, no_checks))

  its_making : submitting sent ≡ answered string
  unfolding submitted
  its_making = by_fields sent lengths_fit_lem mti (sym held.format) refl ∙ its_checks (octets_of sent) ∙ ap answered its_octets

submit_makes : Makes (Writes cleared submitting octets_of) format
unfolding format fields
submit_makes x lx m mr lmr a wa pid lpid dcs ldcs vp ovp nvp udl ludl ud oud nud fits counted =
    let f = kept bits x in
    let small : f < 256 = omega (arith, kept_whole x lx) in
    let mti : message_type f ≡ 1 = eqb-true _ _ m in
    let held = period_held (format_in f) vp (omega arith) nvp ovp in
    let found : Fields = record { first = f; mr = mr; da = canonical_address a; pid = pid; dcs = dcs; vp = vp; udl = udl; ud = ud } in
    record {
      octets = ap octets_of (made_cleared found) ∙ its_octets found small mti a wa refl held ludl nud (leb-true _ _ fits) counted ∙ rw (append-nil, append_assoc);
      answer = rw (its_making found small mti a wa refl held ludl nud (leb-true _ _ fits) counted) (answers_two (ltb 12 (length (canonical_address a))) (ltb 140 (length ud)) AddressTooLong UserDataTooLong _ _ (rw (append-nil, append_assoc)));
    }

-- demand 3 of SUBMIT
pub submit_demand3 : Demand3 cleared submit submitting false
submit_demand3 = demand3 cleared submitting octets_of format submit_makes

-- what the writer makes of a record that was read, whatever the buffer
pub submit_answers : (s : List ℕ) → Octets s → (r : SmsSubmit) (n : ℕ) → read submit s ≡ reached r n → Answers (submitting r) (canonical_of submit s) (unwritable submit false s)
submit_answers = answers_plain cleared submitting octets_of format submit_makes
