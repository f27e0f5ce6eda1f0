-- Demand 2 of document 01 for SMS-DELIVER: what was written is read back as the same record, time letters capital. And each proper beginning of it is refused with 2 (document 02, Ask 9).
-- Assumes nothing.
use Prim.Native.Nat.{ℕ, ◌≤◌}
use mathlib.Core.Path.{◌≡◌, refl, sym, ap, ◌∙◌}
use mathlib.Core.Bool.{true, false}
use mathlib.Core.List.{List, [], ◌∷◌, ◌++◌, append-nil}
use mathlib.Core.Option.{none}
use native.Mathlib.Nat.{zero-add}
use native.Mathlib.Omega.{arith}
use borrow.Author.Tests.{eqb-true, eq-eqb}
use lib.Dec.{eqb}
use lib.ListN.{length, length-append}
use lib.Seq.{length-take-le}
use Rattle.octets.specs.Answers.{fine}
use Rattle.octets.specs.Checks.{Check, ◌unless◌, all_fit}
use Rattle.octets.specs.Lent.{made}
use Rattle.octets.specs.declared.Refusal.TheVariants.{LengthTooLarge, WrongMessageType, NotATime}
use Rattle.octets.specs.Held.{filled}
use Rattle.octets.proofs.Holding.{held_back}
use Rattle.octets.proofs.Checks.{never, holds, both_hold, made_told, made_counts, all_fit_lem}
use Rattle.coding.specs.Coding.{coding_of, data_octets, data_checks, checked_data}
use Rattle.coding.proofs.Laws.{data_passed}
use Rattle.time.specs.Time.{is_time, time_octets}
use Rattle.time.proofs.Laws.{time_back, time_size}
use Rattle.address.specs.Writing.{address_octets, octets_or, address_checks}
use Rattle.address.specs.Address.{text_held}
use Rattle.address.proofs.Laws.{Spelled, address_passed, address_held}
use Rattle.layout.specs.Cut.{Cut, Endless}
use Rattle.layout.specs.Demand.{Demand2}
use Rattle.layout.specs.Layout.{first, octet, octets, any, address, user_data, first_octet, Field, stands_as, joined, reached, read_from, read}
use Rattle.layout.proofs.Beginnings.{cut_read, cut_always}
use Rattle.layout.proofs.FirstOctet.{first_type, first_flag, first_kept}
use Rattle.layout.proofs.LayoutBack.{Calls, joined_read}
use Rattle.deliver.specs.declared.SmsDeliver.{SmsDeliver}
use Rattle.deliver.specs.Deliver.{delivered, format, deliver, lengths_of, flags_of, octets_of, delivering, cleared, capitalised, Typed}
use Rattle.deliver.specs.Layout.{Fields, bits, fields}
use Rattle.deliver.proofs.Demand.{made_cleared}

-- the layout never asks whether the string has ended
endless : Endless format
unfolding format fields
endless f oa pid dcs scts udl ud = tt

module _ (r : SmsDeliver) where
  abbrev oa : List ℕ
  oa = octets_or [] (address_octets r.tp_originating_address.ton r.tp_originating_address.npi (text_held r.tp_originating_address))

  abbrev digits : List ℕ
  digits = filled r.tp_service_centre_timestamp

  abbrev ud : List ℕ
  ud = filled r.tp_user_data

  -- the checks that a written record passed
  record Passed (os : List ℕ) : Type 0 where
    pub is : octets_of r ≡ os
    pub fit : all_fit (lengths_of r) ≡ true
    pub mti_is : r.tp_mti ≡ 0
    pub size_is : length ud ≡ data_octets (coding_of r.tp_dcs) r.tp_user_data_length
    pub few : length ud ≤ 140
    pub address : Spelled r.tp_originating_address.ton r.tp_originating_address.npi (text_held r.tp_originating_address) oa
    pub time_is : is_time digits ≡ true

  -- its fields, and as the layout calls for them
  abbrev to_fields : Fields
  to_fields = record { first = first_octet 0 (flags_of r); oa = oa; pid = r.tp_pid; dcs = r.tp_dcs; scts = time_octets digits; udl = r.tp_user_data_length; ud = ud }

  abbrev parts : List Field
  parts =
      stands_as (first bits) (first_octet 0 (flags_of r) ∷ []) ∷ stands_as address oa ∷ stands_as octet (r.tp_pid ∷ []) ∷ stands_as octet (r.tp_dcs ∷ []) ∷ stands_as (octets any 7) (time_octets digits)
      ∷ stands_as octet (r.tp_user_data_length ∷ []) ∷ stands_as (user_data (data_octets (coding_of r.tp_dcs) r.tp_user_data_length)) ud ∷ []

  called : {os : List ℕ} → Passed os → Calls format parts (delivered to_fields)
  unfolding format fields
  called p =
      let whole = ap (λ (x : ℕ). x ∷ []) (first_kept 0 (omega arith) (flags_of r) refl) in
      let mti = eq-eqb _ 0 (first_type 0 (omega arith) (flags_of r) refl) in
      (refl, whole, (mti, (p.address.whole, p.address.again, (refl, refl, (refl, refl, (sym (time_size digits p.time_is), refl, (refl, refl, (sym p.size_is, refl, refl))))))))

module _ {os : List ℕ} {answer : ℕ} (r : SmsDeliver) (e : delivering r ≡ made os answer) where
  passed : Passed r os
  unfolding delivering checked_data
  passed =
      let a = r.tp_originating_address in
      let of-data = data_checks r.tp_dcs r.tp_user_data_length (length (ud r)) in
      let of-address = address_checks a.ton a.npi (text_held a) in
      let last : List Check = (NotATime unless is_time (digits r)) ∷ [] in
      let (f, x) = made_told _ _ e in
      let (fit, f0) = holds LengthTooLarge (all_fit (lengths_of r)) ((WrongMessageType unless eqb r.tp_mti 0) ∷ (of-data ++ (of-address ++ last))) f in
      let (mti, f1) = holds WrongMessageType (eqb r.tp_mti 0) (of-data ++ (of-address ++ last)) f0 in
      let (d, f2) = both_hold of-data (of-address ++ last) f1 in
      let (g, t) = both_hold of-address last f2 in
      let (size, few) = data_passed _ _ _ d in
      record { is = x; fit = fit; mti_is = eqb-true _ _ mti; size_is = size; few = few; address = address_passed _ _ _ g; time_is = (holds NotATime (is_time (digits r)) [] t).0 }

  -- what was written has at most 163 octets
  pub at_most : length os ≤ 163
  at_most = rw (← passed.is) (simp length-append (omega (arith, time_size (digits r) passed.time_is, passed.few, passed.address.short)))

  -- what was written is read back, to its end
  read_back : read deliver os ≡ reached (delivered (to_fields r)) (length os)
  unfolding read read_from
  read_back =
      let same : joined (parts r) ≡ os = simp append-nil passed.is in
      ap (read deliver) (sym same) ∙ joined_read (delivered (to_fields r)) format (parts r) (called r passed) 0 ∙ ap (reached (delivered (to_fields r))) (zero-add _ ∙ ap length same)

  -- as the same record
  record_back : Typed r → cleared (delivered (to_fields r)) ≡ capitalised (cleared r)
  unfolding delivered
  record_back (ha, ht, hd) =
      let p = passed in
      let fit = all_fit_lem (lengths_of r) p.fit in
      let a = r.tp_originating_address in
      let stamp = r.tp_service_centre_timestamp in
      let d = r.tp_user_data in
      let la : length (text_held a) ≡ a.address.length = length-take-le a.address.length a.address.octets (omega (arith, ha, fit.0)) in
      let lt : length (filled stamp) ≡ stamp.length = length-take-le stamp.length stamp.octets (omega (arith, ht, fit.1.0)) in
      let ld : length (filled d) ≡ d.length = length-take-le d.length d.octets (omega (arith, hd, fit.1.1.0)) in
      let tells = first_flag 0 (omega arith) (flags_of r) refl in
      made_cleared _
      ∙ rw (tells 7 refl, tells 6 refl, tells 5 refl, tells 3 refl, tells 2 refl, first_type 0 (omega arith) (flags_of r) refl, p.mti_is, p.address.back ∙ address_held a la, time_back stamp p.time_is lt, held_back d ld)

pub deliver_demand2 : Demand2 Typed cleared capitalised (λ r. deliver) delivering (λ r. fine) (λ r. false)
deliver_demand2 = record {
  back = λ r t octets n e x. (delivered (to_fields r), length octets, read_back r e, record_back r e t);
  excepted = λ r t octets n e why x. absurd (never x);
  only = λ r why x. absurd (never x);
}

pub deliver_ends : Cut Typed cleared capitalised (λ r. deliver) delivering (λ r. none) (λ r. r)
deliver_ends = cut_always _ _ _ _ _ λ r t octets n e. cut_read deliver endless octets (read_back r e)

pub deliver_counts : (r : SmsDeliver) (xs : List ℕ) (a : ℕ) → delivering r ≡ made xs a → a ≡ length xs
unfolding delivering
deliver_counts r xs a e = made_counts _ _ e
