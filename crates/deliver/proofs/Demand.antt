-- Demand 3 of DELIVER, and that its writer looks at nothing that is no part of a record.
-- Assumes nothing.
use Prim.Native.Nat.{ℕ, ◌≤◌, ◌<◌}
use mathlib.Core.Path.{◌≡◌, refl, sym, ap, ◌∙◌}
use mathlib.Core.Bool.{true, false}
use mathlib.Core.List.{List, [], ◌∷◌, ◌++◌, append-nil}
use native.Mathlib.Omega.{arith}
use borrow.Author.Tests.{eqb-true}
use lib.Dec.{eqb, ltb}
use lib.ListN.{length}
use Rattle.octets.specs.Checks.{Check, ◌unless◌, checked}
use Rattle.std.specs.Prelude.{if◌then◌else◌}
use Rattle.octets.specs.Each.{Octets}
use Rattle.octets.specs.Lent.{Making, refused, made}
use Rattle.octets.specs.declared.Refusal.TheVariants.{LengthTooLarge, WrongMessageType, NotATime, UserDataTooLong, AddressTooLong}
use Rattle.octets.specs.Held.{holding, filled}
use Rattle.octets.proofs.Holding.{filled_holding, holding_cleared}
use Rattle.octets.proofs.Checks.{check_holds, no_checks}
use Rattle.octets.proofs.Laws.{take_cleared}
use Rattle.coding.specs.Coding.{coding_of, data_octets, data_checks}
use Rattle.coding.proofs.Laws.{data_at_most, data_limit}
use Rattle.time.specs.Time.{is_time, time_digits, time_in}
use Rattle.time.proofs.Laws.{octets_back, digits_time, length_digits}
use Rattle.address.specs.Writing.{address_checks}
use Rattle.address.specs.Address.{canonical_address, text_held}
use Rattle.address.proofs.Laws.{address_cleared, canonical_reads, octets_again, length_short, read_checked, Field as AddressField}
use Rattle.layout.specs.Demand.{Demand3}
use Rattle.layout.specs.Layout.{message_type, kept, first_octet, reached, read, canonical_of, unwritable}
use Rattle.layout.proofs.FirstOctet.{flags_in, told_first}
use Rattle.layout.proofs.Makes.{Makes}
use Rattle.layout.proofs.Demand.{Answers, Writes, demand3, answers_plain, answers_two}
use Rattle.deliver.proofs.RecordWritten.{fits}
use Rattle.deliver.specs.declared.SmsDeliver.{SmsDeliver}
use Rattle.deliver.specs.Deliver.{delivered, format, deliver, octets_of, delivering, cleared, Typed}
use Rattle.deliver.specs.Layout.{Fields, bits, fields}

-- ---- what is no part of a record

-- what lies after the lengths is not written
of_cleared : (r : SmsDeliver) → Typed r → delivering (cleared r) ≡ delivering r
unfolding delivering
of_cleared r (a, t, d) =
    rw (
      take_cleared 290 r.tp_originating_address.address.length r.tp_originating_address.address.octets a,
      take_cleared 14 r.tp_service_centre_timestamp.length r.tp_service_centre_timestamp.octets t,
      take_cleared 255 r.tp_user_data.length r.tp_user_data.octets d,
    )

-- equal records are written alike
pub written_alike : (r q : SmsDeliver) → Typed r → Typed q → cleared r ≡ cleared q → delivering r ≡ delivering q
written_alike r q f g e = sym (of_cleared r f) ∙ ap delivering e ∙ of_cleared q g

-- a record that was made of fields is cleared
pub made_cleared : (x : Fields) → cleared (delivered x) ≡ delivered x
unfolding delivered
made_cleared x = rw (address_cleared x.oa, holding_cleared 14 (time_digits x.scts), holding_cleared 255 x.ud)

-- ---- a record that was read: its octets, and how its checks fare

module _ (x : ℕ) (mti : eqb (message_type (kept bits x)) 0 ≡ true) (f : List ℕ) (wf : AddressField f) (pid dcs : ℕ) (t : List ℕ) (ot : Octets t) (wt : 7 ≡ length t)
    (udl : ℕ) (hu : udl < 256) (d : List ℕ) (wd : data_octets (coding_of dcs) udl ≡ length d) where
  abbrev r : SmsDeliver
  r = delivered (record { first = kept bits x; oa = canonical_address f; pid = pid; dcs = dcs; scts = t; udl = udl; ud = d })

  abbrev octets : List ℕ
  octets = kept bits x ∷ (canonical_address f ++ (pid ∷ dcs ∷ (t ++ (udl ∷ d))))

  its_octets : octets_of r ≡ octets
  unfolding delivered
  its_octets = rw (canonical_reads f wf, ap (λ n. first_octet n (flags_in bits (kept bits x))) (sym (eqb-true _ 0 mti)) ∙ told_first bits refl x, octets_again f wf, filled_holding 14 (time_digits t), octets_back t ot, filled_holding 255 d)

  -- what its checks come to
  abbrev answered : List ℕ → Making ℕ
  answered xs = if ltb 140 (length d) then refused UserDataTooLong else if ltb 12 (length (canonical_address f)) then refused AddressTooLong else made xs (length xs)

  abbrev later : List Check
  later = address_checks r.tp_originating_address.ton r.tp_originating_address.npi (text_held r.tp_originating_address) ++ (NotATime unless is_time (filled r.tp_service_centre_timestamp)) ∷ []

  its_checks : (xs : List ℕ) → checked (data_checks dcs udl (length (filled r.tp_user_data)) ++ later) xs ≡ answered xs
  unfolding delivered
  its_checks xs =
      rw (filled_holding 255 d)
      (data_limit dcs udl (length d) wd later xs
      ∙ rw (canonical_reads f wf, read_checked f wf ((NotATime unless is_time (filled (time_in t))) ∷ []) xs, filled_holding 14 (time_digits t), check_holds (digits_time t ot (sym wt)) NotATime [] xs, no_checks))

  its_making : delivering r ≡ answered octets
  unfolding delivering delivered holding
  its_making =
      let short : length (time_digits t) ≤ 14 = omega (arith, length_digits t) in
      let few : length d ≤ 255 = omega (arith, data_at_most (coding_of dcs) udl) in
      check_holds (fits r (rw (canonical_reads f wf) (length_short f wf)) short few) LengthTooLarge _ (octets_of r)
      ∙ check_holds mti WrongMessageType (data_checks dcs udl (length (filled r.tp_user_data)) ++ later) (octets_of r)
      ∙ its_checks (octets_of r) ∙ ap answered its_octets

delivered_makes : Makes (Writes cleared delivering octets_of) format
unfolding format fields
delivered_makes x hx mti f wf pid hp dcs hd t ot wt udl hu d od wd = record {
  octets = ap octets_of (made_cleared _) ∙ its_octets x mti f wf pid dcs t ot wt udl hu d wd ∙ rw append-nil;
  answer = rw (its_making x mti f wf pid dcs t ot wt udl hu d wd) (answers_two (ltb 12 (length (canonical_address f))) (ltb 140 (length d)) AddressTooLong UserDataTooLong _ _ (rw append-nil));
}

-- demand 3 of DELIVER
pub deliver_demand3 : Demand3 cleared deliver delivering false
deliver_demand3 = demand3 cleared delivering octets_of format delivered_makes

-- what the writer makes of a record that was read, whatever the buffer
pub deliver_answers : (s : List ℕ) → Octets s → (r : SmsDeliver) (n : ℕ) → read deliver s ≡ reached r n → Answers (delivering r) (canonical_of deliver s) (unwritable deliver false s)
deliver_answers = answers_plain cleared delivering octets_of format delivered_makes
