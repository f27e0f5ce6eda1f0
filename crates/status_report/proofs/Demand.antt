-- Demand 3 of STATUS-REPORT, and that its writer looks at nothing that is no part of a record.
-- Assumes nothing.
use Prim.Native.Nat.{ℕ, ◌≤◌}
use mathlib.Core.Path.{◌≡◌, refl, sym, ap, ◌∙◌}
use mathlib.Core.Bool.{true, false}
use mathlib.Core.List.{List, [], ◌∷◌, ◌++◌, append-nil}
use native.Mathlib.Omega.{arith}
use borrow.Author.Tests.{eqb-true}
use lib.Dec.{eqb, ltb}
use lib.ListN.{length}
use Rattle.octets.specs.Checks.{checked}
use Rattle.std.specs.Prelude.{if◌then◌else◌, Some, None, Option}
use Rattle.octets.specs.Each.{Octets}
use Rattle.octets.specs.Lent.{refused}
use Rattle.octets.specs.declared.Refusal.TheVariants.{LengthTooLarge, NotATime, AddressTooLong}
use Rattle.octets.specs.Held.{holding}
use Rattle.octets.proofs.Holding.{filled_holding, holding_cleared}
use Rattle.octets.proofs.Checks.{check_holds}
use Rattle.octets.proofs.Laws.{take_cleared}
use Rattle.time.specs.Time.{time_digits}
use Rattle.time.proofs.Laws.{octets_back, digits_time, length_digits}
use Rattle.address.specs.Address.{canonical_address}
use Rattle.address.proofs.Laws.{address_cleared, canonical_reads, octets_again, length_short, read_checked, Field as AddressField}
use Rattle.layout.specs.Demand.{Demand3}
use Rattle.layout.specs.Layout.{Field, any, first, octet, octets, address, indicator, done, stands_as, joined, any_past_limit, message_type, kept, first_octet, reached, read, canonical_of, unwritable}
use Rattle.layout.proofs.FirstOctet.{flags_in, told_first}
use Rattle.layout.proofs.Makes.{Makes, makes_then}
use Rattle.layout.proofs.Demand.{Answers, answers_checked, Writes, demand3, answers_plain}
use Rattle.parameters.specs.Layout.{parameters}
use Rattle.parameters.specs.Optional.{octets_held}
use Rattle.parameters.specs.Parameters.{Parameters, parameters_octets, no_parameters}
use Rattle.parameters.proofs.Checking.{answers}
use Rattle.parameters.proofs.Made.{Held, parameters_make}
use Rattle.status_report.proofs.RecordWritten.{fits}
use Rattle.status_report.specs.declared.SmsStatusReport.{SmsStatusReport}
use Rattle.status_report.specs.Layout.{Fields, bits, fields}
use Rattle.status_report.specs.Internal.{fields_with}
use Rattle.status_report.specs.StatusReport.{status_reported, format, status_report, octets_of, optional_checks, status_reporting_within, status_reporting, cleared, Typed}

-- ---- what is no part of a record

-- what lies after the lengths is not written
of_cleared : (limit : ℕ) (r : SmsStatusReport) → Typed r → status_reporting_within limit (cleared r) ≡ status_reporting_within limit r
unfolding status_reporting_within
of_cleared limit r (a, t, u, d) =
    rw (
      take_cleared 290 r.tp_recipient_address.address.length r.tp_recipient_address.address.octets a,
      take_cleared 14 r.tp_service_centre_timestamp.length r.tp_service_centre_timestamp.octets t,
      take_cleared 14 r.tp_discharge_time.length r.tp_discharge_time.octets u,
      take_cleared 255 r.tp_user_data.length r.tp_user_data.octets d,
    )

-- equal records are written alike
pub written_alike : (limit : ℕ) (r q : SmsStatusReport) → Typed r → Typed q → cleared r ≡ cleared q → status_reporting_within limit r ≡ status_reporting_within limit q
written_alike limit r q f g e = sym (of_cleared limit r f) ∙ ap (status_reporting_within limit) e ∙ of_cleared limit q g

-- a record that was made of fields is cleared
pub made_cleared : (x : Fields) → cleared (status_reported x) ≡ status_reported x
unfolding status_reported
made_cleared x = rw (address_cleared x.ra, holding_cleared 14 (time_digits x.scts), holding_cleared 14 (time_digits x.dt), holding_cleared 255 x.held.ud)

-- ---- a record that was read: its octets, and how its checks fare

module _ (x : ℕ) (mti : eqb (message_type (kept bits x)) 2 ≡ true) (mr : ℕ) (f : List ℕ) (wf : AddressField f) (t : List ℕ) (ot : Octets t) (wt : 7 ≡ length t) (u : List ℕ) (ou : Octets u) (wu : 7 ≡ length u) (st : ℕ) where
  abbrev make : Option ℕ → Parameters → SmsStatusReport
  make pi p = status_reported (fields_with (kept bits x) mr (canonical_address f) t u st pi p)

  -- the fields up to status, and these
  abbrev to_status : List Field → List Field
  to_status cs = stands_as (first bits) (kept bits x ∷ []) ∷ stands_as octet (mr ∷ []) ∷ stands_as address (canonical_address f) ∷ stands_as (octets any 7) t ∷ stands_as (octets any 7) u ∷ stands_as octet (st ∷ []) ∷ cs

  module _ (pi : Option ℕ) (p : Parameters) (few : length p.ud ≤ 255) where
    abbrev octets_read : List ℕ
    octets_read = kept bits x ∷ mr ∷ (canonical_address f ++ (t ++ (u ++ (st ∷ (octets_held pi ++ parameters_octets p)))))

    its_octets : octets_of (make pi p) ≡ octets_read
    unfolding status_reported
    its_octets = rw (canonical_reads f wf, ap (λ n. first_octet n (flags_in bits (kept bits x))) (sym (eqb-true _ 2 mti)) ∙ told_first bits refl x, octets_again f wf, filled_holding 14 (time_digits t), filled_holding 14 (time_digits u), octets_back t ot, octets_back u ou, filled_holding 255 p.ud)

    its_making : status_reporting (make pi p) ≡ (if ltb 12 (length (canonical_address f)) then refused AddressTooLong else checked (optional_checks 140 pi p) octets_read)
    unfolding status_reporting_within status_reported holding
    its_making =
        let short : length (time_digits t) ≤ 14 = omega (arith, length_digits t) in
        let brief : length (time_digits u) ≤ 14 = omega (arith, length_digits u) in
        rw (check_holds (fits (make pi p) (rw (canonical_reads f wf) (length_short f wf)) short brief few) LengthTooLarge, its_octets)
        (rw (canonical_reads f wf, filled_holding 255 p.ud, read_checked f wf)
        (rw (filled_holding 14 (time_digits t), filled_holding 14 (time_digits u), check_holds (digits_time t ot (sym wt)) NotATime, check_holds (digits_time u ou (sym wu)) NotATime)))

    -- after the fields up to status stand those of indicator and parameters
    module _ (cs : List Field) (j : octets_held pi ++ parameters_octets p ≡ joined cs) (a : (xs : List ℕ) → Answers (checked (optional_checks 140 pi p) xs) xs (any_past_limit cs)) where
      written : Writes cleared status_reporting octets_of (make pi p) (to_status cs)
      written = record {
        octets = ap octets_of (made_cleared _) ∙ its_octets ∙ rw j;
        answer = rw (its_making, ← j) (answers_checked (ltb 12 (length (canonical_address f))) AddressTooLong _ octets_read (any_past_limit cs) (a octets_read));
      }

  ended : Writes cleared status_reporting octets_of (make None no_parameters) (to_status [])
  unfolding optional_checks checked
  ended = written None no_parameters (omega arith) [] refl (λ xs. refl)

  with_indicator_lem : (i : ℕ) (p : Parameters) (ds : List Field) → Held i p ds
      → Writes cleared status_reporting octets_of (make (Some i) p) (to_status (stands_as indicator (i ∷ []) ∷ ds))
  unfolding optional_checks
  with_indicator_lem i p ds h = written (Some i) p h.few (stands_as indicator (i ∷ []) ∷ ds) (ap (λ (xs : List ℕ). i ∷ xs) h.octets) (λ xs. answers h.agrees h.limit xs)

fields_make : Makes (λ x cs. Writes cleared status_reporting octets_of (status_reported x) cs) fields
unfolding fields
fields_make x hx mti mr hm f wf t ot wt u ou wu st hs = (
  ended x mti mr f wf t ot wt u ou wu st,
  λ i low. makes_then (Held i) _ (parameters i) _ (parameters_make i) λ p ds h. rw append-nil (with_indicator_lem x mti mr f wf t ot wt u ou wu st i p ds h),
)

reported_makes : Makes (Writes cleared status_reporting octets_of) format
unfolding format
reported_makes = makes_then (λ x cs. Writes cleared status_reporting octets_of (status_reported x) cs) (Writes cleared status_reporting octets_of) fields (λ x. done (status_reported x)) fields_make λ x cs w. rw append-nil w

-- demand 3 of STATUS-REPORT
pub status_report_demand3 : Demand3 cleared status_report status_reporting false
status_report_demand3 = demand3 cleared status_reporting octets_of format reported_makes

-- what the writer makes of a record that was read, whatever the buffer
pub status_report_answers : (s : List ℕ) → Octets s → (r : SmsStatusReport) (n : ℕ) → read status_report s ≡ reached r n → Answers (status_reporting r) (canonical_of status_report s) (unwritable status_report false s)
status_report_answers = answers_plain cleared status_reporting octets_of format reported_makes
