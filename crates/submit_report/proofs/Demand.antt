-- Demand 3 of SUBMIT-REPORT's two readers with its writer, and that this looks at nothing that is no part of a record; the outcome of the records that are read.
-- Assumes nothing.
use Prim.Native.Nat.{ℕ, ◌≤◌}
use mathlib.Core.Path.{◌≡◌, refl, sym, ap, ◌∙◌}
use mathlib.Core.Bool.{Bool, true, false}
use mathlib.Core.List.{List, [], ◌∷◌, append-nil}
use native.Mathlib.Omega.{arith}
use borrow.Author.Tests.{le-leb}
use lib.Dec.{eqb}
use lib.ListN.{length, length-append}
use Rattle.octets.specs.Checks.{checked}
use Rattle.octets.specs.Choice.{flag}
use Rattle.octets.specs.Each.{Octets}
use Rattle.octets.specs.Lent.{refused}
use Rattle.octets.specs.declared.Refusal.TheVariants.{NotATime}
use Rattle.octets.specs.Held.{holding}
use Rattle.octets.proofs.Holding.{filled_holding, holding_cleared}
use Rattle.octets.proofs.Laws.{take_cleared}
use Rattle.time.specs.Time.{is_time, time_digits}
use Rattle.time.proofs.Laws.{length_digits, digits_time, octets_back}
use Rattle.layout.specs.Demand.{Demand3}
use Rattle.layout.specs.Layout.{Field, joined, Format, done, ◌then◌, reached, read, canonical_of, unwritable}
use Rattle.layout.proofs.Demand.{Answers, Stopped, stopped_apart}
use Rattle.layout.proofs.Makes.{Makes, makes_then}
use Rattle.parameters.specs.Checking.{indicator_checks}
use Rattle.parameters.specs.Outcome.{OneOutcome}
use Rattle.parameters.specs.declared.RpOutcome.{RpOutcome}
use Rattle.parameters.specs.declared.RpOutcome.TheVariants.{RpAck, RpError}
use Rattle.report.specs.Report.{Fields, format, octets_of, checks_within}
use Rattle.report.specs.Internal.{making as reportMaking}
use Rattle.report.proofs.Made as made
use Rattle.report.proofs.OneOutcome.{one_outcome}
use Rattle.submit_report.specs.SubmitReport.{submit_reported, stopped, layout_of, fields_in, standard_limit, submit_reporting_within, submit_reporting, submit_reporting_to_standard, cleared, with_outcome, Typed}
use Rattle.submit_report.specs.declared.SmsSubmitReport.{SmsSubmitReport}
use Rattle.submit_report.proofs.RecordWritten.{by_fields}

-- ---- what is no part of a record

-- what lies after a length is not written
of_cleared : (limit : ℕ) (r : SmsSubmitReport) → Typed r → submit_reporting_within limit (cleared r) ≡ submit_reporting_within limit r
unfolding submit_reporting_within
of_cleared limit r (t, d) =
    rw (take_cleared 14 r.tp_service_centre_timestamp.length r.tp_service_centre_timestamp.octets t, take_cleared 255 r.tp_user_data.length r.tp_user_data.octets d)

-- equal records are written alike, within a limit and to the standard
pub written_alike : (limit : ℕ) (r q : SmsSubmitReport) → Typed r → Typed q → cleared r ≡ cleared q → submit_reporting_within limit r ≡ submit_reporting_within limit q
written_alike limit r q f g e = sym (of_cleared limit r f) ∙ ap (submit_reporting_within limit) e ∙ of_cleared limit q g

pub standard_written_alike : (r q : SmsSubmitReport) → Typed r → Typed q → cleared r ≡ cleared q → submit_reporting_to_standard r ≡ submit_reporting_to_standard q
standard_written_alike r q f g e = written_alike _ r q f g e ∙ ap (λ (o : SmsSubmitReport). submit_reporting_within (standard_limit o.tp_failure_cause) q) e

-- a record that was made of fields is cleared
pub made_cleared : (x : Fields) → cleared (submit_reported x) ≡ submit_reported x
unfolding submit_reported
made_cleared x = rw (holding_cleared 14 (time_digits x.scts), holding_cleared 255 x.parameters.ud)

-- ---- a record that was read

abbrev written : SmsSubmitReport → List ℕ
written r = octets_of 1 (fields_in r)

-- UDHI as a number tells it
pub flag_told : (udhi : Bool) → eqb (flag udhi 1) 1 ≡ udhi
flag_told true = refl
flag_told false = refl

flag_small : (udhi : Bool) → flag udhi 1 ≤ 1
flag_small true = omega arith
flag_small false = omega arith

module _ (outcome : RpOutcome) (x : Fields) (cs : List Field) (h : made.Stands 1 true outcome x cs) where
  held : written (cleared (submit_reported x)) ≡ octets_of 1 x
  unfolding submit_reported
  held = ap written (made_cleared x) ∙ rw (flag_told x.udhi, filled_holding 14 (time_digits x.scts), octets_back x.scts h.time_octets, filled_holding 255 x.parameters.ud)

  making : submit_reporting (submit_reported x) ≡ checked (checks_within 140 true x) (octets_of 1 x)
  unfolding submit_reported holding reportMaking
  making =
      by_fields 140 (submit_reported x) (rw (le-leb (length (time_digits x.scts)) 14 (omega (arith, length_digits x.scts, h.time_size)), le-leb (length x.parameters.ud) 255 h.few)) h.agrees (flag_small x.udhi)
      ∙ rw (flag_told x.udhi, filled_holding 14 (time_digits x.scts), octets_back x.scts h.time_octets, digits_time x.scts h.time_octets (sym h.time_size), filled_holding 255 x.parameters.ud)

-- ---- demand 3, and what the writer makes of a record that was read, whatever the buffer

pub ack_demand3 : Demand3 cleared (layout_of RpAck) submit_reporting false
ack_demand3 = made.ack_demand3 1 true submit_reported cleared submit_reporting written held making

pub ack_answers : (s : List ℕ) → Octets s → (r : SmsSubmitReport) (n : ℕ) → read (layout_of RpAck) s ≡ reached r n → Answers (submit_reporting r) (canonical_of (layout_of RpAck) s) (unwritable (layout_of RpAck) false s)
ack_answers = made.ack_answers 1 true submit_reported cleared submit_reporting written held making

-- the stopped RP-ERROR has no time: no string of the layout gives its record or stands as its octets, and it is refused
abbrev stands : List ℕ
stands = 0x01 ∷ 0xff ∷ 0x00 ∷ []

abbrev format_of : Format SmsSubmitReport
format_of = format 1 true RpError then λ x. done (submit_reported x)

no_time : (x : Fields) → 7 ≡ length x.scts → cleared stopped ≡ cleared (submit_reported x) → ⊥
unfolding submit_reported holding
no_time x w e = omega (arith, ap (λ (q : SmsSubmitReport). q.tp_service_centre_timestamp.length) e, length_digits [], length_digits x.scts)

longer : (x : Fields) (cs : List Field) → 7 ≡ length x.scts → octets_of 1 x ≡ joined cs → stands ≡ joined cs → ⊥
longer x cs w e f = let n : 3 ≡ length (octets_of 1 x) = ap length (f ∙ sym e) in omega (arith, simp length-append at n)

apart : Makes (λ r cs. (cleared stopped ≡ cleared r → ⊥) × (stands ≡ joined cs → ⊥)) format_of
apart = makes_then (made.Stands 1 true RpError) _ (format 1 true RpError) _ (made.format_makes 1 true RpError) λ x cs h. (no_time x h.time_size, rw append-nil (longer x cs h.time_size h.octets))

stopped_refused : submit_reporting stopped ≡ refused NotATime
unfolding submit_reporting_within submit_reported holding time_digits checked indicator_checks is_time
stopped_refused = refl

beside : Stopped cleared submit_reporting format_of stands stopped true
beside = stopped_apart cleared submit_reporting format_of stands stopped apart stopped_refused

pub error_demand3 : Demand3 cleared (layout_of RpError) submit_reporting true
error_demand3 = made.error_demand3 1 true submit_reported cleared submit_reporting written held making true beside

pub error_answers : (s : List ℕ) → Octets s → (r : SmsSubmitReport) (n : ℕ) → read (layout_of RpError) s ≡ reached r n → Answers (submit_reporting r) (canonical_of (layout_of RpError) s) (unwritable (layout_of RpError) true s)
error_answers = made.error_answers 1 true submit_reported cleared submit_reporting written held making true beside

-- ---- the outcome is that of the entry point

pub outcome_read : (outcome : RpOutcome) → OneOutcome cleared (λ r. r.rp_outcome) with_outcome (layout_of outcome) outcome
unfolding submit_reported
outcome_read outcome = one_outcome cleared (λ r. r.rp_outcome) with_outcome (λ r. refl) (λ r. refl) (λ o p r. refl) submit_reported (λ x. refl) 1 true outcome
