-- Demand 3 of DELIVER-REPORT's two readers with its writer, and that this looks at nothing that is no part of a record; the outcome of the records that are read.
-- Assumes nothing.
use Prim.Native.Nat.{ℕ}
use mathlib.Core.Path.{◌≡◌, refl, sym, ap, ◌∙◌}
use mathlib.Core.Bool.{true, false}
use mathlib.Core.List.{List, [], ◌∷◌}
use native.Mathlib.Omega.{arith}
use borrow.Author.Tests.{le-leb}
use lib.ListN.{length}
use Rattle.octets.specs.Checks.{checked}
use Rattle.octets.specs.Each.{Octets, each}
use Rattle.octets.specs.Held.{holding}
use Rattle.octets.proofs.Holding.{filled_holding, holding_cleared}
use Rattle.octets.proofs.Each.{octets_tested}
use Rattle.octets.proofs.Laws.{take_cleared}
use Rattle.layout.specs.Demand.{Demand3}
use Rattle.layout.specs.Layout.{Field, joined, any_past_limit, Format, done, ◌then◌, kept, indicator_size, reached, after, reading, read_from, fields_of, read, canonical_of, unwritable}
use Rattle.layout.proofs.Demand.{Answers, Stopped, stopped_in_format}
use Rattle.parameters.specs.Layout.{parameters}
use Rattle.parameters.specs.Outcome.{OneOutcome}
use Rattle.parameters.specs.declared.RpOutcome.{RpOutcome}
use Rattle.parameters.specs.declared.RpOutcome.TheVariants.{RpAck, RpError}
use Rattle.report.specs.Report.{Fields, format, octets_of, checks_within}
use Rattle.report.specs.Internal.{making as reportMaking}
use Rattle.report.proofs.Made as made
use Rattle.report.proofs.OneOutcome.{one_outcome}
use Rattle.deliver_report.specs.DeliverReport.{deliver_reported, stopped, layout_of, fields_in, standard_limit, deliver_reporting_within, deliver_reporting, deliver_reporting_to_standard, cleared, with_outcome, Typed}
use Rattle.deliver_report.specs.declared.SmsDeliverReport.{SmsDeliverReport}
use Rattle.deliver_report.proofs.RecordWritten.{by_fields}

-- ---- what is no part of a record

-- what lies after the length is not written
of_cleared : (limit : ℕ) (r : SmsDeliverReport) → Typed r → deliver_reporting_within limit (cleared r) ≡ deliver_reporting_within limit r
unfolding deliver_reporting_within
of_cleared limit r d = rw (take_cleared 255 r.tp_user_data.length r.tp_user_data.octets d)

-- equal records are written alike, within a limit and to the standard
pub written_alike : (limit : ℕ) (r q : SmsDeliverReport) → Typed r → Typed q → cleared r ≡ cleared q → deliver_reporting_within limit r ≡ deliver_reporting_within limit q
written_alike limit r q f g e = sym (of_cleared limit r f) ∙ ap (deliver_reporting_within limit) e ∙ of_cleared limit q g

pub standard_written_alike : (r q : SmsDeliverReport) → Typed r → Typed q → cleared r ≡ cleared q → deliver_reporting_to_standard r ≡ deliver_reporting_to_standard q
standard_written_alike r q f g e = written_alike _ r q f g e ∙ ap (λ (o : SmsDeliverReport). deliver_reporting_within (standard_limit o.tp_failure_cause) q) e

-- a record that was made of fields is cleared
pub made_cleared : (x : Fields) → cleared (deliver_reported x) ≡ deliver_reported x
unfolding deliver_reported
made_cleared x = rw (holding_cleared 255 x.parameters.ud)

-- ---- a record that was read

abbrev written : SmsDeliverReport → List ℕ
written r = octets_of 0 (fields_in r)

-- it has no time
none : (t : List ℕ) → 0 ≡ length t → t ≡ []
none [] e = refl
none (y ∷ t) e = absurd (omega arith)

module _ (outcome : RpOutcome) (x : Fields) (cs : List Field) (h : made.Stands 0 false outcome x cs) where
  held : written (cleared (deliver_reported x)) ≡ octets_of 0 x
  unfolding deliver_reported
  held = ap written (made_cleared x) ∙ rw (filled_holding 255 x.parameters.ud, none x.scts h.time_size)

  making : deliver_reporting (deliver_reported x) ≡ checked (checks_within 140 true x) (octets_of 0 x)
  unfolding deliver_reported holding reportMaking
  making = by_fields 140 (deliver_reported x) (le-leb (length x.parameters.ud) 255 h.few) h.agrees ∙ rw (filled_holding 255 x.parameters.ud, none x.scts h.time_size)

-- ---- demand 3, and what the writer makes of a record that was read, whatever the buffer

pub ack_demand3 : Demand3 cleared (layout_of RpAck) deliver_reporting false
ack_demand3 = made.ack_demand3 0 false deliver_reported cleared deliver_reporting written held making

pub ack_answers : (s : List ℕ) → Octets s → (r : SmsDeliverReport) (n : ℕ) → read (layout_of RpAck) s ≡ reached r n → Answers (deliver_reporting r) (canonical_of (layout_of RpAck) s) (unwritable (layout_of RpAck) false s)
ack_answers = made.ack_answers 0 false deliver_reported cleared deliver_reporting written held making

-- the octets of the stopped RP-ERROR are a string of the layout, which gives its record
abbrev stands : List ℕ
stands = 0x00 ∷ 0xff ∷ 0x00 ∷ []

abbrev format_of : Format SmsDeliverReport
format_of = format 0 false RpError then λ x. done (deliver_reported x)

stands_in_format : (read_from format_of stands 0 ≡ reached stopped 3) × (joined (fields_of format_of stands) ≡ stands) × (any_past_limit (fields_of format_of stands) ≡ false)
unfolding format read_from reading after fields_of parameters kept indicator_size
stands_in_format = (refl, refl, refl)

are_octets : Octets stands
unfolding each
are_octets = octets_tested stands refl

-- so it is beside the layout's records, and is written
beside : Stopped cleared deliver_reporting format_of stands stopped false
beside =
    let (e, j, n) = stands_in_format in
    rw n at (stopped_in_format cleared deliver_reporting written format_of (made.records_make 0 false deliver_reported cleared deliver_reporting written held making RpError) stands stopped are_octets e j)

pub error_demand3 : Demand3 cleared (layout_of RpError) deliver_reporting false
error_demand3 = made.error_demand3 0 false deliver_reported cleared deliver_reporting written held making false beside

pub error_answers : (s : List ℕ) → Octets s → (r : SmsDeliverReport) (n : ℕ) → read (layout_of RpError) s ≡ reached r n → Answers (deliver_reporting r) (canonical_of (layout_of RpError) s) (unwritable (layout_of RpError) false s)
error_answers = made.error_answers 0 false deliver_reported cleared deliver_reporting written held making false beside

-- ---- the outcome is that of the entry point

pub outcome_read : (outcome : RpOutcome) → OneOutcome cleared (λ r. r.rp_outcome) with_outcome (layout_of outcome) outcome
unfolding deliver_reported
outcome_read outcome = one_outcome cleared (λ r. r.rp_outcome) with_outcome (λ r. refl) (λ r. refl) (λ o p r. refl) deliver_reported (λ x. refl) 0 false outcome
