-- Demands 2 and 3 (document 01) of the five messages, a line for each reader and writer, as layout/specs/Demand.antt says them.
-- Demand 3: the reader takes a string exactly when the layout generates it; two records that were read are equal exactly when the canonical octets are; and the writer of a record that was read puts exactly
-- the canonical octets into any buffer that is long enough, except where `unwritable` has one of document 01's four cases. The last argument says whether the kind's writer refuses the stopped record.
-- Demand 2: what a writer wrote is read back as the same record, time letters capital, by the reader of its outcome; SUBMIT's reader may answer 17 or 18, exactly where `header_answer` says so, and never without UDHI.
-- The three writers to the standard's limits (`encode_to_standard`): they read back too, and differ from the ported ones in the limit of user data alone.
-- Cut messages (document 02, Ask 9), as layout/specs/Cut.antt says them: each proper beginning of what a writer wrote is refused with 2 by the reader of that kind and outcome; the one exception is a STATUS-REPORT
-- written with an indicator, cut just after status.
-- Assumes nothing.
use Prim.Native.Nat.{ℕ}
use mathlib.Core.Bool.{true, false}
use mathlib.Core.List.{List}
use mathlib.Core.Option.{none}
use mathlib.Core.Path.{◌≡◌, refl, ap}
use lib.ListN.{length}
use Rattle.std.specs.Prelude.{Ok}
use Rattle.std.specs.Result.{result_map_both}
use Rattle.octets.specs.Answers.{fine}
use Rattle.octets.specs.declared.Refusal.{Refusal}
use Rattle.octets.specs.Held.{filled}
use Rattle.layout.specs.Cut.{Cut, AnswersCut}
use Rattle.layout.specs.Demand.{Demand2, Demand3, Answers2, Answers3}
use Rattle.layout.specs.Layout.{Reached, reached, halted, answer, alone}
use Rattle.layout.proofs.Answered.{answers2, answers3, answers_cut}
use Rattle.parameters.specs.Limits.{Limits}
use Rattle.parameters.specs.Outcome.{OneOutcome}
use Rattle.parameters.specs.declared.RpOutcome.TheVariants.{RpAck, RpError}
use Rattle.submit.specs.Submit as Submit
use Rattle.submit.specs.declared.SmsSubmit.{SmsSubmit}
use Rattle.submit.specs.declared.SubmitRead.{SubmitRead}
use Rattle.submit.proofs.Demand.{submit_demand3}
use Rattle.deliver.specs.Deliver as Deliver
use Rattle.deliver.specs.Deliver.{DeliverRead}
use Rattle.deliver.specs.declared.SmsDeliver.{SmsDeliver}
use Rattle.deliver.proofs.Demand.{deliver_demand3}
use Rattle.submit_report.specs.SubmitReport as SubmitReport
use Rattle.submit_report.specs.SubmitReport.{SubmitReportRead}
use Rattle.submit_report.specs.declared.SmsSubmitReport.{SmsSubmitReport}
use Rattle.submit_report.proofs.Demand.{ack_demand3 as submit-ack, error_demand3 as submit-error, outcome_read as submit-outcome}
use Rattle.submit_report.proofs.Limits.{submit_report_limits}
use Rattle.deliver_report.specs.DeliverReport as DeliverReport
use Rattle.deliver_report.specs.DeliverReport.{DeliverReportRead}
use Rattle.deliver_report.specs.declared.SmsDeliverReport.{SmsDeliverReport}
use Rattle.deliver_report.proofs.Demand.{ack_demand3 as deliver-ack, error_demand3 as deliver-error, outcome_read as deliver-outcome}
use Rattle.deliver_report.proofs.Limits.{deliver_report_limits}
use Rattle.status_report.specs.StatusReport as StatusReport
use Rattle.status_report.specs.StatusReport.{StatusReportRead}
use Rattle.status_report.specs.declared.SmsStatusReport.{SmsStatusReport}
use Rattle.status_report.proofs.Demand.{status_report_demand3}
use Rattle.status_report.proofs.Limits.{status_report_limits}
use Rattle.demands.specs.Cuts.{cut_after_status, without_indicator}
use Rattle.demands.proofs.SubmitBack.{submit_demand2, submit_ends, submit_counts}
use Rattle.demands.proofs.DeliverBack.{deliver_demand2, deliver_ends, deliver_counts}
use Rattle.demands.proofs.SubmitReportBack.{submit_report_demand2, submit_report_ends, submit_report_counts}
use Rattle.demands.proofs.DeliverReportBack.{deliver_report_demand2, deliver_report_ends, deliver_report_counts}
use Rattle.demands.proofs.StatusReportBack.{status_report_demand2, status_report_ends, status_report_counts}

-- ---- demand 3, of the seven readers

-- `decode_sms_submit_tpdu`
pub of_submit : Demand3 Submit.cleared Submit.submit Submit.submitting false
of_submit = submit_demand3

-- `SmsDeliver::decode`
pub of_deliver : Demand3 Deliver.cleared Deliver.deliver Deliver.delivering false
of_deliver = deliver_demand3

-- `SmsSubmitReport::decode_for_rp_ack`
pub of_submit_report_ack : Demand3 SubmitReport.cleared (SubmitReport.layout_of RpAck) SubmitReport.submit_reporting false
of_submit_report_ack = submit-ack

-- `SmsSubmitReport::decode_for_rp_error`
pub of_submit_report_error : Demand3 SubmitReport.cleared (SubmitReport.layout_of RpError) SubmitReport.submit_reporting true
of_submit_report_error = submit-error

-- `SmsDeliverReport::decode_for_rp_ack`
pub of_deliver_report_ack : Demand3 DeliverReport.cleared (DeliverReport.layout_of RpAck) DeliverReport.deliver_reporting false
of_deliver_report_ack = deliver-ack

-- `SmsDeliverReport::decode_for_rp_error`
pub of_deliver_report_error : Demand3 DeliverReport.cleared (DeliverReport.layout_of RpError) DeliverReport.deliver_reporting false
of_deliver_report_error = deliver-error

-- `SmsStatusReport::decode`
pub of_status_report : Demand3 StatusReport.cleared StatusReport.status_report StatusReport.status_reporting false
of_status_report = status_report_demand3

-- ---- demand 2, of the five writers

pub submit_back : Demand2 Submit.Typed Submit.compared Submit.capitalised (λ r. Submit.submit) Submit.submitting Submit.header_answer (λ r. r.tp_udhi)
submit_back = submit_demand2

pub deliver_back : Demand2 Deliver.Typed Deliver.cleared Deliver.capitalised (λ r. Deliver.deliver) Deliver.delivering (λ r. fine) (λ r. false)
deliver_back = deliver_demand2

pub submit_report_back : Demand2 SubmitReport.Typed SubmitReport.cleared SubmitReport.capitalised (λ r. SubmitReport.layout_of r.rp_outcome) SubmitReport.submit_reporting (λ r. fine) (λ r. false)
submit_report_back = submit_report_demand2 (λ r. 140)

pub deliver_report_back : Demand2 DeliverReport.Typed DeliverReport.cleared (λ r. r) (λ r. DeliverReport.layout_of r.rp_outcome) DeliverReport.deliver_reporting (λ r. fine) (λ r. false)
deliver_report_back = deliver_report_demand2 (λ r. 140)

pub status_report_back : Demand2 StatusReport.Typed StatusReport.cleared StatusReport.capitalised (λ r. StatusReport.status_report) StatusReport.status_reporting (λ r. fine) (λ r. false)
status_report_back = status_report_demand2 140

-- ---- both, of what the public functions answer

-- a reader's answer (`answer (read_with s)` in its contract) has the record that was read, of which the laws below speak, or the same refusal
message_of : {R A : Type 0} (gives : R → ℕ → A) (message : A → R) → ((r : R) (at : ℕ) → message (gives r at) ≡ r) → (x : Reached R) → result_map_both message (λ (why : Refusal). why) (answer gives x) ≡ answer alone x
message_of gives message is (reached r at) = ap Ok (is r at)
message_of gives message is (halted why) = refl

pub submit_message : (s : List ℕ) (x : Reached SmsSubmit) → result_map_both (λ (a : SubmitRead). a.message) (λ (why : Refusal). why) (answer (Submit.read_with s) x) ≡ answer alone x
submit_message s = message_of _ _ λ r at. refl

pub deliver_message : (s : List ℕ) (x : Reached SmsDeliver) → result_map_both (λ (a : DeliverRead). a.message) (λ (why : Refusal). why) (answer (Deliver.read_with s) x) ≡ answer alone x
deliver_message s = message_of _ _ λ r at. refl

pub submit_report_message : (s : List ℕ) (x : Reached SmsSubmitReport) → result_map_both (λ (a : SubmitReportRead). a.message) (λ (why : Refusal). why) (answer (SubmitReport.read_with s) x) ≡ answer alone x
submit_report_message s = message_of _ _ λ r at. refl

pub deliver_report_message : (s : List ℕ) (x : Reached SmsDeliverReport) → result_map_both (λ (a : DeliverReportRead). a.message) (λ (why : Refusal). why) (answer (DeliverReport.read_with s) x) ≡ answer alone x
deliver_report_message s = message_of _ _ λ r at. refl

pub status_report_message : (s : List ℕ) (x : Reached SmsStatusReport) → result_map_both (λ (a : StatusReportRead). a.message) (λ (why : Refusal). why) (answer (StatusReport.read_with s) x) ≡ answer alone x
status_report_message s = message_of _ _ λ r at. refl

pub submit_answers3 : Answers3 Submit.cleared Submit.submit Submit.submitting false
submit_answers3 = answers3 _ _ _ _ of_submit

pub deliver_answers3 : Answers3 Deliver.cleared Deliver.deliver Deliver.delivering false
deliver_answers3 = answers3 _ _ _ _ of_deliver

pub submit_report_ack_answers3 : Answers3 SubmitReport.cleared (SubmitReport.layout_of RpAck) SubmitReport.submit_reporting false
submit_report_ack_answers3 = answers3 _ _ _ _ of_submit_report_ack

pub submit_report_error_answers3 : Answers3 SubmitReport.cleared (SubmitReport.layout_of RpError) SubmitReport.submit_reporting true
submit_report_error_answers3 = answers3 _ _ _ _ of_submit_report_error

pub deliver_report_ack_answers3 : Answers3 DeliverReport.cleared (DeliverReport.layout_of RpAck) DeliverReport.deliver_reporting false
deliver_report_ack_answers3 = answers3 _ _ _ _ of_deliver_report_ack

pub deliver_report_error_answers3 : Answers3 DeliverReport.cleared (DeliverReport.layout_of RpError) DeliverReport.deliver_reporting false
deliver_report_error_answers3 = answers3 _ _ _ _ of_deliver_report_error

pub status_report_answers3 : Answers3 StatusReport.cleared StatusReport.status_report StatusReport.status_reporting false
status_report_answers3 = answers3 _ _ _ _ of_status_report

pub submit_answers2 : Answers2 Submit.Typed Submit.compared Submit.capitalised (λ r. Submit.submit) Submit.submitting Submit.header_answer
submit_answers2 = answers2 _ _ _ _ _ _ _ submit_back submit_counts

pub deliver_answers2 : Answers2 Deliver.Typed Deliver.cleared Deliver.capitalised (λ r. Deliver.deliver) Deliver.delivering (λ r. fine)
deliver_answers2 = answers2 _ _ _ _ _ _ _ deliver_back deliver_counts

pub submit_report_answers2 : Answers2 SubmitReport.Typed SubmitReport.cleared SubmitReport.capitalised (λ r. SubmitReport.layout_of r.rp_outcome) SubmitReport.submit_reporting (λ r. fine)
submit_report_answers2 = answers2 _ _ _ _ _ _ _ submit_report_back (submit_report_counts (λ r. 140))

pub deliver_report_answers2 : Answers2 DeliverReport.Typed DeliverReport.cleared (λ r. r) (λ r. DeliverReport.layout_of r.rp_outcome) DeliverReport.deliver_reporting (λ r. fine)
deliver_report_answers2 = answers2 _ _ _ _ _ _ _ deliver_report_back (deliver_report_counts (λ r. 140))

pub status_report_answers2 : Answers2 StatusReport.Typed StatusReport.cleared StatusReport.capitalised (λ r. StatusReport.status_report) StatusReport.status_reporting (λ r. fine)
status_report_answers2 = answers2 _ _ _ _ _ _ _ status_report_back (status_report_counts 140)

-- ---- the three writers to the standard's limits

pub submit_report_standard_back : Demand2 SubmitReport.Typed SubmitReport.cleared SubmitReport.capitalised (λ r. SubmitReport.layout_of r.rp_outcome) SubmitReport.submit_reporting_to_standard (λ r. fine) (λ r. false)
submit_report_standard_back = submit_report_demand2 (λ r. SubmitReport.standard_limit r.tp_failure_cause)

pub deliver_report_standard_back : Demand2 DeliverReport.Typed DeliverReport.cleared (λ r. r) (λ r. DeliverReport.layout_of r.rp_outcome) DeliverReport.deliver_reporting_to_standard (λ r. fine) (λ r. false)
deliver_report_standard_back = deliver_report_demand2 (λ r. DeliverReport.standard_limit r.tp_failure_cause)

pub status_report_standard_back : Demand2 StatusReport.Typed StatusReport.cleared StatusReport.capitalised (λ r. StatusReport.status_report) StatusReport.status_reporting_to_standard (λ r. fine) (λ r. false)
status_report_standard_back = status_report_demand2 StatusReport.standard_limit

pub submit_report_standard_answers2 : Answers2 SubmitReport.Typed SubmitReport.cleared SubmitReport.capitalised (λ r. SubmitReport.layout_of r.rp_outcome) SubmitReport.submit_reporting_to_standard (λ r. fine)
submit_report_standard_answers2 = answers2 _ _ _ _ _ _ _ submit_report_standard_back (submit_report_counts (λ r. SubmitReport.standard_limit r.tp_failure_cause))

pub deliver_report_standard_answers2 : Answers2 DeliverReport.Typed DeliverReport.cleared (λ r. r) (λ r. DeliverReport.layout_of r.rp_outcome) DeliverReport.deliver_reporting_to_standard (λ r. fine)
deliver_report_standard_answers2 = answers2 _ _ _ _ _ _ _ deliver_report_standard_back (deliver_report_counts (λ r. DeliverReport.standard_limit r.tp_failure_cause))

pub status_report_standard_answers2 : Answers2 StatusReport.Typed StatusReport.cleared StatusReport.capitalised (λ r. StatusReport.status_report) StatusReport.status_reporting_to_standard (λ r. fine)
status_report_standard_answers2 = answers2 _ _ _ _ _ _ _ status_report_standard_back (status_report_counts StatusReport.standard_limit)

-- a record that both of a kind's writers accept has equal octets from both, and each accepts exactly those that it would but for the limit
pub submit_report_alike : Limits SubmitReport.submit_reporting_within (λ r. length (filled r.tp_user_data))
submit_report_alike = submit_report_limits

pub deliver_report_alike : Limits DeliverReport.deliver_reporting_within (λ r. length (filled r.tp_user_data))
deliver_report_alike = deliver_report_limits

pub status_report_alike : Limits StatusReport.status_reporting_within (λ r. length (filled r.tp_user_data))
status_report_alike = status_report_limits

-- ---- the outcome in both reports' records: that of the entry point, so that records of one reader are as equal or different as without it

pub submit_report_ack_outcome : OneOutcome SubmitReport.cleared (λ r. r.rp_outcome) SubmitReport.with_outcome (SubmitReport.layout_of RpAck) RpAck
submit_report_ack_outcome = submit-outcome RpAck

pub submit_report_error_outcome : OneOutcome SubmitReport.cleared (λ r. r.rp_outcome) SubmitReport.with_outcome (SubmitReport.layout_of RpError) RpError
submit_report_error_outcome = submit-outcome RpError

pub deliver_report_ack_outcome : OneOutcome DeliverReport.cleared (λ r. r.rp_outcome) DeliverReport.with_outcome (DeliverReport.layout_of RpAck) RpAck
deliver_report_ack_outcome = deliver-outcome RpAck

pub deliver_report_error_outcome : OneOutcome DeliverReport.cleared (λ r. r.rp_outcome) DeliverReport.with_outcome (DeliverReport.layout_of RpError) RpError
deliver_report_error_outcome = deliver-outcome RpError

-- ---- cut messages, of the eight writers: a report's line is that of both its writers, whatever the limit of user data (140, or `standard_limit`)

pub submit_cut : Cut Submit.Typed Submit.compared Submit.capitalised (λ r. Submit.submit) Submit.submitting (λ r. none) (λ r. r)
submit_cut = submit_ends

pub deliver_cut : Cut Deliver.Typed Deliver.cleared Deliver.capitalised (λ r. Deliver.deliver) Deliver.delivering (λ r. none) (λ r. r)
deliver_cut = deliver_ends

pub submit_report_cut : (limitOf : SmsSubmitReport → ℕ) → Cut SubmitReport.Typed SubmitReport.cleared SubmitReport.capitalised (λ r. SubmitReport.layout_of r.rp_outcome) (λ r. SubmitReport.submit_reporting_within (limitOf r) r) (λ r. none) (λ r. r)
submit_report_cut = submit_report_ends

pub deliver_report_cut : (limitOf : SmsDeliverReport → ℕ) → Cut DeliverReport.Typed DeliverReport.cleared (λ r. r) (λ r. DeliverReport.layout_of r.rp_outcome) (λ r. DeliverReport.deliver_reporting_within (limitOf r) r) (λ r. none) (λ r. r)
deliver_report_cut = deliver_report_ends

pub status_report_cut : (limit : ℕ) → Cut StatusReport.Typed StatusReport.cleared StatusReport.capitalised (λ r. StatusReport.status_report) (StatusReport.status_reporting_within limit) cut_after_status without_indicator
status_report_cut = status_report_ends

-- and of what the public functions answer

pub submit_answers_cut : AnswersCut Submit.Typed Submit.compared Submit.capitalised (λ r. Submit.submit) Submit.submitting (λ r. none) (λ r. r)
submit_answers_cut = answers_cut _ _ _ _ _ _ _ submit_cut submit_counts

pub deliver_answers_cut : AnswersCut Deliver.Typed Deliver.cleared Deliver.capitalised (λ r. Deliver.deliver) Deliver.delivering (λ r. none) (λ r. r)
deliver_answers_cut = answers_cut _ _ _ _ _ _ _ deliver_cut deliver_counts

pub submit_report_answers_cut : (limitOf : SmsSubmitReport → ℕ)
    → AnswersCut SubmitReport.Typed SubmitReport.cleared SubmitReport.capitalised (λ r. SubmitReport.layout_of r.rp_outcome) (λ r. SubmitReport.submit_reporting_within (limitOf r) r) (λ r. none) (λ r. r)
submit_report_answers_cut limitOf = answers_cut _ _ _ _ _ _ _ (submit_report_cut limitOf) (submit_report_counts limitOf)

pub deliver_report_answers_cut : (limitOf : SmsDeliverReport → ℕ)
    → AnswersCut DeliverReport.Typed DeliverReport.cleared (λ r. r) (λ r. DeliverReport.layout_of r.rp_outcome) (λ r. DeliverReport.deliver_reporting_within (limitOf r) r) (λ r. none) (λ r. r)
deliver_report_answers_cut limitOf = answers_cut _ _ _ _ _ _ _ (deliver_report_cut limitOf) (deliver_report_counts limitOf)

pub status_report_answers_cut : (limit : ℕ)
    → AnswersCut StatusReport.Typed StatusReport.cleared StatusReport.capitalised (λ r. StatusReport.status_report) (StatusReport.status_reporting_within limit) cut_after_status without_indicator
status_report_answers_cut limit = answers_cut _ _ _ _ _ _ _ (status_report_cut limit) (status_report_counts limit)
