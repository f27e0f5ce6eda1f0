-- What is read of a string of octets from a place on.
use Rattle.std.specs.Prelude.{ℕ, ◌+◌, ◌≡◌, refl, List, [], ◌∷◌, min, ltb, length, get_or, drop, if◌then◌else◌, Ok, Err}
use Rattle.octets.specs.Answers.{Said}
use Rattle.octets.specs.declared.Refusal.TheVariants.{OctetsEnd}
use Rattle.layout.specs.Layout.{Layout, Reached, read, answer}
use Rattle.submit.specs.Submit as Submit
use Rattle.submit.specs.declared.SubmitRead.{SubmitRead}
use Rattle.deliver.specs.Deliver as Deliver
use Rattle.deliver.specs.Deliver.{DeliverRead}
use Rattle.parameters.specs.declared.RpOutcome.TheVariants.{RpAck, RpError}
use Rattle.submit_report.specs.SubmitReport as SubmitReport
use Rattle.submit_report.specs.SubmitReport.{SubmitReportRead}
use Rattle.deliver_report.specs.DeliverReport as DeliverReport
use Rattle.deliver_report.specs.DeliverReport.{DeliverReportRead}
use Rattle.status_report.specs.StatusReport as StatusReport
use Rattle.status_report.specs.StatusReport.{StatusReportRead}

-- what a layout's reader finds from a place on; past the end there are no octets
abbrev pub from : {R : Type 0} → Layout R → List ℕ → ℕ → Reached R
from layout s place = read layout (drop place s)

-- the place so many octets further on, or the end of the string
unfoldable pub behind_place : List ℕ → ℕ → ℕ → ℕ
behind_place s place count = min (place + count) (length s)

-- the answers from a place on: one octet, and the seven readers'
unfoldable pub octet_from : List ℕ → ℕ → Said (ℕ × ℕ)
octet_from s place = if ltb place (length s) then Ok (get_or s place 0, place + 1) else Err OctetsEnd

-- of a message: what its reader gives of the octets from the place on
abbrev pub answer_from : {R A : Type 0} → (List ℕ → R → ℕ → A) → Layout R → List ℕ → ℕ → Said A
answer_from gives layout s place = answer (gives (drop place s)) (from layout s place)

abbrev pub submit_from : List ℕ → ℕ → Said SubmitRead
submit_from = answer_from Submit.read_with Submit.submit

abbrev pub deliver_from : List ℕ → ℕ → Said DeliverRead
deliver_from = answer_from Deliver.read_with Deliver.deliver

abbrev pub submit_report_ack_from : List ℕ → ℕ → Said SubmitReportRead
submit_report_ack_from = answer_from SubmitReport.read_with (SubmitReport.layout_of RpAck)

abbrev pub submit_report_error_from : List ℕ → ℕ → Said SubmitReportRead
submit_report_error_from = answer_from SubmitReport.read_with (SubmitReport.layout_of RpError)

abbrev pub deliver_report_ack_from : List ℕ → ℕ → Said DeliverReportRead
deliver_report_ack_from = answer_from DeliverReport.read_with (DeliverReport.layout_of RpAck)

abbrev pub deliver_report_error_from : List ℕ → ℕ → Said DeliverReportRead
deliver_report_error_from = answer_from DeliverReport.read_with (DeliverReport.layout_of RpError)

abbrev pub status_report_from : List ℕ → ℕ → Said StatusReportRead
status_report_from = answer_from StatusReport.read_with StatusReport.status_report

-- three octets: one further, to the end, and past it; the last octet, and none after it
known_places : (behind_place (0x11 ∷ 0x22 ∷ 0x33 ∷ []) 1 1 ≡ 2) × (behind_place (0x11 ∷ 0x22 ∷ 0x33 ∷ []) 1 2 ≡ 3) × (behind_place (0x11 ∷ 0x22 ∷ 0x33 ∷ []) 1 3 ≡ 3)
    × (octet_from (0x11 ∷ 0x22 ∷ 0x33 ∷ []) 2 ≡ Ok (0x33, 3)) × (octet_from (0x11 ∷ 0x22 ∷ 0x33 ∷ []) 3 ≡ Err OctetsEnd)
unfolding behind_place octet_from
known_places = (refl, refl, refl, refl, refl)
