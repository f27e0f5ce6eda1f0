-- The number that a function for another language answers: a count, or 256 and the refusal's number; and the arrays that it fills, with zeros where the reader refuses.
use Rattle.std.specs.Prelude.{ℕ, ◌+◌, List, replicate, Option, Some, None, Ok, Err}
use Rattle.octets.specs.Answers.{Said}
use Rattle.octets.specs.Refusals.{refusal_number}
use Rattle.address.specs.declared.SMSAddress.{SMSAddress}
use Rattle.coding.specs.Coding.{UserData}
use Rattle.gsm7.specs.declared.packing.Packed.{Packed}
use Rattle.gsm7.specs.declared.decode.Unpacked.{Unpacked}
use Rattle.concatenation.specs.declared.Concatenated.{Concatenated}
use Rattle.reassembly.specs.declared.PartAccepted.{PartAccepted}
use Rattle.reassembly.specs.declared.MessageTaken.{MessageTaken}
use Rattle.columns.specs.declared.Strings.{Strings}
use Rattle.submit.specs.declared.SubmitRead.{SubmitRead}
use Rattle.deliver.specs.Deliver.{DeliverRead}
use Rattle.status_report.specs.StatusReport.{StatusReportRead}
use Rattle.submit_report.specs.SubmitReport.{SubmitReportRead}
use Rattle.deliver_report.specs.DeliverReport.{DeliverReportRead}
use Rattle.header_elements.specs.declared.HeaderElements.{HeaderElements}
use Rattle.relay_address.specs.declared.RelayAddress.{RelayAddress}
use Rattle.relay_address.specs.declared.RelayAddressRead.{RelayAddressRead}

-- the number of an answer that counts
abbrev pub numbered : {A : Type 0} → (A → ℕ) → Said A → ℕ
numbered count (Ok a) = count a
numbered count (Err why) = 256 + refusal_number why

abbrev pub count_number : Said ℕ → ℕ
count_number = numbered (λ n. n)

-- ---- messages: the number of octets of user data, or of octets read; and their arrays

abbrev pub deliver_number : Said DeliverRead → ℕ × List ℕ × List ℕ × List ℕ
deliver_number (Ok r) = let m = r.message in (m.tp_user_data.length, m.tp_originating_address.address.octets, m.tp_service_centre_timestamp.octets, m.tp_user_data.octets)
deliver_number (Err why) = (256 + refusal_number why, replicate 290 0, replicate 14 0, replicate 255 0)

-- the arrays of what a message may have
abbrev pub address_array : Option SMSAddress → List ℕ
address_array (Some a) = a.address.octets
address_array None = replicate 290 0

abbrev pub user_data_array : Option UserData → List ℕ
user_data_array (Some d) = d.octets
user_data_array None = replicate 255 0

abbrev pub submit_number : Said SubmitRead → ℕ × List ℕ × List ℕ × List ℕ × List ℕ
submit_number (Ok r) = let m = r.message in (r.octets_read, address_array m.tp_destination_address, m.tp_user_data_raw.octets, user_data_array m.tp_user_data_header, m.tp_user_data.octets)
submit_number (Err why) = (256 + refusal_number why, replicate 290 0, replicate 255 0, replicate 255 0, replicate 510 0)

abbrev pub status_report_number : Said StatusReportRead → ℕ × List ℕ × List ℕ × List ℕ × List ℕ
status_report_number (Ok r) =
    let m = r.message in
    (m.tp_user_data.length, m.tp_recipient_address.address.octets, m.tp_service_centre_timestamp.octets, m.tp_discharge_time.octets, m.tp_user_data.octets)
status_report_number (Err why) = (256 + refusal_number why, replicate 290 0, replicate 14 0, replicate 14 0, replicate 255 0)

abbrev pub submit_report_number : Said SubmitReportRead → ℕ × List ℕ × List ℕ
submit_report_number (Ok r) = let m = r.message in (m.tp_user_data.length, m.tp_service_centre_timestamp.octets, m.tp_user_data.octets)
submit_report_number (Err why) = (256 + refusal_number why, replicate 14 0, replicate 255 0)

abbrev pub deliver_report_number : Said DeliverReportRead → ℕ × List ℕ
deliver_report_number (Ok r) = (r.message.tp_user_data.length, r.message.tp_user_data.octets)
deliver_report_number (Err why) = (256 + refusal_number why, replicate 255 0)

-- ---- what else is read

-- the number of octets of text, and the text
abbrev pub unpacked_number : Said Unpacked → ℕ × List ℕ
unpacked_number (Ok u) = (u.text.length, u.text.octets)
unpacked_number (Err why) = (256 + refusal_number why, replicate 510 0)

-- 14 digits
abbrev pub digits_number : Said (List ℕ) → ℕ × List ℕ
digits_number (Ok digits) = (14, digits)
digits_number (Err why) = (256 + refusal_number why, replicate 14 0)

-- the number of a header's elements, and their arrays
abbrev pub elements_number : Said HeaderElements → ℕ × List ℕ × List ℕ × List ℕ
elements_number (Ok e) = (e.count, e.identifiers, e.lengths, e.octets)
elements_number (Err why) = (256 + refusal_number why, replicate 127 0, replicate 127 0, replicate 253 0)

-- the number of octets read of an address of the relay layer, and its digits
abbrev pub digits_array : Option RelayAddress → List ℕ
digits_array (Some a) = a.address.octets
digits_array None = replicate 508 0

abbrev pub relay_number : Said RelayAddressRead → ℕ × List ℕ
relay_number (Ok r) = (r.octets_read, digits_array r.address)
relay_number (Err why) = (256 + refusal_number why, replicate 508 0)

-- ---- what is written, and the lent buffer

abbrev pub lent_number : Said ℕ × List ℕ → ℕ × List ℕ
lent_number r = (count_number r.0, r.1)

abbrev pub packed_number : Said Packed × List ℕ → ℕ × List ℕ
packed_number r = (numbered (λ p. p.octets) r.0, r.1)

abbrev pub sent_number : Said Concatenated × List ℕ → ℕ × List ℕ
sent_number r = (numbered (λ c. c.octets) r.0, r.1)

-- of what the reader of a block by column does, and both lent lists
abbrev pub strings_number : Said Strings × List ℕ × List ℕ → ℕ × List ℕ × List ℕ
strings_number r = (numbered (λ s. s.octets) r.0, r.1, r.2)

-- of a store that is emptied, and the store
abbrev pub emptied_number : Said Unit × List ℕ → ℕ × List ℕ
emptied_number r = (numbered (λ x. 0) r.0, r.1)

-- of a part that is accepted: how many are missing; and the store
abbrev pub accepted_number : Said PartAccepted × List ℕ → ℕ × List ℕ
accepted_number r = (numbered (λ p. p.missing.length) r.0, r.1)

-- of a message that is taken: its octets, none where it is not open or not whole
abbrev pub message_octets : MessageTaken → ℕ
message_octets (MessageTaken.Whole dcs n) = n
message_octets MessageTaken.NotOpen = 0
message_octets MessageTaken.NotWhole = 0

abbrev pub message_number : Said MessageTaken → ℕ
message_number = numbered message_octets

-- and both lent lists
abbrev pub taken_number : Said MessageTaken × List ℕ × List ℕ → ℕ × List ℕ × List ℕ
taken_number r = (message_number r.0, r.1, r.2)
