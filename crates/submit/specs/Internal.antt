-- What only functions of this crate say to each other: the rest of the layout from a field on, fields by their places in a string, and what is made of values that are written.
use Rattle.std.specs.Prelude.{ℕ, ◌+◌, ◌≤◌, ◌≡◌, true, List, [], ◌∷◌, ◌++◌, eqb, leb, length, take, drop, Ok, Err, Option, Some, None, is_some, option_map}
use Rattle.octets.specs.Answers.{Said}
use Rattle.octets.specs.Checks.{Check, ◌unless◌, checked}
use Rattle.octets.specs.Lent.{Making}
use Rattle.octets.specs.declared.Refusal.TheVariants.{WrongMessageType, ValidityFormatDisagrees, NoDestination, NotATime, HeaderNotWhole, HeaderPassesCount}
use Rattle.coding.specs.Coding.{coding_of, data_octets, data_checks}
use Rattle.user_data_header.specs.Header.{in_count}
use Rattle.address.specs.Address.{address_size, canonical_address, text_held}
use Rattle.address.specs.Writing.{address_octets, octets_or, address_checks}
use Rattle.address.specs.declared.SMSAddress.{SMSAddress}
use Rattle.address.specs.declared.writing.Number.{Number}
use Rattle.layout.specs.Layout.{Format, Reached, reached, halted, field, one, require, done, address as addressKind, octets, any, user_data, is_set, cut}
use Rattle.validity_period.specs.Validity.{format_of, period_size, period_octets, time_holds}
use Rattle.submit.specs.Layout.{Fields, format_in, header_size}
use Rattle.submit.specs.declared.reading.SubmitFields.{SubmitFields}
use Rattle.submit.specs.declared.SmsSubmit.{SmsSubmit}
use Rattle.submit.specs.declared.writing.SubmitValues.{SubmitValues}

-- after TP-DCS
unfoldable pub after_coding : ℕ → ℕ → List ℕ → ℕ → ℕ → Format Fields
after_coding first mr da pid dcs =
    field (octets any (period_size (format_in first))) λ vp. one λ udl. field (user_data (data_octets (coding_of dcs) udl)) λ ud.
    let h = header_size (is_set 6 first) ud in
    require HeaderNotWhole (leb h (length ud)) (require HeaderPassesCount (in_count (coding_of dcs) udl h)
    (done (record { first = first; mr = mr; da = da; pid = pid; dcs = dcs; vp = vp; udl = udl; ud = ud })))

-- after the first octet
unfoldable pub after_first : ℕ → Format Fields
after_first first = one λ mr. field addressKind λ da. one λ pid. one λ dcs. after_coding first mr da pid dcs

-- the fields at places of a string
unfoldable pub fields_at : List ℕ → SubmitFields → Fields
fields_at s p = record {
  first = p.first;
  mr = p.mr;
  da = canonical_address (cut addressKind (drop p.address s));
  pid = p.pid;
  dcs = p.dcs;
  vp = take p.validity_octets (drop p.validity s);
  udl = p.udl;
  ud = take p.octets (drop p.«data» s);
}

-- what an answer says of a string: the fields, and the place after them; or the refusal
abbrev pub found_says : List ℕ → Said SubmitFields → Reached Fields
found_says s (Ok p) = reached (fields_at s p) (p.«data» + p.octets)
found_says s (Err why) = halted why

-- the places lie in the string, the address's is the given one; validity and data are as long as the format and the UDL say, and the header fits the data and the UDL
abbrev pub Inside : List ℕ → ℕ → Said SubmitFields → Type 0
Inside s at (Ok p) =
    (p.address + address_size (drop p.address s) ≤ length s) × (p.validity + p.validity_octets ≤ length s) × (p.validity_octets ≡ period_size (format_in p.first)) × (p.«data» + p.octets ≤ length s) × (p.octets ≤ 255)
    × (p.octets ≡ data_octets (coding_of p.dcs) p.udl) × (p.header ≡ header_size (is_set 6 p.first) (take p.octets (drop p.«data» s))) × (p.header ≤ p.octets) × (in_count (coding_of p.dcs) p.udl p.header ≡ true) × (p.address ≡ at)
Inside s at (Err why) = Unit

-- ---- writing

-- type, plan and text of a destination, if there is one: as a number has them, and as a record does
abbrev pub parts_in : Option Number → Option (ℕ × ℕ × List ℕ)
parts_in to = option_map (λ (n : Number). (n.ton, n.npi, n.text.now)) to

abbrev pub parts_held : Option SMSAddress → Option (ℕ × ℕ × List ℕ)
parts_held to = option_map (λ (a : SMSAddress). (a.ton, a.npi, text_held a)) to

abbrev pub destination_in : SmsSubmit → Option (ℕ × ℕ × List ℕ)
destination_in r = parts_held r.tp_destination_address

-- its checks
abbrev pub checks_in : Option (ℕ × ℕ × List ℕ) → List Check
checks_in None = []
checks_in (Some (ton, npi, text)) = address_checks ton npi text

-- the octets of values, in the layout's order: type, plan and text are the address's, vp the octets of the validity period
abbrev pub octets_in : SubmitValues → ℕ → ℕ → List ℕ → List ℕ → List ℕ → List ℕ
octets_in v ton npi text vp ud = v.first ∷ v.mr ∷ octets_or [] (address_octets ton npi text) ++ v.pid ∷ v.dcs ∷ vp ++ v.udl ∷ ud

-- with a destination that may be missing
abbrev pub octets_to : SubmitValues → Option (ℕ × ℕ × List ℕ) → List ℕ → List ℕ → List ℕ
octets_to v None vp ud = []
octets_to v (Some (ton, npi, text)) vp ud = octets_in v ton npi text vp ud

-- what a writer makes of them: values, the destination, digits and octets of the validity period, data. Refusals 3, 5 and 6, 7 and 8 of the data, 9 to 11 of the address, and 12
unfoldable pub making : SubmitValues → Option (ℕ × ℕ × List ℕ) → List ℕ → List ℕ → List ℕ → Making ℕ
making v to digits enhanced ud =
    checked
    ((WrongMessageType unless eqb v.mti 1) ∷ (ValidityFormatDisagrees unless eqb v.vpf (format_of v.period)) ∷ (NoDestination unless is_some to) ∷ data_checks v.dcs v.udl (length ud) ++ checks_in to
    ++ (NotATime unless time_holds v.period digits) ∷ [])
    (octets_to v to (period_octets v.period digits enhanced) ud)
