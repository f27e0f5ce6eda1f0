-- What only functions of this crate say to each other: the rest of the layout from a field on, fields by their places in a string, and the octets of values that were checked.
use Rattle.std.specs.Prelude.{ℕ, ◌+◌, ◌≤◌, ◌≡◌, List, [], ◌∷◌, ◌++◌, length, take, drop, Ok, Err, Some, None, Option}
use Rattle.octets.specs.Answers.{Said}
use Rattle.octets.specs.Checks.{Check, ◌unless◌, checked}
use Rattle.octets.specs.Lent.{Making}
use Rattle.octets.specs.declared.Refusal.TheVariants.{NotATime}
use Rattle.time.specs.Time.{is_time, time_octets}
use Rattle.address.specs.Address.{address_size, canonical_address}
use Rattle.address.specs.Writing.{address_octets, octets_or, address_checks}
use Rattle.layout.specs.Layout.{Format, Reached, reached, halted, end_or, one, time, done, ◌then◌, address as addressKind, leading, kept, cut}
use Rattle.parameters.specs.Layout.{parameters}
use Rattle.parameters.specs.Optional.{octets_held, held}
use Rattle.parameters.specs.Parameters.{Parameters, no_parameters, parameters_octets}
use Rattle.status_report.specs.Layout.{Fields, bits}
use Rattle.status_report.specs.StatusReport.{optional_checks}
use Rattle.status_report.specs.declared.reading.StatusReportFields.{StatusReportFields}
use Rattle.status_report.specs.declared.writing.StatusReportValues.{StatusReportValues}

-- ---- reading

abbrev pub fields_with : ℕ → ℕ → List ℕ → List ℕ → List ℕ → ℕ → Option ℕ → Parameters → Fields
fields_with first mr ra scts dt st pi p = record { first = first; mr = mr; ra = ra; scts = scts; dt = dt; st = st; pi = pi; held = p }

-- after status, by the fields that are made of what follows it
unfoldable pub after_status : (Option ℕ → Parameters → Fields) → Format Fields
after_status make = end_or (done (make None no_parameters)) λ i. parameters (leading i) then λ p. done (make (Some (leading i)) p)

-- after the address
unfoldable pub after_address : ℕ → ℕ → List ℕ → Format Fields
after_address first mr ra = time λ scts. time λ dt. one λ st. after_status (fields_with first mr ra scts dt st)

-- the fields at places of a string
unfoldable pub fields_at : List ℕ → StatusReportFields → Fields
fields_at s p = record {
  first = kept bits p.first;
  mr = p.mr;
  ra = canonical_address (cut addressKind (drop p.address s));
  scts = take 7 (drop p.timestamp s);
  dt = take 7 (drop p.discharge s);
  st = p.status;
  pi = p.indicator;
  held = record { pid = p.parameters.pid; dcs = p.parameters.dcs; udl = p.parameters.udl; ud = take p.octets (drop p.«data» s) };
}

-- the place after them
abbrev pub reached_at : StatusReportFields → ℕ
reached_at p = p.«data» + p.octets

-- what an answer says of a string: the fields, and the place after them; or the refusal
abbrev pub found_says : List ℕ → Said StatusReportFields → Reached Fields
found_says s (Ok p) = reached (fields_at s p) (reached_at p)
found_says s (Err why) = halted why

-- the places lie in the string, the address's is the given one
abbrev pub Inside : List ℕ → ℕ → StatusReportFields → Type 0
Inside s at p =
    (p.address + address_size (drop p.address s) ≤ length s) × (p.timestamp + 7 ≤ length s) × (p.discharge + 7 ≤ length s) × (reached_at p ≤ length s) × (p.octets ≤ 255)
    × (p.address ≡ at)

-- ---- writing: values, the address's type, plan and text, the digits of both times, the user data

abbrev pub parameters_in : StatusReportValues → List ℕ → Parameters
parameters_in v ud = record { pid = v.parameters.pid; dcs = v.parameters.dcs; udl = v.parameters.udl; ud = ud }

-- how many octets of indicator and parameters, with so many of user data
abbrev pub optional_size : StatusReportValues → ℕ → ℕ
optional_size v n = held v.indicator + (held v.parameters.pid + held v.parameters.dcs + held v.parameters.udl + n)

-- the octets after the address, and all octets
abbrev pub octets_after : StatusReportValues → List ℕ → List ℕ → List ℕ → List ℕ
octets_after v scts dt ud = time_octets scts ++ (time_octets dt ++ (v.status ∷ (octets_held v.indicator ++ parameters_octets (parameters_in v ud))))

abbrev pub octets_in : StatusReportValues → ℕ → ℕ → List ℕ → List ℕ → List ℕ → List ℕ → List ℕ
octets_in v ton npi text scts dt ud = v.first ∷ v.mr ∷ (octets_or [] (address_octets ton npi text) ++ octets_after v scts dt ud)

-- the checks after the address's
abbrev pub checks_after : ℕ → StatusReportValues → List ℕ → List ℕ → List ℕ → List Check
checks_after limit v scts dt ud = (NotATime unless is_time scts) ∷ (NotATime unless is_time dt) ∷ optional_checks limit v.indicator (parameters_in v ud)

-- what a writer makes within a limit, where no length passes its array
unfoldable pub making : ℕ → StatusReportValues → ℕ → ℕ → List ℕ → List ℕ → List ℕ → List ℕ → Making ℕ
making limit v ton npi text scts dt ud = checked (address_checks ton npi text ++ checks_after limit v scts dt ud) (octets_in v ton npi text scts dt ud)
