-- What functions of the codec say to each other of a report's fields: nobody has to believe anything here.
use Rattle.std.specs.Prelude.{ℕ, ◌+◌, ◌≤◌, Bool, true, false, List, [], length, take, drop, Ok, Err, Some, None, Option, IfSome}
use Rattle.octets.specs.Answers.{Said}
use Rattle.octets.specs.Checks.{checked}
use Rattle.octets.specs.Lent.{Making}
use Rattle.time.specs.Time.{is_time, time_octets}
use Rattle.layout.specs.Layout.{octets, any, indicator, leading, Format, field, done, ◌then◌}
use Rattle.parameters.specs.Layout.{parameters}
use Rattle.parameters.specs.declared.RpOutcome.{RpOutcome}
use Rattle.parameters.specs.declared.RpOutcome.TheVariants.{RpAck}
use Rattle.report.specs.Report.{Fields, time_size, octets_of, checks_within}
use Rattle.report.specs.declared.reading.ReportFields.{ReportFields}
use Rattle.report.specs.declared.writing.ReportValues.{ReportValues}

-- ---- reading

-- after first octet and cause
abbrev pub after_cause : Bool → RpOutcome → Bool → Option ℕ → Format Fields
after_cause hasTime outcome udhi cause =
    field indicator λ i. field (octets any (time_size hasTime)) λ scts. parameters (leading i) then λ p.
    done (record { outcome = outcome; udhi = udhi; cause = cause; indicator = leading i; scts = scts; parameters = p })

-- nothing is there: those of the blank record
abbrev pub nothing : ReportFields
nothing = record {
  rp_outcome = RpAck;
  udhi = false;
  cause = None;
  indicator = 0;
  timestamp = None;
  parameters = record { pid = None; dcs = None; udl = None };
  «data» = 0;
  octets = 0;
}

-- the octets of a time at its place, if there is one
abbrev pub time_at : List ℕ → Option ℕ → List ℕ
time_at s None = []
time_at s (Some at) = take 7 (drop at s)

-- the fields at places of a string
abbrev pub fields_at : List ℕ → ReportFields → Fields
fields_at s f = record {
  outcome = f.rp_outcome;
  udhi = f.udhi;
  cause = f.cause;
  indicator = f.indicator;
  scts = time_at s f.timestamp;
  parameters = record { pid = f.parameters.pid; dcs = f.parameters.dcs; udl = f.parameters.udl; ud = take f.octets (drop f.«data» s) };
}

-- what an answer says of a string: the fields, or the refusal
abbrev pub found_says : List ℕ → Said ReportFields → Said Fields
found_says s (Ok f) = Ok (fields_at s f)
found_says s (Err why) = Err why

-- the places lie in the string
pub record Inside (s : List ℕ) (f : ReportFields) : Type 0 where
  pub time : IfSome f.timestamp (λ at. at + 7 ≤ length s)
  pub user_data : f.«data» + f.octets ≤ length s
  pub few : f.octets ≤ 255

-- ---- writing

-- a time that is written or not: its octets, and whether it is one
abbrev pub time_if : Option (List ℕ) → List ℕ
time_if None = []
time_if (Some digits) = time_octets digits

abbrev pub time_holds : Option (List ℕ) → Bool
time_holds None = true
time_holds (Some digits) = is_time digits

-- the fields that values are, with a time and user data; the outcome is not written
abbrev pub fields_with : ReportValues → Option (List ℕ) → List ℕ → Fields
fields_with v digits ud = record {
  outcome = RpAck;
  udhi = v.udhi;
  cause = v.cause;
  indicator = v.indicator;
  scts = time_if digits;
  parameters = record { pid = v.parameters.pid; dcs = v.parameters.dcs; udl = v.parameters.udl; ud = ud };
}

-- what is made of them within a limit
unfoldable pub making : ℕ → ReportValues → Option (List ℕ) → List ℕ → Making ℕ
making limit v digits ud =
    let x = fields_with v digits ud in
    checked (checks_within limit (time_holds digits) x) (octets_of v.mti x)
