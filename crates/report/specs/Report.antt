-- SMS-DELIVER-REPORT and SMS-SUBMIT-REPORT (TS 23.040 §9.2.2.1a, §9.2.2.2a): their fields and layouts, which differ in MTI and time alone, and what their writers check and write.
use Rattle.std.specs.Prelude.{ℕ, ◌≡◌, refl, Bool, true, false, List, [], ◌∷◌, ◌++◌, length, Err, Some, None, Option}
use Rattle.octets.specs.Answers.{fine}
use Rattle.octets.specs.Choice.{length_if}
use Rattle.octets.specs.Checks.{Check, ◌unless◌, found}
use Rattle.octets.specs.declared.Refusal.TheVariants.{NotATime}
use Rattle.layout.specs.Layout.{octets, any, indicator, is_set, leading, first_octet, Format, field, done, ◌then◌, message, Layout, plain, stopping}
use Rattle.parameters.specs.Checking.{indicator_checks, data_within}
use Rattle.parameters.specs.Layout.{announced, parameters}
use Rattle.parameters.specs.Optional.{octets_held}
use Rattle.parameters.specs.Outcome.{has_cause}
use Rattle.parameters.specs.Parameters.{Parameters, no_parameters, parameters_octets}
use Rattle.parameters.specs.declared.RpOutcome.{RpOutcome}
use Rattle.parameters.specs.declared.RpOutcome.TheVariants.{RpAck, RpError}

-- the outcome that carries it, UDHI, cause, indicator, the octets of its time, parameters
pub record Fields : Type 0 where
  pub outcome : RpOutcome
  pub udhi : Bool
  pub cause : Option ℕ
  pub indicator : ℕ
  pub scts : List ℕ
  pub parameters : Parameters

-- ---- reading

-- the octets of TP-Service-Centre-Time-Stamp: a SUBMIT-REPORT has one, a DELIVER-REPORT none
abbrev pub time_size : Bool → ℕ
time_size hasTime = length_if hasTime 7

-- UDHI 6; cause (in an RP-ERROR only), indicator, time, parameters
unfoldable pub format : ℕ → Bool → RpOutcome → Format Fields
format mti hasTime outcome =
    message mti (6 ∷ []) λ first. announced (has_cause outcome) then λ cause. field indicator λ i. field (octets any (time_size hasTime)) λ scts. parameters (leading i) then λ p.
    done (record { outcome = outcome; udhi = is_set 6 first; cause = cause; indicator = leading i; scts = scts; parameters = p })

-- a cause or none, and nothing else
abbrev pub cause_alone : RpOutcome → Option ℕ → Fields
cause_alone outcome cause = record { outcome = outcome; udhi = false; cause = cause; indicator = 0; scts = []; parameters = no_parameters }

-- of the blank record, whatever the entry point
abbrev pub blank : Fields
blank = cause_alone RpAck None

-- of the stopped RP-ERROR
abbrev pub stopped : Fields
stopped = cause_alone RpError (Some 0xff)

-- the layout of an outcome; the stopped RP-ERROR stands as MTI, FF, 00
abbrev pub layout_of : ℕ → Bool → RpOutcome → Layout Fields
layout_of mti hasTime RpAck = plain (format mti hasTime RpAck)
layout_of mti hasTime RpError = stopping mti (mti ∷ 0xff ∷ 0x00 ∷ []) stopped (format mti hasTime RpError)

-- what is read as text in a string: nothing. User data stay octets
abbrev pub texts_read : {R : Type 0} → List ℕ → R → List (List ℕ)
texts_read s r = []

-- ---- writing

-- the octets, in the layout's order
abbrev pub octets_of : ℕ → Fields → List ℕ
octets_of mti x = first_octet mti ((6, x.udhi) ∷ []) ∷ octets_held x.cause ++ (x.indicator ∷ x.scts ++ parameters_octets x.parameters)

-- the checks within a limit of user data: 13 and 14; 12, that its time is one, where it has one; 7, 8 and 15
abbrev pub checks_within : ℕ → Bool → Fields → List Check
checks_within limit time_holds x =
    let p = x.parameters in
    indicator_checks x.indicator p.pid p.dcs p.udl ++ ((NotATime unless time_holds) ∷ data_within limit p.dcs p.udl (length p.ud))

-- a standard's limit, of those in an RP-ACK and in an RP-ERROR, which a cause means
abbrev pub standard_limit : ℕ → ℕ → Option ℕ → ℕ
standard_limit ack error None = ack
standard_limit ack error (Some cause) = error

-- the octets of the stopped DELIVER-REPORT, and of a SUBMIT-REPORT with UDHI and PID 11 whose time is left out; the checks of the first with a time that is one, and isn't
known_written : (octets_of 0 stopped ≡ 0x00 ∷ 0xff ∷ 0x00 ∷ []) × (octets_of 1 (record { outcome = RpAck; udhi = true; cause = None; indicator = 0x01; scts = []; parameters = record { pid = Some 0x11; dcs = None; udl = None; ud = [] } }) ≡ 0x41 ∷ 0x01 ∷ 0x11 ∷ [])
    × (found (checks_within 140 true stopped) ≡ fine) × (found (checks_within 140 false stopped) ≡ Err NotATime)
unfolding first_octet indicator_checks data_within
known_written = (refl, refl, refl, refl)
