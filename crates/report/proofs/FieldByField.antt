-- What the layouts of a report come to, field by field.
-- Assumes nothing.
use Rattle.std.specs.Prelude.{Ok, Err, IfOk, Some, None, Option, IfSome}
use Rattle.std.specs.Bool.{then_some}
use Prim.Native.Nat.{ℕ, ◌+◌, ◌-◌, ◌≤◌}
use mathlib.Core.Path.{◌≡◌, refl, sym, ap, ◌∙◌}
use mathlib.Core.Bool.{Bool, true, false}
use mathlib.Core.List.{List, [], ◌∷◌}
use native.Mathlib.Omega.{arith}
use lib.Bits.{bit_and}
use lib.Dec.{eqb}
use lib.ListN.{length, take, drop}
use Rattle.octets.specs.Answers.{Said}
use Rattle.octets.specs.Each.{Octets}
use Rattle.octets.specs.Places.{octet_at, span_at}
use Rattle.octets.specs.declared.Place.{Place}
use Rattle.octets.specs.declared.Refusal.{Refusal}
use Rattle.octets.specs.declared.Refusal.TheVariants.{OctetsEnd, WrongMessageType}
use Rattle.octets.proofs.Places.{start, span_there, span_inside}
use Rattle.layout.specs.Internal.{indicator_at, placed}
use Rattle.layout.specs.Layout.{any, is_set, message_type, Format, one, Reached, reached, halted, read_from, answer, alone, Layout, read, records}
use Rattle.layout.proofs.FirstOctet.{kept_bit}
use Rattle.layout.proofs.Records.{read_records, answer_records}
use Rattle.layout.proofs.Steps.{message_goes_on, message_differs, message_ends, octet_goes_on, octet_ends, stopping_ends, stopping_differs, stopping_stops, stopping_goes_on, indicator_goes_on, indicator_ends, span_goes_on, span_ends, then_goes_on, then_ends, done_reached}
use Rattle.parameters.specs.Internal.{counted}
use Rattle.parameters.specs.Layout.{parameters}
use Rattle.parameters.specs.declared.reading.ParametersRead.{ParametersRead}
use Rattle.parameters.specs.declared.RpOutcome.{RpOutcome}
use Rattle.parameters.specs.declared.RpOutcome.TheVariants.{RpAck, RpError}
use Rattle.parameters.proofs.StepsOfReader.{Found, parameters_told, parameters_halted, indicator_within}
use Rattle.report.specs.Report.{Fields, time_size, format, stopped, layout_of}
use Rattle.report.specs.Internal.{after_cause, nothing, time_at, fields_at, found_says, Inside}
use Rattle.report.specs.declared.reading.ReportFields.{ReportFields}

-- ---- a refusal, and the stopped RP-ERROR

module _ (s : List ℕ) {x : Reached Fields} where
  pub refused_found : {why : Refusal} → x ≡ halted why → (found_says s (Err why) ≡ answer alone x) × IfOk {T = ReportFields} (Err why) (Inside s)
  refused_found h = (rw h, tt)

  pub stopped_found : x ≡ reached stopped 1 → let f = record nothing { rp_outcome = RpError; cause = Some 0xff } in (found_says s (Ok f) ≡ answer alone x) × IfOk {E = Refusal} (Ok f) (Inside s)
  stopped_found h = (rw h, record { time = tt; user_data = omega arith; few = omega arith })

-- ---- the first octet, and the cause

-- what follows them, by the outcome
abbrev ack_rest : Bool → ℕ → Format Fields
ack_rest hasTime first = after_cause hasTime RpAck (is_set 6 first) None

abbrev error_rest : Bool → ℕ → Format Fields
error_rest hasTime first = one λ cause. after_cause hasTime RpError (is_set 6 first) (Some cause)

module _ (s : List ℕ) (mti : ℕ) (hasTime : Bool) where
  pub no_first : (outcome : RpOutcome) → octet_at s start ≡ Err OctetsEnd → read (layout_of mti hasTime outcome) s ≡ halted OctetsEnd
  unfolding read format
  no_first RpAck e = message_ends s start e mti (6 ∷ []) (ack_rest hasTime)
  no_first RpError e = stopping_ends mti (mti ∷ 0xff ∷ 0x00 ∷ []) stopped (6 ∷ []) refl (error_rest hasTime) s e

  module _ {x : ℕ} {q : Place} (e : octet_at s start ≡ Ok (x, q)) where
    pub other_type : (outcome : RpOutcome) → (message_type x ≡ mti → ⊥) → read (layout_of mti hasTime outcome) s ≡ halted WrongMessageType
    unfolding read format
    other_type RpAck m = message_differs s start e mti (6 ∷ []) refl (ack_rest hasTime) m
    other_type RpError m = stopping_differs mti (mti ∷ 0xff ∷ 0x00 ∷ []) stopped (6 ∷ []) refl (error_rest hasTime) s e m

    module _ (m : message_type x ≡ mti) where
      pub ack_goes_on : read (layout_of mti hasTime RpAck) s ≡ read_from (after_cause hasTime RpAck (is_set 6 x) None) s q.at
      unfolding read format
      ack_goes_on = message_goes_on s start e mti (6 ∷ []) refl (ack_rest hasTime) m ∙ ap (λ (b : ℕ). read_from (after_cause hasTime RpAck (eqb b 1) None) s q.at) (kept_bit (6 ∷ []) refl 6 refl x)

      pub error_stops : (bit_and x 0xbc ≡ 0 → ⊥) → read (layout_of mti hasTime RpError) s ≡ reached stopped 1
      unfolding format
      error_stops h = stopping_stops mti _ stopped (6 ∷ []) refl (error_rest hasTime) s e m h

      module _ (z : bit_and x 0xbc ≡ 0) where
        pub no_cause : octet_at s q ≡ Err OctetsEnd → read (layout_of mti hasTime RpError) s ≡ halted OctetsEnd
        unfolding format
        no_cause d = stopping_goes_on mti _ stopped (6 ∷ []) refl (error_rest hasTime) s e m z ∙ octet_ends s q d _

        pub error_goes_on : {cause : ℕ} {t : Place} → octet_at s q ≡ Ok (cause, t) → read (layout_of mti hasTime RpError) s ≡ read_from (after_cause hasTime RpError (is_set 6 x) (Some cause)) s t.at
        unfolding format
        error_goes_on {cause} {t} d =
            stopping_goes_on mti _ stopped (6 ∷ []) refl (error_rest hasTime) s e m z ∙ octet_goes_on s q d _
            ∙ ap (λ (b : ℕ). read_from (after_cause hasTime RpError (eqb b 1) (Some cause)) s t.at) (kept_bit (6 ∷ []) refl 6 refl x)

-- ---- indicator, time and parameters

-- the time at its place, and that it lies in the string
time_found : (s : List ℕ) (hasTime : Bool) {a : ℕ} (q : Place) {v : Place} → span_at s q (time_size hasTime) ≡ Ok (a, v) → a + time_size hasTime ≤ length s
    → (take (time_size hasTime) (drop q.at s) ≡ time_at s (then_some hasTime a)) × IfSome (then_some hasTime a) (λ at. at + 7 ≤ length s)
time_found s true q r h = (rw (span_there s q 7 r).1, h)
time_found s false q r h = (refl, tt)

-- time and parameters that are there lie in the string
module _ (s : List ℕ) (p : Place) (hasTime : Bool) {pi : ℕ} {q : Place} (i : indicator_at s p ≡ Ok (pi, q)) {a : ℕ} {v : Place} (r : span_at s q (time_size hasTime) ≡ Ok (a, v)) where
  inside : (a + time_size hasTime ≤ length s) × (v.at ≤ length s)
  inside = span_inside s q (time_size hasTime) r (indicator_within s p i)

  pub found : {got : ParametersRead} → Octets s → counted (placed (read_from (parameters pi) s v.at)) ≡ Ok got → Found s v.at pi got.parameters.pid got.parameters.dcs got.parameters.udl got.octets got.next
  found o c = parameters_told s v.at pi o inside.1 c

module _ (s : List ℕ) (p : Place) (hasTime : Bool) (outcome : RpOutcome) (udhi : Bool) (cause : Option ℕ) where
  abbrev afterwards : Reached Fields
  afterwards = read_from (after_cause hasTime outcome udhi cause) s p.at

  pub no_indicator : indicator_at s p ≡ Err OctetsEnd → afterwards ≡ halted OctetsEnd
  no_indicator e = indicator_ends s p e _

  module _ {pi : ℕ} {q : Place} (i : indicator_at s p ≡ Ok (pi, q)) where
    pub no_time : span_at s q (time_size hasTime) ≡ Err OctetsEnd → afterwards ≡ halted OctetsEnd
    no_time e = indicator_goes_on s p i _ ∙ span_ends s q (time_size hasTime) e any _

    module _ {a : ℕ} {v : Place} (r : span_at s q (time_size hasTime) ≡ Ok (a, v)) where
      pub no_parameters_lem : counted (placed (read_from (parameters pi) s v.at)) ≡ Err OctetsEnd → afterwards ≡ halted OctetsEnd
      no_parameters_lem e = indicator_goes_on s p i _ ∙ span_goes_on s q (time_size hasTime) r any _ ∙ then_ends s (parameters pi) v.at (parameters_halted s v.at pi e) _

      module _ {got : ParametersRead} (o : Octets s) (c : counted (placed (read_from (parameters pi) s v.at)) ≡ Ok got) where
        abbrev whole : ReportFields
        whole = record { rp_outcome = outcome; udhi = udhi; cause = cause; indicator = pi; timestamp = then_some hasTime a; parameters = got.parameters; «data» = got.next.at - got.octets; octets = got.octets }

        pub all_there : (found_says s (Ok whole) ≡ answer alone afterwards) × IfOk {E = Refusal} (Ok whole) (Inside s)
        all_there =
            let h = found s p hasTime i r o c in
            let t = time_found s hasTime q r (inside s p hasTime i r).0 in
            let reads : afterwards ≡ reached (fields_at s whole) got.next.at = rw (indicator_goes_on s p i, span_goes_on s q (time_size hasTime) r, then_goes_on s (parameters pi) v.at h.is, done_reached, t.0) in
            (rw reads, record { time = t.1; user_data = omega (arith, h.start, h.end); few = h.few })

-- ---- the record that is made of fields that were found

module _ {R A : Type 0} (make : Fields → R) (gives : R → A) (mti : ℕ) (hasTime : Bool) (outcome : RpOutcome) (s : List ℕ) where
  abbrev l : Layout Fields
  l = layout_of mti hasTime outcome

  abbrev answered : Said A
  answered = answer (λ r at. gives r) (read (records make l) s)

  by_fields : answered ≡ answer (λ x n. gives (make x)) (read l s)
  by_fields = rw (read_records make l s, answer_records make (λ r at. gives r) (read l s))

  pub record_found : {x : Fields} → Ok x ≡ answer alone (read l s) → Ok (gives (make x)) ≡ answered
  record_found {x} e = by (read l s) e ∙ sym by_fields
    where
      by : (r : Reached Fields) → Ok x ≡ answer alone r → Ok (gives (make x)) ≡ answer (λ y n. gives (make y)) r
      by (reached y n) h = cc
      by (halted why) h = cc

  pub record_refused : {why : Refusal} → Err why ≡ answer alone (read l s) → Err why ≡ answered
  record_refused {why} e = by (read l s) e ∙ sym by_fields
    where
      by : (r : Reached Fields) → Err why ≡ answer alone r → Err why ≡ answer (λ y n. gives (make y)) r
      by (reached y n) h = cc
      by (halted w) h = cc
