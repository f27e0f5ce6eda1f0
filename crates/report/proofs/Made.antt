-- What holds of the fields that a report's layout makes, and demand 3 of the records that they make.
-- Assumes nothing.
use Rattle.std.specs.Prelude.{Some, None, Option}
use Prim.Native.Nat.{ℕ, ◌≤◌}
use mathlib.Core.Path.{◌≡◌, refl, ap, ◌∙◌}
use mathlib.Core.Bool.{Bool, true, false, ◌||◌}
use mathlib.Core.List.{List, [], ◌∷◌, ◌++◌, append-nil}
use borrow.Author.Tests.{eqb-true}
use lib.ListN.{length}
use Rattle.octets.specs.Checks.{Check, ◌unless◌, checked}
use Rattle.octets.specs.Each.{Octets}
use Rattle.octets.specs.Lent.{Making}
use Rattle.octets.specs.declared.Refusal.{Refusal}
use Rattle.octets.specs.declared.Refusal.TheVariants.{NotATime}
use Rattle.octets.proofs.Checks.{check_holds, checked_then}
use Rattle.layout.specs.Demand.{Demand3}
use Rattle.layout.specs.Layout.{first, octet, octets, any, indicator, is_set, message_type, kept, first_octet, Field, stands_as, joined, any_past_limit, Format, done, ◌then◌, reached, read, canonical_of, unwritable, records}
use Rattle.layout.proofs.Makes.{Makes, makes_then}
use Rattle.layout.proofs.Demand.{Answers, Writes, Stopped, demand3, demand3_stopping, answers_plain, answers_stopping}
use Rattle.layout.proofs.FirstOctet.{kept_type, kept_bit, kept_first}
use Rattle.parameters.specs.Checking.{indicator_checks, data_within}
use Rattle.parameters.specs.Layout.{parameters}
use Rattle.parameters.specs.Optional.{octets_held}
use Rattle.parameters.specs.Outcome.{outcome_agrees}
use Rattle.parameters.specs.Parameters.{Parameters}
use Rattle.parameters.specs.declared.RpOutcome.{RpOutcome}
use Rattle.parameters.specs.declared.RpOutcome.TheVariants.{RpAck, RpError}
use Rattle.parameters.proofs.Checking.{answers}
use Rattle.parameters.proofs.Made.{Held, parameters_make, joined_append, past_append}
use Rattle.report.specs.Report.{Fields, time_size, format, stopped, layout_of, octets_of, checks_within}
use Rattle.report.specs.Internal.{after_cause}

-- ---- fields that were read, with their canonical octets

pub record Stands (mti : ℕ) (hasTime : Bool) (outcome : RpOutcome) (x : Fields) (cs : List Field) : Type 0 where
  pub carried : x.outcome ≡ outcome
  pub agrees : outcome_agrees x.outcome x.cause ≡ true
  pub octets : octets_of mti x ≡ joined cs
  pub time_octets : Octets x.scts
  pub time_size : time_size hasTime ≡ length x.scts
  pub few : length x.parameters.ud ≤ 255
  -- how the checks fare
  pub answer : Answers (checked (checks_within 140 true x) (octets_of mti x)) (joined cs) (any_past_limit cs)

-- a check that holds, between others
between : (why : Refusal) (more : List Check) (xs : List ℕ) (checks : List Check) → checked (checks ++ ((why unless true) ∷ more)) xs ≡ checked (checks ++ more) xs
between why more xs checks = checked_then xs checks _ ∙ rw (check_holds refl why more xs, ← checked_then xs checks more)

module _ (mti : ℕ) (hasTime : Bool) (outcome : RpOutcome) (udhi : Bool) (cause : Option ℕ) (agrees : outcome_agrees outcome cause ≡ true)
    (front : List Field) (j : joined front ≡ first_octet mti ((6, udhi) ∷ []) ∷ octets_held cause) (n : any_past_limit front ≡ false) where
  -- indicator, time and parameters stand after the fields of first octet and cause
  module _ (pi : ℕ) (t : List ℕ) (ot : Octets t) (wt : time_size hasTime ≡ length t) (p : Parameters) (cs : List Field) (h : Held pi p cs) where
    abbrev x : Fields
    x = record { outcome = outcome; udhi = udhi; cause = cause; indicator = pi; scts = t; parameters = p }

    abbrev all : List Field
    all = front ++ (stands_as indicator (pi ∷ []) ∷ stands_as (octets any (time_size hasTime)) t ∷ cs)

    octets_are : octets_of mti x ≡ joined all
    octets_are = rw (joined_append, j, ← h.octets)

    limits_are : any_past_limit all ≡ (is_set 7 pi || any_past_limit cs)
    limits_are = rw (past_append, n)

    stands : Stands mti hasTime outcome x all
    stands = record {
      carried = refl;
      agrees = agrees;
      octets = octets_are;
      time_octets = ot;
      time_size = wt;
      few = h.few;
      answer = rw (limits_are, ← octets_are, between NotATime (data_within 140 p.dcs p.udl (length p.ud)) (octets_of mti x) (indicator_checks pi p.pid p.dcs p.udl)) (answers h.agrees h.limit (octets_of mti x));
    }

  after_cause_makes : Makes (λ x cs. Stands mti hasTime outcome x (front ++ cs)) (after_cause hasTime outcome udhi cause)
  after_cause_makes pi low t ot wt = makes_then (Held pi) _ (parameters pi) _ (parameters_make pi) λ p cs h. rw append-nil (stands pi t ot wt p cs h)

-- the first octet in its canonical form
first_is : (mti x : ℕ) → message_type (kept (6 ∷ []) x) ≡ mti → kept (6 ∷ []) x ≡ first_octet mti ((6, is_set 6 (kept (6 ∷ []) x)) ∷ [])
first_is mti x m = kept_first (6 ∷ []) x ∙ rw (← m, kept_type (6 ∷ []) refl x, kept_bit (6 ∷ []) refl 6 refl x)

pub format_makes : (mti : ℕ) (hasTime : Bool) (outcome : RpOutcome) → Makes (Stands mti hasTime outcome) (format mti hasTime outcome)
unfolding format
format_makes mti hasTime RpAck = λ y low m.
    after_cause_makes mti hasTime RpAck _ None refl (stands_as (first (6 ∷ [])) (kept (6 ∷ []) y ∷ []) ∷ []) (ap (λ (n : ℕ). n ∷ []) (first_is mti y (eqb-true _ mti m))) refl
format_makes mti hasTime RpError = λ y low m cause small.
    after_cause_makes mti hasTime RpError _ (Some cause) refl (stands_as (first (6 ∷ [])) (kept (6 ∷ []) y ∷ []) ∷ stands_as octet (cause ∷ []) ∷ []) (ap (λ (n : ℕ). n ∷ cause ∷ []) (first_is mti y (eqb-true _ mti m))) refl

-- ---- the records that they make

-- a record's octets, and what its writer makes, are those of its fields
module _ {R : Type 0} (mti : ℕ) (hasTime : Bool) (make : Fields → R) (cleared : R → R) (write : R → Making ℕ) (written : R → List ℕ)
    (held : (outcome : RpOutcome) (x : Fields) (cs : List Field) → Stands mti hasTime outcome x cs → written (cleared (make x)) ≡ octets_of mti x)
    (making : (outcome : RpOutcome) (x : Fields) (cs : List Field) → Stands mti hasTime outcome x cs → write (make x) ≡ checked (checks_within 140 true x) (octets_of mti x)) where
  abbrev format_of : RpOutcome → Format R
  format_of outcome = format mti hasTime outcome then λ x. done (make x)

  pub records_make : (outcome : RpOutcome) → Makes (Writes cleared write written) (format_of outcome)
  records_make outcome = makes_then (Stands mti hasTime outcome) _ (format mti hasTime outcome) _ (format_makes mti hasTime outcome) λ x cs h.
      rw append-nil (record { octets = held outcome x cs h ∙ h.octets; answer = rw (making outcome x cs h) h.answer })

  pub ack_demand3 : Demand3 cleared (records make (layout_of mti hasTime RpAck)) write false
  ack_demand3 = demand3 cleared write written (format_of RpAck) (records_make RpAck)

  pub ack_answers : (s : List ℕ) → Octets s → (r : R) (n : ℕ) → let l = records make (layout_of mti hasTime RpAck) in read l s ≡ reached r n → Answers (write r) (canonical_of l s) (unwritable l false s)
  ack_answers = answers_plain cleared write written (format_of RpAck) (records_make RpAck)

  -- the stopped RP-ERROR is beside the others, and is written or refused
  module _ (refuses : Bool) (beside : Stopped cleared write (format_of RpError) (mti ∷ 0xff ∷ 0x00 ∷ []) (make stopped) refuses) where
    pub error_demand3 : Demand3 cleared (records make (layout_of mti hasTime RpError)) write refuses
    error_demand3 = demand3_stopping cleared write written (format_of RpError) (records_make RpError) mti (mti ∷ 0xff ∷ 0x00 ∷ []) (make stopped) refuses beside

    pub error_answers : (s : List ℕ) → Octets s → (r : R) (n : ℕ) → let l = records make (layout_of mti hasTime RpError) in read l s ≡ reached r n → Answers (write r) (canonical_of l s) (unwritable l refuses s)
    error_answers = answers_stopping cleared write written (format_of RpError) (records_make RpError) mti (mti ∷ 0xff ∷ 0x00 ∷ []) (make stopped) refuses beside
