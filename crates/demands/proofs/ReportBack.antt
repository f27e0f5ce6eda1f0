-- Demand 2 of document 01 for both reports: what was written is read back by the reader of its outcome as the same record, time letters capital.
-- And each proper beginning of it is refused with 2 (document 02, Ask 9).
-- Assumes nothing.
use Rattle.std.specs.Prelude.{Some, None, Option}
use Prim.Native.Nat.{ℕ, ◌+◌, ◌≤◌, ◌<◌}
use mathlib.Core.Path.{◌≡◌, refl, sym, ap, ap₂, ◌∙◌}
use mathlib.Core.Bool.{Bool, true, false, false≢true, and-false}
use mathlib.Core.List.{List, [], ◌∷◌, ◌++◌, append-nil}
use mathlib.Core.Option.{none}
use native.Mathlib.Nat.{zero-add}
use native.Mathlib.Omega.{arith}
use borrow.Author.Tests.{eq-eqb}
use lib.Bits.{bit_and}
use lib.ListN.{length, length-append}
use Rattle.octets.specs.Answers.{fine}
use Rattle.octets.specs.Checks.{◌unless◌, found}
use Rattle.octets.specs.Lent.{Making, made}
use Rattle.octets.specs.declared.Refusal.TheVariants.{NotATime}
use Rattle.octets.proofs.Checks.{never, holds, both_hold}
use Rattle.layout.specs.Cut.{Cut, EndlessLayout}
use Rattle.layout.specs.Demand.{Demand2}
use Rattle.layout.specs.Layout.{first, octets, any, indicator, indicator_size, first_octet, leading, Field, stands_as, joined, ◌then◌, Layout, reached, after, reading, read_from, stops, read, records}
use Rattle.layout.proofs.Beginnings.{cut_read, cut_always, endless_then}
use Rattle.layout.proofs.FirstOctet.{first_type, first_flag, first_kept}
use Rattle.layout.proofs.LayoutBack.{Calls, joined_read, calls_then}
use Rattle.layout.proofs.Records.{onward, read_records}
use Rattle.parameters.specs.Checking.{indicator_checks, data_within}
use Rattle.parameters.specs.Optional.{held}
use Rattle.parameters.specs.Parameters.{parameters_octets}
use Rattle.parameters.specs.Outcome.{outcome_agrees}
use Rattle.parameters.specs.declared.RpOutcome.{RpOutcome}
use Rattle.parameters.specs.declared.RpOutcome.TheVariants.{RpAck, RpError}
use Rattle.parameters.specs.Layout.{parameters}
use Rattle.parameters.proofs.Made.{joined_append}
use Rattle.report.specs.Report.{Fields, time_size, format, layout_of, octets_of, checks_within}
use Rattle.report.specs.Internal.{after_cause}
use Rattle.demands.proofs.ParametersBack.{endless, optional, optional_joined, parts, not_extended, parameters_called, parts_joined, parameters_limit, parameters_endless}

-- ---- fields that pass the checks are read back

-- a report's TP-MTI, without the bits that stop an RP-ERROR
module _ (mti : ℕ) (low : mti < 4) (free : (udhi : Bool) → bit_and (first_octet mti ((6, udhi) ∷ [])) 0xbc ≡ 0) (hasTime : Bool) where
  -- what a writer has checked
  pub record Passed (limit : ℕ) (x : Fields) : Type 0 where
    pub agrees : outcome_agrees x.outcome x.cause ≡ true
    pub checks : found (checks_within limit true x) ≡ fine
    pub time_size : time_size hasTime ≡ length x.scts

  module _ (limit : ℕ) (x : Fields) (passed : Passed limit x) where
    its_checks : (found (indicator_checks x.indicator x.parameters.pid x.parameters.dcs x.parameters.udl) ≡ fine) × (found (data_within limit x.parameters.dcs x.parameters.udl (length x.parameters.ud)) ≡ fine)
    its_checks =
        let p = x.parameters in
        let last = data_within limit p.dcs p.udl (length p.ud) in
        let (i, k) = both_hold (indicator_checks x.indicator p.pid p.dcs p.udl) ((NotATime unless true) ∷ last) passed.checks in
        (i, (holds NotATime true last k).1)

    -- they are at most five octets more than cause, time and user data may be
    pub fields_at_most : length (octets_of mti x) ≤ 5 + held x.cause + time_size hasTime + limit
    fields_at_most = simp length-append (omega (arith, passed.time_size, parameters_limit limit x.parameters its_checks.1))

    abbrev flags : List (ℕ × Bool)
    flags = (6, x.udhi) ∷ []

    abbrev rest : List Field
    rest = stands_as indicator (x.indicator ∷ []) ∷ stands_as (octets any (time_size hasTime)) x.scts ∷ parts x.parameters ++ []

    abbrev all : List Field
    all = stands_as (first (6 ∷ [])) (first_octet mti flags ∷ []) ∷ optional x.cause ++ rest

    joined_is : joined all ≡ octets_of mti x
    joined_is =
        let last : joined (parts x.parameters ++ []) ≡ parameters_octets x.parameters = ap joined (append-nil (parts x.parameters)) ∙ parts_joined limit x.indicator x.parameters its_checks.0 its_checks.1 in
        ap (λ (l : List ℕ). first_octet mti flags ∷ l) (joined_append (optional x.cause) rest ∙ ap₂ ◌++◌ (optional_joined x.cause) (ap (λ (l : List ℕ). x.indicator ∷ x.scts ++ l) last))

    rest_called : (outcome : RpOutcome) (udhi : Bool) (cause : Option ℕ) → x.outcome ≡ outcome → x.udhi ≡ udhi → x.cause ≡ cause → Calls (after_cause hasTime outcome udhi cause) rest x
    unfolding indicator_size
    rest_called outcome udhi cause o u c =
        let p = x.parameters in
        let (i, d) = its_checks in (
          rw (not_extended limit x.indicator p i d),
          refl,
          (
            passed.time_size,
            refl,
            calls_then p x (parameters x.indicator) _ (endless x.indicator) (parts p) [] (parameters_called limit x.indicator p i d) (rw (← o, ← u, ← c)),
          ),
        )

    called : (outcome : RpOutcome) (cause : Option ℕ) → outcome_agrees outcome cause ≡ true → x.outcome ≡ outcome → x.cause ≡ cause
        → Calls (format mti hasTime outcome) (stands_as (first (6 ∷ [])) (first_octet mti flags ∷ []) ∷ optional cause ++ rest) x
    unfolding format
    called RpAck None a o c = (refl, ap (λ (n : ℕ). n ∷ []) (first_kept mti low flags refl), (eq-eqb _ mti (first_type mti low flags refl), rest_called RpAck _ None o (sym (first_flag mti low flags refl 6 refl)) c))
    called RpAck (Some y) a o c = absurd (false≢true a)
    called RpError None a o c = absurd (false≢true a)
    called RpError (Some y) a o c =
        (refl, ap (λ (n : ℕ). n ∷ []) (first_kept mti low flags refl), (eq-eqb _ mti (first_type mti low flags refl), (refl, refl, rest_called RpError _ (Some y) o (sym (first_flag mti low flags refl 6 refl)) c)))

    from_format : read_from (format mti hasTime x.outcome) (octets_of mti x) 0 ≡ reached x (length (octets_of mti x))
    unfolding read_from
    from_format =
        ap (λ (s : List ℕ). reading (format mti hasTime x.outcome) s 0) (sym joined_is) ∙ joined_read x (format mti hasTime x.outcome) all (called x.outcome x.cause passed.agrees refl refl) 0
        ∙ ap (reached x) (zero-add (length (joined all)) ∙ ap length joined_is)

    pub fields_back : read (layout_of mti hasTime x.outcome) (octets_of mti x) ≡ reached x (length (octets_of mti x))
    unfolding read stops
    fields_back = by x.outcome from_format
      where
        by : (outcome : RpOutcome) → read_from (format mti hasTime outcome) (octets_of mti x) 0 ≡ reached x (length (octets_of mti x)) → read (layout_of mti hasTime outcome) (octets_of mti x) ≡ reached x (length (octets_of mti x))
        by RpAck e = e
        by RpError e = rw (free x.udhi, and-false) e

-- neither layout asks whether the string has ended
pub endless_outcome : {R : Type 0} (mti : ℕ) (hasTime : Bool) (make : Fields → R) (outcome : RpOutcome) → EndlessLayout (records make (layout_of mti hasTime outcome))
unfolding format read_from reading after
endless_outcome mti hasTime make RpAck = λ first i scts. endless_then (parameters (leading i) then _) _ (parameters_endless (leading i) _ λ p. tt) λ x. tt
endless_outcome mti hasTime make RpError = (λ first cause i scts. endless_then (parameters (leading i) then _) _ (parameters_endless (leading i) _ λ p. tt) λ x. tt, refl)

-- ---- the records that they make

-- what is known of a record that was written: its octets are those of its fields, which passed, and make the same record again
pub record Told {R : Type 0} (mti : ℕ) (low : mti < 4) (free : (udhi : Bool) → bit_and (first_octet mti ((6, udhi) ∷ [])) 0xbc ≡ 0) (hasTime : Bool) (make : Fields → R) (fields_in : R → Fields) (Typed : R → Type 0) (cleared capitalised : R → R)
    (limit : ℕ) (r : R) (os : List ℕ) : Type 0 where
  pub is : octets_of mti (fields_in r) ≡ os
  pub passed : Passed mti low free hasTime limit (fields_in r)
  pub same : Typed r → cleared (make (fields_in r)) ≡ capitalised (cleared r)

module _ {R : Type 0} (mti : ℕ) (low : mti < 4) (free : (udhi : Bool) → bit_and (first_octet mti ((6, udhi) ∷ [])) 0xbc ≡ 0) (hasTime : Bool) (make : Fields → R) (fields_in : R → Fields) (Typed : R → Type 0) (cleared capitalised : R → R)
    (within : ℕ → R → Making ℕ) (told : (limit : ℕ) (r : R) (os : List ℕ) (answer : ℕ) → within limit r ≡ made os answer → Told mti low free hasTime make fields_in Typed cleared capitalised limit r os) where
  abbrev layout_for : R → Layout R
  layout_for r = records make (layout_of mti hasTime (fields_in r).outcome)

  -- it is read back, to its end
  read_back : (limit : ℕ) (r : R) (os : List ℕ) (answer : ℕ) → within limit r ≡ made os answer → read (layout_for r) os ≡ reached (make (fields_in r)) (length os)
  read_back limit r os answer e =
      let t = told limit r os answer e in
      let l = layout_of mti hasTime (fields_in r).outcome in
      ap (λ (s : List ℕ). read (layout_for r) s) (sym t.is) ∙ read_records make l (octets_of mti (fields_in r)) ∙ ap (onward make) (fields_back mti low free hasTime limit (fields_in r) t.passed)
      ∙ ap (λ (s : List ℕ). reached (make (fields_in r)) (length s)) t.is

  -- at most so much is written
  pub at_most_within : (limit : ℕ) (r : R) (os : List ℕ) (answer : ℕ) → within limit r ≡ made os answer → length os ≤ 5 + held (fields_in r).cause + time_size hasTime + limit
  at_most_within limit r os answer e = let t = told limit r os answer e in rw (← t.is) (fields_at_most mti low free hasTime limit (fields_in r) t.passed)

  -- the writer within the limit of each record
  module _ (limitOf : R → ℕ) where
    pub report_demand2 : Demand2 Typed cleared capitalised layout_for (λ r. within (limitOf r) r) (λ r. fine) (λ r. false)
    report_demand2 = record {
      back = λ r t os n e x. (make (fields_in r), length os, read_back (limitOf r) r os n e, (told (limitOf r) r os n e).same t);
      excepted = λ r t os n e why x. absurd (never x);
      only = λ r why x. absurd (never x);
    }

    pub report_ends : Cut Typed cleared capitalised layout_for (λ r. within (limitOf r) r) (λ r. none) (λ r. r)
    report_ends = cut_always _ _ _ _ _ λ r t os n e. cut_read (layout_for r) (endless_outcome mti hasTime make (fields_in r).outcome) os (read_back (limitOf r) r os n e)
