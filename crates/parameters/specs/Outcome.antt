-- The outcome that carries a report: an RP-ACK, or an RP-ERROR, which alone has a TP-Failure-Cause (TS 23.040 §9.2.2.1a, §9.2.2.2a).
use Rattle.std.specs.Prelude.{ℕ, ◌≡◌, Bool, true, false, List, ◌↔◌, Some, None, Option}
use Rattle.octets.specs.Each.{Octets}
use Rattle.layout.specs.Layout.{Layout, reached, read}
use Rattle.parameters.specs.declared.RpOutcome.{RpOutcome}
use Rattle.parameters.specs.declared.RpOutcome.TheVariants.{RpAck, RpError}

-- whether its layout has a cause
abbrev pub has_cause : RpOutcome → Bool
has_cause RpAck = false
has_cause RpError = true

-- the outcome and the cause held agree (refusal 29): RP-ERROR with a cause, RP-ACK without one
abbrev pub outcome_agrees : RpOutcome → Option ℕ → Bool
outcome_agrees RpAck None = true
outcome_agrees RpAck (Some cause) = false
outcome_agrees RpError None = false
outcome_agrees RpError (Some cause) = true

-- the outcome is that of the entry point used, so the records of one reader are as equal or different as they are without it. `outcomeOf` is a record's outcome, `with_outcome` the record with another
pub record OneOutcome {R : Type 0} (cleared : R → R) (outcomeOf : R → RpOutcome) (with_outcome : RpOutcome → R → R) (l : Layout R) (outcome : RpOutcome) : Type 0 where
  pub held : (s : List ℕ) (r : R) (n : ℕ) → Octets s → read l s ≡ reached r n → outcomeOf r ≡ outcome
  pub as_equal : (s t : List ℕ) (r q : R) (n m : ℕ) → Octets s → Octets t → read l s ≡ reached r n → read l t ≡ reached q m
      → (cleared r ≡ cleared q) ↔ (with_outcome RpAck (cleared r) ≡ with_outcome RpAck (cleared q))
