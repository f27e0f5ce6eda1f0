-- The records of one reader have its outcome.
-- Assumes nothing.
use Prim.Native.Nat.{ℕ}
use mathlib.Core.Path.{◌≡◌, refl, sym, ap, ◌∙◌}
use mathlib.Core.Bool.{Bool}
use mathlib.Core.List.{List}
use mathlib.Core.Logic.{⊎_elim}
use native.Mathlib.Omega.{arith}
use Rattle.octets.specs.Each.{Octets}
use Rattle.octets.proofs.Choice.{chosen}
use Rattle.layout.specs.Layout.{Layout, stops, Reached, reached, halted, read_from, read, records}
use Rattle.layout.proofs.Makes.{makes}
use Rattle.layout.proofs.Records.{onward, read_records}
use Rattle.parameters.specs.Outcome.{OneOutcome}
use Rattle.parameters.specs.declared.RpOutcome.{RpOutcome}
use Rattle.parameters.specs.declared.RpOutcome.TheVariants.{RpAck, RpError}
use Rattle.report.specs.Report.{Fields, format, stopped, layout_of}
use Rattle.report.proofs.Made.{Stands, format_makes}

module _ {R : Type 0} (cleared : R → R) (outcomeOf : R → RpOutcome) (with_outcome : RpOutcome → R → R) (kept : (r : R) → outcomeOf (cleared r) ≡ outcomeOf r) (own : (r : R) → with_outcome (outcomeOf r) r ≡ r)
    (again : (o p : RpOutcome) (r : R) → with_outcome o (with_outcome p r) ≡ with_outcome o r) where
  -- records of one outcome that are equal without it are equal
  back : (r q : R) → outcomeOf r ≡ outcomeOf q → with_outcome RpAck r ≡ with_outcome RpAck q → r ≡ q
  back r q same e =
      let o = outcomeOf r in
      sym (own r) ∙ sym (again o RpAck r) ∙ ap (with_outcome o) e ∙ again o RpAck q ∙ ap (λ (p : RpOutcome). with_outcome p q) same ∙ own q

  module _ (l : Layout R) (outcome : RpOutcome) (held : (s : List ℕ) (r : R) (n : ℕ) → Octets s → read l s ≡ reached r n → outcomeOf r ≡ outcome) where
    by_held : OneOutcome cleared outcomeOf with_outcome l outcome
    by_held = record {
      held = held;
      as_equal = λ s t r q n m os ot e f.
          let same : outcomeOf (cleared r) ≡ outcomeOf (cleared q) = kept r ∙ held s r n os e ∙ sym (held t q m ot f) ∙ sym (kept q) in
          (ap (with_outcome RpAck), back (cleared r) (cleared q) same);
    }

  -- the records that fields make, of which the outcome is one
  module _ (make : Fields → R) (says : (x : Fields) → outcomeOf (make x) ≡ x.outcome) (mti : ℕ) (hasTime : Bool) (outcome : RpOutcome) where
    fields_outcome : (s : List ℕ) (x : Fields) (n : ℕ) → Octets s → read (layout_of mti hasTime outcome) s ≡ reached x n → x.outcome ≡ outcome
    unfolding read read_from
    fields_outcome s x n o e = by outcome e
      where
        of_format : (outcome : RpOutcome) → read_from (format mti hasTime outcome) s 0 ≡ reached x n → x.outcome ≡ outcome
        of_format outcome e = (makes (Stands mti hasTime outcome) (format mti hasTime outcome) (format_makes mti hasTime outcome) s 0 o e).carried

        by : (outcome : RpOutcome) → read (layout_of mti hasTime outcome) s ≡ reached x n → x.outcome ≡ outcome
        by RpAck e = of_format RpAck e
        by RpError e = ⊎_elim (λ w. let z : stopped ≡ x = cc in ap (λ (y : Fields). y.outcome) (sym z)) (λ w. of_format RpError w.1) (chosen (stops mti s) e)

    pub one_outcome : OneOutcome cleared outcomeOf with_outcome (records make (layout_of mti hasTime outcome)) outcome
    one_outcome = by_held (records make (layout_of mti hasTime outcome)) outcome λ s r n o e. by s r n o (read (layout_of mti hasTime outcome) s) refl (sym (read_records make (layout_of mti hasTime outcome) s) ∙ e)
      where
        by : (s : List ℕ) (r : R) (n : ℕ) → Octets s → (x : Reached Fields) → read (layout_of mti hasTime outcome) s ≡ x → onward make x ≡ reached r n → outcomeOf r ≡ outcome
        by s r n o (reached y m) d h = let z : make y ≡ r = cc in ap outcomeOf (sym z) ∙ says y ∙ fields_outcome s y m o d
        by s r n o (halted why) d h = let z : ◌≡◌ {A = ℕ} 0 1 = cc in absurd (omega arith)
