-- A report's writers differ in the limit of user data alone.
-- Assumes nothing.
use Prim.Native.Nat.{ℕ}
use mathlib.Core.Path.{◌≡◌, sym, ap, ◌∙◌}
use mathlib.Core.Bool.{Bool}
use mathlib.Core.List.{List, [], ◌∷◌, ◌++◌, append_assoc}
use lib.ListN.{length}
use Rattle.octets.specs.Checks.{Check, ◌unless◌, checked}
use Rattle.octets.specs.Lent.{Making}
use Rattle.octets.specs.declared.Refusal.TheVariants.{NotATime}
use Rattle.parameters.specs.Checking.{indicator_checks, data_within}
use Rattle.parameters.specs.Limits.{Limits}
use Rattle.parameters.proofs.Limits.{writing, limits, keeps, moves}
use Rattle.report.specs.Report.{Fields, octets_of, checks_within}

-- what stands before the checks of the fields, and whether the time is one, are a record's
module _ {R : Type 0} (before : R → List Check) (time_holds : R → Bool) (mti : ℕ) (fields_in : R → Fields) where
  abbrev within : ℕ → R → Making ℕ
  within limit r = checked (before r ++ checks_within limit (time_holds r) (fields_in r)) (octets_of mti (fields_in r))

  abbrev front : R → List Check
  front r = let x = fields_in r in before r ++ (indicator_checks x.indicator x.parameters.pid x.parameters.dcs x.parameters.udl ++ ((NotATime unless time_holds r) ∷ []))

  abbrev count : R → ℕ
  count r = length (fields_in r).parameters.ud

  -- the checks of user data stand last
  data_last : (limit : ℕ) (r : R) → within limit r ≡ writing (front r) (fields_in r).parameters.dcs (fields_in r).parameters.udl (count r) (octets_of mti (fields_in r)) limit
  data_last limit r =
      let x = fields_in r in
      let first = indicator_checks x.indicator x.parameters.pid x.parameters.dcs x.parameters.udl in
      let last = data_within limit x.parameters.dcs x.parameters.udl (count r) in
      ap (λ (l : List Check). checked l (octets_of mti x))
      (ap (λ (l : List Check). before r ++ l) (sym (append_assoc first ((NotATime unless time_holds r) ∷ []) last)) ∙ sym (append_assoc (before r) (first ++ ((NotATime unless time_holds r) ∷ [])) last))

  pub report_limits : Limits within count
  report_limits =
      limits within count λ r.
      let p = (fields_in r).parameters in
      let xs = octets_of mti (fields_in r) in (
        λ limit octets answer e. keeps (front r) p.dcs p.udl (count r) xs limit octets answer (sym (data_last limit r) ∙ e),
        λ limit other octets answer e h. data_last other r ∙ moves (front r) p.dcs p.udl (count r) xs limit octets answer (sym (data_last limit r) ∙ e) other h,
      )
