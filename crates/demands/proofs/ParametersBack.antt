-- Parameters that pass the checks are read back as they were written.
-- Assumes nothing.
use Rattle.std.specs.Prelude.{Some, None, Option}
use Prim.Native.Nat.{ℕ, ◌+◌, ◌*◌, ◌%◌, ◌≤◌}
use mathlib.Core.Path.{◌≡◌, refl, sym, ap, ◌∙◌}
use mathlib.Core.Bool.{Bool, true, false, not, false≢true}
use mathlib.Core.List.{List, [], ◌∷◌, ◌++◌, append_assoc, append-nil}
use native.Mathlib.Omega.{arith}
use borrow.Author.Tests.{eq-eqb, ne_eqb, eqb-true}
use lib.Dec.{eqb}
use lib.ListN.{length, drop, length-append}
use Rattle.octets.specs.Answers.{fine}
use Rattle.octets.specs.Checks.{◌unless◌, found}
use Rattle.octets.specs.declared.Refusal.TheVariants.{IndicatorDisagrees, IndicatorExtended}
use Rattle.octets.proofs.Checks.{holds}
use Rattle.coding.specs.Coding.{coding_of, data_octets}
use Rattle.layout.specs.Cut.{Endless}
use Rattle.layout.specs.Layout.{octet, user_data, indicator, indicator_size, bit, is_set, Field, stands_as, joined, Format, field, ◌then◌, reached, reading, read_from}
use Rattle.layout.proofs.LayoutBack.{field_here, Calls, joined_read, calls_then}
use Rattle.layout.proofs.Beginnings.{endless_then}
use Rattle.layout.proofs.Steps.{then_goes_on}
use Rattle.parameters.specs.Optional.{octets_held, held, or_zero}
use Rattle.parameters.specs.Parameters.{Parameters, parameters_octets}
use Rattle.parameters.proofs.Checking.{data_few}
use Rattle.parameters.proofs.Laws.{one_at_most}
use Rattle.parameters.specs.Checking.{indicator_checks, data_within}
use Rattle.parameters.specs.Layout.{announced, data_for, parameters}
use Rattle.parameters.proofs.Made.{three_bits, joined_append}

-- parameters that pass have at most three octets more than the user data may
pub parameters_limit : (limit : ℕ) (p : Parameters) → found (data_within limit p.dcs p.udl (length p.ud)) ≡ fine → held p.pid + held p.dcs + held p.udl + length p.ud ≤ 3 + limit
parameters_limit limit p h = omega (arith, one_at_most p.pid, one_at_most p.dcs, one_at_most p.udl, (data_few limit p.dcs p.udl (length p.ud) h).1)

-- three bits are told by their number
three : {a b c x y z : ℕ} → a ≤ 1 → b ≤ 1 → c ≤ 1 → x ≤ 1 → y ≤ 1 → z ≤ 1 → a + 2 * b + 4 * c ≡ x + 2 * y + 4 * z → (a ≡ x) × (b ≡ y) × (c ≡ z)
three ha hb hc hx hy hz e = (omega arith, omega arith, omega arith)

-- ---- no format of them asks whether the string has ended

announced_endless : (b : Bool) → Endless (announced b)
announced_endless true = λ c. tt
announced_endless false = tt

data_endless : (dcs udl : Option ℕ) → Endless (data_for dcs udl)
data_endless dcs None = tt
data_endless dcs (Some udl) = λ c. tt

pub endless : (pi : ℕ) → Endless (parameters pi)
unfolding parameters
endless pi =
    endless_then (announced (is_set 0 pi)) _ (announced_endless (is_set 0 pi)) λ pid. endless_then (announced (is_set 1 pi)) _ (announced_endless (is_set 1 pi)) λ dcs.
    endless_then (announced (is_set 2 pi)) _ (announced_endless (is_set 2 pi)) λ udl. endless_then (data_for dcs udl) _ (data_endless dcs udl) λ ud. tt

pub parameters_endless : {R : Type 0} (pi : ℕ) (next : Parameters → Format R) → ((p : Parameters) → Endless (next p)) → Endless (parameters pi then next)
parameters_endless pi next = endless_then (parameters pi) next (endless pi)

-- ---- the fields of parameters

-- an octet that is held or not
abbrev pub optional : Option ℕ → List Field
optional None = []
optional (Some x) = stands_as octet (x ∷ []) ∷ []

abbrev data_fields : Option ℕ → Option ℕ → List ℕ → List Field
data_fields dcs None ud = []
data_fields dcs (Some udl) ud = stands_as (user_data (data_octets (coding_of (or_zero dcs)) udl)) ud ∷ []

abbrev pub parts : Parameters → List Field
parts p = optional p.pid ++ (optional p.dcs ++ (optional p.udl ++ (data_fields p.dcs p.udl p.ud ++ [])))

pub optional_joined : (o : Option ℕ) → joined (optional o) ≡ octets_held o
optional_joined None = refl
optional_joined (Some x) = refl

announced_called : (o : Option ℕ) (b pi : ℕ) → held o ≡ bit b pi → Calls (announced (is_set b pi)) (optional o) o
announced_called None b pi h = rw (ne_eqb (bit b pi) 1 (λ e. omega arith)) refl
announced_called (Some x) b pi h = rw (eq-eqb (bit b pi) 1 (sym h)) (refl, refl, refl)

data_called : (limit : ℕ) (dcs udl : Option ℕ) (ud : List ℕ) → found (data_within limit dcs udl (length ud)) ≡ fine → Calls (data_for dcs udl) (data_fields dcs udl ud) ud × (joined (data_fields dcs udl ud) ≡ ud)
data_called limit dcs None [] h = (refl, refl)
data_called limit dcs None (x ∷ ud) h = absurd (omega (arith, (data_few limit dcs None (length (x ∷ ud)) h).0))
data_called limit dcs (Some udl) ud h = ((sym (data_few limit dcs (Some udl) (length ud) h).0, refl, refl), append-nil ud)

module _ (limit pi : ℕ) (p : Parameters) (i : found (indicator_checks pi p.pid p.dcs p.udl) ≡ fine) (d : found (data_within limit p.dcs p.udl (length p.ud)) ≡ fine) where
  both : (eqb (pi % 8) (held p.pid + 2 * held p.dcs + 4 * held p.udl) ≡ true) × (not (is_set 7 pi) ≡ true)
  unfolding indicator_checks
  both =
      let (a, e) = holds IndicatorDisagrees (eqb (pi % 8) (held p.pid + 2 * held p.dcs + 4 * held p.udl)) ((IndicatorExtended unless not (is_set 7 pi)) ∷ []) i in
      (a, (holds IndicatorExtended (not (is_set 7 pi)) [] e).0)

  announces : (held p.pid ≡ bit 0 pi) × (held p.dcs ≡ bit 1 pi) × (held p.udl ≡ bit 2 pi)
  announces = three (one_at_most p.pid) (one_at_most p.dcs) (one_at_most p.udl) (omega arith) (omega arith) (omega arith) (sym (eqb-true _ _ both.0) ∙ three_bits pi)

  pub not_extended : is_set 7 pi ≡ false
  not_extended = by (is_set 7 pi) both.1
    where
      by : (b : Bool) → not b ≡ true → b ≡ false
      by true e = absurd (false≢true e)
      by false e = refl

  -- they are called for by their indicator, and are its octets
  pub parameters_called : Calls (parameters pi) (parts p) p
  unfolding parameters
  parameters_called =
      let (a, b, c) = announces in
      calls_then p.pid p (announced (is_set 0 pi)) _ (announced_endless (is_set 0 pi)) _ _ (announced_called p.pid 0 pi a)
      (calls_then p.dcs p (announced (is_set 1 pi)) _ (announced_endless (is_set 1 pi)) _ _ (announced_called p.dcs 1 pi b)
      (calls_then p.udl p (announced (is_set 2 pi)) _ (announced_endless (is_set 2 pi)) _ _ (announced_called p.udl 2 pi c)
      (calls_then p.ud p (data_for p.dcs p.udl) _ (data_endless p.dcs p.udl) _ _ (data_called limit p.dcs p.udl p.ud d).0 refl)))

  pub parts_joined : joined (parts p) ≡ parameters_octets p
  parts_joined = simp (joined_append, optional_joined, (data_called limit p.dcs p.udl p.ud d).1, append-nil, append_assoc) refl

-- ---- an indicator, and parameters, that stand at a place

pub indicator_here : {R : Type 0} (s : List ℕ) (at : ℕ) {x : ℕ} {t : List ℕ} → drop at s ≡ x ∷ t → (next : List ℕ → Format R) → is_set 7 x ≡ false → read_from (field indicator next) s at ≡ read_from (next (x ∷ [])) s (at + 1)
unfolding indicator_size
indicator_here s at {x} {t} e next f = field_here indicator next s at (x ∷ []) t e (rw f)

module _ {R : Type 0} (limit pi : ℕ) (p : Parameters) (i : found (indicator_checks pi p.pid p.dcs p.udl) ≡ fine) (d : found (data_within limit p.dcs p.udl (length p.ud)) ≡ fine) where
  pub parameters_here : (s : List ℕ) (at : ℕ) → drop at s ≡ parameters_octets p → (next : Parameters → Format R)
      → read_from (parameters pi then next) s at ≡ read_from (next p) s (at + held p.pid + held p.dcs + held p.udl + length p.ud)
  unfolding read_from
  parameters_here s at e next =
      let n : at + length (joined (parts p)) ≡ at + held p.pid + held p.dcs + held p.udl + length p.ud = rw (parts_joined limit pi p i d) (simp length-append (omega arith)) in
      then_goes_on s (parameters pi) at (ap (λ (l : List ℕ). reading (parameters pi) l at) (e ∙ sym (parts_joined limit pi p i d)) ∙ joined_read p (parameters pi) (parts p) (parameters_called limit pi p i d) at ∙ ap (reached p) n) next
