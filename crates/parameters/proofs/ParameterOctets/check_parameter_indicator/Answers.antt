-- `parameters::ParameterOctets::check_parameter_indicator` meets its contract: the tests are the definition's.
use Rattle.std.specs.Prelude.{Err, Option}
use Prim.Native.Nat.{ℕ, ◌+◌, ◌*◌, ◌%◌}
use mathlib.Core.Path.{◌≡◌}
use borrow.Author.Tests.{eq-eqb, ne_eqb}
use native.Mathlib.Omega.{arith}
use Rattle.octets.specs.Answers.{fine}
use Rattle.octets.specs.declared.Refusal.TheVariants.{IndicatorDisagrees, IndicatorExtended}
use Rattle.octets.specs.Checks.{found}
use Rattle.layout.specs.Layout.{bit}
use Rattle.parameters.specs.Optional.{held}
use Rattle.parameters.proofs.Laws.{one_at_most}
use Rattle.parameters.specs.Checking.{indicator_checks}
use Rattle.parameters.proofs.ParameterOctets.check_parameter_indicator.Goals as goal

-- what the calls tell is held
module _ (pi : ℕ) (pid dcs udl : Option ℕ) {a b c : ℕ} (p : a ≡ held pid) (d : b ≡ held dcs) (u : c ≡ held udl) where
  disagrees : (pi % 8 ≡ a + 2 * b + 4 * c → ⊥) → Err IndicatorDisagrees ≡ found (indicator_checks pi pid dcs udl)
  unfolding indicator_checks
  disagrees h = rw (← p, ← d, ← u, ne_eqb _ _ h)

  module _ (h : pi % 8 ≡ a + 2 * b + 4 * c) where
    extended : bit 7 pi ≡ 1 → Err IndicatorExtended ≡ found (indicator_checks pi pid dcs udl)
    unfolding indicator_checks
    extended e = rw (← p, ← d, ← u, eq-eqb _ _ h, eq-eqb (bit 7 pi) 1 e)

    all_fine : (bit 7 pi ≡ 1 → ⊥) → fine ≡ found (indicator_checks pi pid dcs udl)
    unfolding indicator_checks
    all_fine e = rw (← p, ← d, ← u, eq-eqb _ _ h, ne_eqb (bit 7 pi) 1 e)

pub overflow_mul-supplied : goal.overflow_mul-supplied
overflow_mul-supplied c = omega (arith, one_at_most c.args.self.dcs)

pub overflow_add-supplied : goal.overflow_add-supplied
overflow_add-supplied c = omega (arith, one_at_most c.args.self.pid, one_at_most c.args.self.dcs)

pub overflow_mul-supplied-2 : goal.overflow_mul-supplied-2
overflow_mul-supplied-2 c = omega (arith, one_at_most c.args.self.udl)

pub overflow_add-supplied-2 : goal.overflow_add-supplied-2
overflow_add-supplied-2 c = omega (arith, one_at_most c.args.self.pid, one_at_most c.args.self.dcs, one_at_most c.args.self.udl)

pub returns-then-indicator-supplied : goal.returns-then-indicator-supplied
returns-then-indicator-supplied c = let d = c.before in disagrees _ _ _ _ d.octets_held.ensures d.octets_held-2.ensures d.octets_held-3.ensures c.if-indicator-supplied.true

pub returns-then-indicator-eq1 : goal.returns-then-indicator-eq1
returns-then-indicator-eq1 c = let d = c.before.before in extended _ _ _ _ d.octets_held.ensures d.octets_held-2.ensures d.octets_held-3.ensures c.if-indicator-supplied.false c.if-indicator-eq1.true

pub returns : goal.returns
returns c = let d = c.before.before in all_fine _ _ _ _ d.octets_held.ensures d.octets_held-2.ensures d.octets_held-3.ensures c.if-indicator-supplied.false c.if-indicator-eq1.false
