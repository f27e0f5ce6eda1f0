-- Writers that differ in the limit of user data alone.
-- Assumes nothing.
use Rattle.std.specs.Prelude.{Option}
use Prim.Native.Nat.{ℕ, ◌≤◌}
use mathlib.Core.Path.{◌≡◌, sym, ◌∙◌}
use mathlib.Core.List.{List, ◌++◌}
use Rattle.octets.specs.Answers.{fine}
use Rattle.octets.specs.Checks.{Check, found, checked}
use Rattle.octets.specs.Lent.{Making, made}
use Rattle.octets.proofs.Checks.{both_hold, passed, all_passed, made_told}
use Rattle.parameters.specs.Checking.{data_within}
use Rattle.parameters.specs.Limits.{Limits}
use Rattle.parameters.proofs.Checking.{data_few, data_moves}

-- it is enough that user data that pass keep within the limit, and pass within every other that they keep within
module _ {R : Type 0} (within : ℕ → R → Making ℕ) (count : R → ℕ) where
  abbrev Keeps : R → Type 0
  Keeps r = (limit : ℕ) (octets : List ℕ) (answer : ℕ) → within limit r ≡ made octets answer → count r ≤ limit

  abbrev Moves : R → Type 0
  Moves r = (limit other : ℕ) (octets : List ℕ) (answer : ℕ) → within limit r ≡ made octets answer → count r ≤ other → within other r ≡ made octets answer

  pub limits : ((r : R) → Keeps r × Moves r) → Limits within count
  limits of = record {
    exactly = λ limit r octets answer. (λ e. ((limit, e), (of r).0 limit octets answer e), λ p. (of r).1 p.0.0 limit octets answer p.0.1 p.1);
    alike = λ limit other r xs ys x y e f.
        let both : made xs x ≡ made ys y = sym ((of r).1 limit other xs x e ((of r).0 other ys y f)) ∙ f in
        ((cc), (cc));
  }

-- the checks of user data stand last
module _ (front : List Check) (dcs udl : Option ℕ) (n : ℕ) (xs : List ℕ) where
  abbrev last : ℕ → List Check
  last limit = data_within limit dcs udl n

  abbrev pub writing : ℕ → Making ℕ
  writing limit = checked (front ++ last limit) xs

  module _ (limit : ℕ) (octets : List ℕ) (answer : ℕ) (e : writing limit ≡ made octets answer) where
    each_passes : (found front ≡ fine) × (found (last limit) ≡ fine)
    each_passes = both_hold front (last limit) (made_told _ xs e).0

    pub keeps : n ≤ limit
    keeps = (data_few limit dcs udl n each_passes.1).1

    pub moves : (other : ℕ) → n ≤ other → writing other ≡ made octets answer
    moves other h =
        let (f, d) = each_passes in
        let here : checked (front ++ last limit) xs ≡ made xs _ = all_passed xs (front ++ last limit) (passed (last limit) front f ∙ d) in
        all_passed xs (front ++ last other) (passed (last other) front f ∙ data_moves limit other dcs udl n d h) ∙ sym here ∙ e
