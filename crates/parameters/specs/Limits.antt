-- Writers of a report that differ in one thing: the limit of user data (refusal 8; tables of TS 23.040 §9.2.2.1a, §9.2.2.2a, §9.2.2.3).
use Rattle.std.specs.Prelude.{ℕ, ◌≤◌, ◌≡◌, List, ◌↔◌}
use Rattle.octets.specs.Lent.{Making, made}

-- `within limit` is what is made of a record within a limit, `count` how many octets of user data a record holds
pub record Limits {R : Type 0} (within : ℕ → R → Making ℕ) (count : R → ℕ) : Type 0 where
  -- a limit refuses nothing but longer user data: within it a record is written exactly when it is within some limit, and its user data keep within this one
  pub exactly : (limit : ℕ) (r : R) (octets : List ℕ) (answer : ℕ)
      → (within limit r ≡ made octets answer) ↔ (((other : ℕ) × (within other r ≡ made octets answer)) × (count r ≤ limit))
  -- a record that passes within two limits has equal octets and answers
  pub alike : (limit other : ℕ) (r : R) (xs ys : List ℕ) (x y : ℕ) → within limit r ≡ made xs x → within other r ≡ made ys y → (xs ≡ ys) × (x ≡ y)
