-- What an answer of a place's methods tells of the octets.
-- Assumes nothing.
use Rattle.std.specs.Prelude.{Ok, Err}
use Prim.Native.Nat.{ℕ, ◌+◌, ◌-◌, ◌<◌, ◌≤◌}
use mathlib.Core.Path.{◌≡◌, sym, ap}
use mathlib.Core.List.{List}
use mathlib.Core.Logic.{⊎_elim}
use native.Mathlib.Omega.{arith}
use borrow.Author.Tests.{ltb-true, ltb-false, leb-true, leb-false}
use lib.Dec.{ltb, leb}
use lib.ListN.{length, get_or, take, drop, length-drop}
use Rattle.octets.specs.Answers.{Said}
use Rattle.octets.specs.declared.Refusal.{Refusal}
use Rattle.octets.specs.declared.Refusal.TheVariants.{OctetsEnd}
use Rattle.octets.specs.declared.Place.{Place}
use Rattle.octets.specs.Places.{octet_at, span_at}
use Rattle.octets.proofs.Choice.{chosen}

-- the values of an answer
pub given : {A : Type 0} {x y : A} → ◌≡◌ {A = Said A} (Ok x) (Ok y) → x ≡ y
given e = cc

-- where a reader starts
abbrev pub start : Place
start = record { at = 0 }

module _ (s : List ℕ) (p : Place) where
  -- an octet that is read is there, and the next place is after it
  pub octet_read : {b : ℕ} {q : Place} → octet_at s p ≡ Ok (b, q) → (p.at < length s) × (b ≡ get_or s p.at 0) × (q.at ≡ p.at + 1)
  unfolding octet_at
  octet_read e =
      ⊎_elim (λ w. let g = given (sym w.1) in (ltb-true _ _ w.0, ap (λ z. z.0) g, ap (λ z. z.1.at) g)) (λ w. let z : ◌≡◌ {A = ℕ} 0 1 = cc in absurd (omega arith)) (chosen (ltb p.at (length s)) e)

  -- where none is there, the octets end
  pub octet_ended : octet_at s p ≡ Err OctetsEnd → length s ≤ p.at
  unfolding octet_at
  octet_ended e =
      ⊎_elim (λ w. let z : ◌≡◌ {A = ℕ} 0 1 = cc in absurd (omega arith)) (λ w. ltb-false _ _ w.0) (chosen (ltb p.at (length s)) e)

  module _ (n : ℕ) where
    -- octets that are there start at the place, and the next place is after them
    pub span_there : {a : ℕ} {q : Place} → span_at s p n ≡ Ok (a, q) → (n ≤ length (drop p.at s)) × (a ≡ p.at) × (q.at ≡ p.at + n)
    unfolding span_at
    span_there e =
        ⊎_elim (λ w. let g = given (sym w.1) in (leb-true _ _ w.0, ap (λ z. z.0) g, ap (λ z. z.1.at) g)) (λ w. let z : ◌≡◌ {A = ℕ} 0 1 = cc in absurd (omega arith)) (chosen (leb n (length (drop p.at s))) e)

    -- and lie in the string, from a place that does
    pub span_inside : {a : ℕ} {q : Place} → span_at s p n ≡ Ok (a, q) → p.at ≤ length s → (a + n ≤ length s) × (q.at ≤ length s)
    span_inside e h = let (fits, from, next) = span_there e in (omega (arith, length-drop p.at s), omega (arith, length-drop p.at s))

    -- they are the octets from where they start up to the next place
    pub span_part : {a : ℕ} {q : Place} → span_at s p n ≡ Ok (a, q) → take (q.at - a) (drop a s) ≡ take n (drop p.at s)
    span_part {a} {q} e = let (fits, from, next) = span_there e in let size : q.at - a ≡ n = omega arith in rw (size, from)

    pub span_ended : {why : Refusal} → span_at s p n ≡ Err why → length (drop p.at s) < n
    unfolding span_at
    span_ended e =
        ⊎_elim (λ w. let z : ◌≡◌ {A = ℕ} 0 1 = cc in absurd (omega arith)) (λ w. leb-false _ _ w.0) (chosen (leb n (length (drop p.at s))) e)
