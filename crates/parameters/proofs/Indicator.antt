-- Where an indicator ends, and what reading it finds.
-- Assumes nothing.
use Rattle.std.specs.Prelude.{if◌then◌else◌, Bool, true, false, not, cond, Ok, Err, Some, None}
use Rattle.std.specs.List.{position, position_or_len, slice_range}
use Prim.Native.Nat.{ℕ, suc, ◌+◌, ◌-◌, ◌≤◌, ◌<◌}
use mathlib.Core.Path.{◌≡◌, refl, sym, ap, ◌∙◌}
use mathlib.Core.List.{List, [], ◌∷◌}
use mathlib.Core.Logic.{inl, inr}
use native.Mathlib.Omega.{arith}
use native.Mathlib.Nat.{add-zero}
use borrow.Author.Tests.{le-leb, lt-leb, ltb-true, ltb-false}
use lib.Dec.{ltb}
use lib.ListN.{length, get_or, drop, length-drop}
use lib.Seq.{get_or-drop, take_all}
use Rattle.std.proofs.lemmas.Option.{none-some, same_Some}
use Rattle.octets.specs.Places.{span_at}
use Rattle.octets.specs.declared.Place.{Place}
use Rattle.octets.specs.declared.Refusal.TheVariants.{OctetsEnd}
use Rattle.octets.proofs.Choice.{chosen}
use Rattle.layout.specs.Layout.{is_set, indicator_size}
use Rattle.layout.specs.Internal.{indicator_at}
use Rattle.layout.proofs.Fields.{indicator_positive}

-- whether an octet is an indicator's last
abbrev pub ends : ℕ → Bool
ends x = not (is_set 7 x)

-- the indicator goes up to the first one
pub size_first : (s : List ℕ) → indicator_size s ≡ position_or_len ends s + 1
unfolding indicator_size
size_first [] = refl
size_first (x ∷ s) = by (is_set 7 x) (size_first s)
  where
    by : (b : Bool) → indicator_size s ≡ position_or_len ends s + 1 → (if b then suc (indicator_size s) else 1) ≡ cond (not (not b)) (1 + position_or_len ends s) 0 + 1
    by true e = omega (arith, e)
    by false e = refl

module _ (s : List ℕ) (p : Place) where
  pub indicator_not : length s < p.at + indicator_size (drop p.at s) → Err OctetsEnd ≡ indicator_at s p
  unfolding indicator_at span_at
  indicator_not h = rw (lt-leb (indicator_size (drop p.at s)) (length (drop p.at s)) (omega (arith, length-drop p.at s, indicator_positive (drop p.at s))))

  pub indicator_is : (at : ℕ) → p.at + indicator_size (drop p.at s) ≡ at → at ≤ length s → Ok (get_or s p.at 0, record { at = at }) ≡ indicator_at s p
  unfolding indicator_at span_at
  indicator_is at e h =
      rw (le-leb (indicator_size (drop p.at s)) (length (drop p.at s)) (omega (arith, length-drop p.at s)))
      (ap (λ (q : ℕ). Ok (get_or s p.at 0, record { at = q })) (sym e))

-- the octets from a place on, as the code cuts them out and looks for the first one
module _ (s : List ℕ) (p : Place) {rest : List ℕ} (there : p.at ≤ length s) (cut : rest ≡ slice_range s p.at (length s)) where
  rest_is : rest ≡ drop p.at s
  rest_is = cut ∙ take_all (length s - p.at) (drop p.at s) (omega (arith, length-drop p.at s))

  rest_size : (length rest + p.at ≡ length s) × (indicator_size (drop p.at s) ≡ position_or_len ends rest + 1)
  rest_size = rw rest_is (omega (arith, length-drop p.at s), size_first (drop p.at s))

  -- none is there
  pub none_ends : position ends rest ≡ None → Err OctetsEnd ≡ indicator_at s p
  none_ends e =
      elim (chosen (ltb (position_or_len ends rest) (length rest)) e) [
        | inl w ↦ absurd (none-some _ (sym w.1))
        | inr w ↦ indicator_not s p (omega (arith, rest_size, ltb-false _ _ w.0))
      ]

  -- the first is at i
  pub first_ends : {i : ℕ} → position ends rest ≡ Some i → Ok (get_or rest 0 0, record { at = p.at + i + 1 }) ≡ indicator_at s p
  first_ends {i} e =
      elim (chosen (ltb (position_or_len ends rest) (length rest)) e) [
        | inl w ↦
            let is = same_Some _ _ w.1 in
            let inside = ltb-true _ _ w.0 in
            rw (rest_is, get_or-drop, add-zero) (indicator_is s p (p.at + i + 1) (omega (arith, rest_size, is)) (omega (arith, rest_size, inside, is)))
        | inr w ↦ absurd (none-some _ w.1)
      ]
