-- Octets that stand at the start of others.
-- Assumes nothing.
use Prim.Native.Nat.{ℕ, zero, suc, ◌≤◌}
use mathlib.Core.Path.{◌≡◌, refl, sym, ap, ◌∙◌}
use mathlib.Core.Bool.{true}
use mathlib.Core.List.{List, [], ◌∷◌, ◌++◌}
use native.Mathlib.Omega.{arith}
use borrow.Author.Tests.{eqb-true, eq-eqb}
use lib.Dec.{eqb}
use lib.ListN.{length, take, drop, take-append-drop}
use Rattle.std.specs.Prelude.{nat_eq}
use Rattle.std.specs.List.{starts_with}
use Rattle.octets.proofs.Choice.{and_true}
use Rattle.message_store.specs.Store.{begins}

pub begins_itself : (xs rest : List ℕ) → begins xs (xs ++ rest) ≡ true
unfolding begins
begins_itself [] rest = refl
begins_itself (x ∷ xs) rest = rw (eq-eqb x x refl, begins_itself xs rest)

-- only so many are looked at
pub begins_first : (xs s : List ℕ) (n : ℕ) → length xs ≤ n → begins xs (take n s) ≡ begins xs s
unfolding begins
begins_first [] s n h = refl
begins_first (x ∷ xs) s zero h = absurd (omega arith)
begins_first (x ∷ xs) [] (suc n) h = refl
begins_first (x ∷ xs) (y ∷ s) (suc n) h = rw (begins_first xs s n (omega arith))

pub begins_is : (xs s : List ℕ) → begins xs s ≡ true → take (length xs) s ≡ xs
unfolding begins
begins_is [] s e = refl
begins_is (x ∷ xs) [] e = let z : ◌≡◌ {A = ℕ} 0 1 = cc in absurd (omega arith)
begins_is (x ∷ xs) (y ∷ s) e = let (h, t) = and_true (eqb x y) (begins xs s) e in rw (eqb-true x y h, begins_is xs s t)

pub is_begins : (xs s : List ℕ) → take (length xs) s ≡ xs → begins xs s ≡ true
is_begins xs s e =
    let whole : s ≡ xs ++ drop (length xs) s = sym (take-append-drop (length xs) s) ∙ ap (λ (f : List ℕ). f ++ drop (length xs) s) e in
    ap (begins xs) whole ∙ begins_itself xs (drop (length xs) s)

-- it is the library's
pub starts_begins : (xs s : List ℕ) → starts_with nat_eq s xs ≡ begins xs s
unfolding begins
starts_begins [] s = refl
starts_begins (x ∷ xs) [] = refl
starts_begins (x ∷ xs) (y ∷ s) = rw (starts_begins xs s)
