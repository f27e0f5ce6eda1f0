-- An output's fields by the octets that it holds: these, and zeros after them.
-- Assumes nothing.
use Prim.Native.Nat.{ℕ, ◌+◌, ◌-◌, ◌≤◌}
use mathlib.Core.Path.{◌≡◌, refl, ap, ◌∙◌}
use mathlib.Core.List.{List, [], ◌++◌}
use native.Mathlib.Omega.{arith}
use native.Mathlib.Nat.{sub-zero}
use lib.ListN.{length, take, drop, replicate, length-append, length-replicate}
use lib.Seq.{sets, length-take-le}
use Rattle.std.proofs.lemmas.List.{drop_at, replicate-append-replicate}
use Rattle.octets.specs.Arrays.{pad}
use Rattle.octets.specs.Lent.{Wrote}
use Rattle.octets.proofs.Laws.{sets_append, sets_zeros, take_pad}

length_pad : (n : ℕ) (xs : List ℕ) → length xs ≤ n → length (pad n xs) ≡ n
unfolding pad
length_pad n xs h = let e : length xs + (n - length xs) ≡ n = omega arith in simp (length-append, length-replicate) e

pub padded_zeros : (size : ℕ) → pad size [] ≡ replicate size 0
unfolding pad
padded_zeros size = rw sub-zero refl

-- octets put after those that are held
padded_more : (size : ℕ) (xs ys : List ℕ) → length xs + length ys ≤ size → sets (pad size xs) (length xs) ys ≡ pad size (xs ++ ys)
padded_more size xs ys h =
    let one : length xs ≤ size = omega arith in
    let both : length (xs ++ ys) ≤ size = simp length-append h in
    let from : 0 + length xs ≡ length xs = omega arith in
    rw (← sets_zeros size xs one, ← sets_zeros size (xs ++ ys) both) (rw from at (sets_append xs ys (replicate size 0) 0))

module _ (size n : ℕ) (l : List ℕ) (h : n ≤ length l) (e : pad size (take n l) ≡ l) where
  -- as many as are counted
  pub held_count : length (take n l) ≡ n
  held_count = length-take-le n l h

  -- the fields after octets are appended
  pub padded_put : (ys : List ℕ) {next : ℕ} {after : List ℕ} → n + length ys ≤ size → Wrote n ys l next after
      → (next ≤ length after) × (pad size (take next after) ≡ after)
  padded_put ys {next} {after} room wrote =
      let xs = take n l in
      let few : length (xs ++ ys) ≤ size = rw length-append (omega (arith, held_count, room)) in
      let count : next ≡ length (xs ++ ys) = rw length-append (omega (arith, held_count, wrote.place)) in
      let grown : after ≡ pad size (xs ++ ys) = wrote.list ∙ rw (e, held_count) at (padded_more size xs ys (omega (arith, held_count, room))) in
      rw (count, grown) (rw (length_pad size (xs ++ ys) few) few, ap (pad size) (take_pad size (xs ++ ys)))

  -- and after they are cleared
  pub padded_none : n ≤ size → pad size [] ≡ replicate n 0 ++ drop n l
  unfolding pad
  padded_none few =
      let tail : drop n l ≡ replicate (size - n) 0 = rw (e, held_count) at (drop_at (take n l) (replicate (size - length (take n l)) 0) n held_count) in
      let whole : n + (size - n) ≡ size = omega arith in
      rw (tail, replicate-append-replicate {A = ℕ} n (size - n) 0, whole, sub-zero) refl
