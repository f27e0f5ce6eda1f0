-- What plain septets are: no escapes.
-- Assumes nothing.
use Prim.Native.Nat.{ℕ}
use mathlib.Core.Path.{◌≡◌}
use mathlib.Core.Bool.{true, not}
use lib.Dec.{eqb, ltb}
use borrow.Author.Tests.{eqb-false, not-true}
use Rattle.octets.proofs.Choice.{and_true}
use Rattle.septets.specs.Septets.{in_window}
use Rattle.gsm7.specs.Alphabet.{character}
use Rattle.gsm7.specs.Internal.{plain, four_plain}

pub plain_means : (k : ℕ) → plain k ≡ true → k ≡ 0x1b → ⊥
unfolding plain
plain_means k e = let t = and_true (not (eqb k 0x1b)) (ltb (character k) 0x80) e in eqb-false k 0x1b (not-true _ t.0)

pub each_plain : (w : ℕ) → four_plain w ≡ true
    → (plain (in_window w 0) ≡ true) × (plain (in_window w 1) ≡ true) × (plain (in_window w 2) ≡ true) × (plain (in_window w 3) ≡ true)
each_plain w e =
    let (three, d) = and_true _ (plain (in_window w 3)) e in
    let (two, c) = and_true _ (plain (in_window w 2)) three in
    let (a, b) = and_true (plain (in_window w 0)) (plain (in_window w 1)) two in
    (a, b, c, d)
