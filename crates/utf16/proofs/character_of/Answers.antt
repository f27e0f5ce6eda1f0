-- `utf16::character_of` meets its contract, by the ranges of its units.
use Prim.Native.Nat.{ℕ, ◌<◌, ◌≤◌}
use mathlib.Core.Path.{sym}
use mathlib.Core.Logic.{⊎_elim}
use native.Mathlib.Omega.{arith}
use Rattle.std.specs.Char.{OutOfScalarRange}
use Rattle.std.proofs.Math.Utf8.{scalar_cases}
use Rattle.utf16.proofs.Laws.{below_surrogates, above_surrogates, lone_low, low_below, low_above, a_pair}
use Rattle.utf16.proofs.character_of.Goals as goal
use Rattle.utf16.proofs.character_of.Goals.{then-high-ge56320-via-then-high-ge56320, then-high-ge56320-via-else-high-ge56320+then-low-lt56320, then-high-ge56320-via-else-high-ge56320+else-low-lt56320+then-low-gt57343}

-- a unit that is no character is a surrogate
surrogate : (high : ℕ) → high < 65536 → OutOfScalarRange high → (0xd800 ≤ high) × (high ≤ 0xdfff)
surrogate high h out = ⊎_elim (λ r. (omega (arith, r), omega (arith, r))) (λ l. (omega (arith, l, h), omega (arith, l, h))) out

pub returns-in-Some : goal.returns-in-Some
returns-in-Some c =
    let e = c.in-Some.ensures.value in
    rw e.1
    (⊎_elim (λ l. sym (below_surrogates _ _ l)) (λ u. sym (above_surrogates _ _ (omega (arith, u.0)))) (scalar_cases _ e.0), omega arith, omega arith, omega arith)

pub returns-then-high-ge56320 : goal.returns-then-high-ge56320
returns-then-high-ge56320 c =
    let s = surrogate c.args.high c.requires.0 c.in_default.ensures.cases in
    rw c.replacement.ensures (
      sym (elim c.then-high-ge56320.branch [
        | then-high-ge56320-via-then-high-ge56320 w ↦ lone_low _ _ s.0 s.1 w.if-high-ge56320.true
        | then-high-ge56320-via-else-high-ge56320+then-low-lt56320 w ↦ low_below _ _ s.0 s.1 w.if-high-ge56320.false w.if-low-lt56320.true
        | then-high-ge56320-via-else-high-ge56320+else-low-lt56320+then-low-gt57343 w ↦ low_above _ _ s.0 s.1 w.if-high-ge56320.false w.if-low-lt56320.false w.if-low-gt57343.true
      ]),
      omega arith,
      omega arith,
      omega arith,
    )

pub returns : goal.returns
returns c =
    let s = surrogate c.args.high c.requires.0 c.in_default.ensures.cases in
    let v = rw c.unwrap.ensures at c.from_u32-2.ensures.value in
    rw v.1
    (sym (a_pair _ _ s.0 s.1 c.if-high-ge56320.false c.if-low-lt56320.false c.if-low-gt57343.false), omega arith, omega arith, omega arith)
