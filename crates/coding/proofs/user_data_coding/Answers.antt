-- `coding::user_data_coding` meets its contract: each arm's range of the high half decides the tests of the definition.
use Prim.Native.Nat.{◌/◌, ◌%◌}
use mathlib.Core.Path.{◌≡◌}
use native.Mathlib.Omega.{arith}
use borrow.Author.Tests.{le-leb, lt-leb, eq-eqb, ne_eqb}
use Rattle.coding.specs.Coding.{coding_of, character_set}
use Rattle.coding.proofs.user_data_coding.Goals as goal

pub returns-then-dcs-eq1 : goal.returns-then-dcs-eq1
unfolding coding_of
returns-then-dcs-eq1 c = rw (le-leb (c.args.dcs / 16) 7 (omega arith), eq-eqb _ _ c.if-dcs-eq1.true)

pub returns-in-14 : goal.returns-in-14
unfolding coding_of
returns-in-14 c =
    let d = c.args.dcs in
    let h : d / 16 ≡ 14 = c.in-14.is in
    rw (lt-leb (d / 16) 7 (omega arith), lt-leb (d / 16) 13 (omega arith), eq-eqb (d / 16) 14 h)

pub returns-in-1 : goal.returns-in-1
unfolding coding_of character_set
returns-in-1 c =
    let d = c.args.dcs in
    rw (le-leb (d / 16) 7 (omega arith), ne_eqb _ _ c.if-dcs-eq1.false, eq-eqb (d / 4 % 4) 1 c.in-1.is)

pub returns-in-2 : goal.returns-in-2
unfolding coding_of character_set
returns-in-2 c =
    let d = c.args.dcs in
    let h : d / 4 % 4 ≡ 2 = c.in-2.is in
    rw (le-leb (d / 16) 7 (omega arith), ne_eqb _ _ c.if-dcs-eq1.false, ne_eqb (d / 4 % 4) 1 (λ e. omega arith), eq-eqb (d / 4 % 4) 2 h)

pub returns-in_default-2 : goal.returns-in_default-2
unfolding coding_of character_set
returns-in_default-2 c =
    let d = c.args.dcs in
    rw (le-leb (d / 16) 7 (omega arith), ne_eqb _ _ c.if-dcs-eq1.false, ne_eqb (d / 4 % 4) 1 (omega arith), ne_eqb (d / 4 % 4) 2 (omega arith))

pub returns-in-8-to-13 : goal.returns-in-8-to-13
unfolding coding_of
returns-in-8-to-13 c =
    let d = c.args.dcs in
    rw (lt-leb (d / 16) 7 (omega arith), le-leb (d / 16) 13 (omega arith))

pub returns-then-dcs-eq1-2 : goal.returns-then-dcs-eq1-2
unfolding coding_of
returns-then-dcs-eq1-2 c =
    let d = c.args.dcs in
    rw (lt-leb (d / 16) 7 (omega arith), lt-leb (d / 16) 13 (omega arith), ne_eqb (d / 16) 14 (omega arith), eq-eqb _ _ c.if-dcs-eq1-2.true)

pub returns-else-dcs-eq1-2 : goal.returns-else-dcs-eq1-2
unfolding coding_of
returns-else-dcs-eq1-2 c =
    let d = c.args.dcs in
    rw (lt-leb (d / 16) 7 (omega arith), lt-leb (d / 16) 13 (omega arith), ne_eqb (d / 16) 14 (omega arith), ne_eqb _ _ c.if-dcs-eq1-2.false)
