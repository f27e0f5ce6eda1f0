-- `address::writing::semi_octet_from_character` meets its contract: each arm is a case of the ranges.
use Rattle.std.specs.Bool.{then_some}
use Prim.Native.Nat.{ℕ, ◌+◌, ◌-◌}
use mathlib.Core.Path.{◌≡◌, sym, ◌∙◌}
use native.Mathlib.Omega.{arith}
use borrow.Author.Tests.{le-leb, lt-leb, lt-ltb, ne_eqb}
use lib.Dec.{ltb}
use Rattle.address.specs.Writing.{digit_value, is_digit}
use Rattle.address.proofs.DigitCharacters.{value_by_range}
use Rattle.address.proofs.writing.semi_octet_from_character.Goals as goal

digit_is : (c : ℕ) {v : ℕ} → digit_value c ≡ v → then_some (is_digit c) (digit_value c) ≡ then_some (ltb v 15) v
unfolding is_digit
digit_is c e = rw e

pub returns-in-42 : goal.returns-in-42
returns-in-42 c = rw c.in-42.is (sym (digit_is 42 (value_by_range 42 (omega arith))))

pub returns-in-35 : goal.returns-in-35
returns-in-35 c = rw c.in-35.is (sym (digit_is 35 (value_by_range 35 (omega arith))))

pub returns-in-48-to-57 : goal.returns-in-48-to-57
returns-in-48-to-57 c =
    let d = c.args.character in
    let v : digit_value d ≡ d - 48 = value_by_range d (omega arith) ∙ rw (le-leb 48 d (omega arith), le-leb d 57 (omega arith)) in
    rw (digit_is d v, lt-ltb (d - 48) 15 (omega arith))

pub returns-in-97-to-99 : goal.returns-in-97-to-99
returns-in-97-to-99 c =
    let d = c.args.character in
    let v : digit_value d ≡ d - 97 + 12 = value_by_range d (omega arith) ∙ rw (le-leb 48 d (omega arith), lt-leb d 57 (omega arith), le-leb 97 d (omega arith), le-leb d 99 (omega arith)) in
    rw (digit_is d v, lt-ltb (d - 97 + 12) 15 (omega arith))

pub returns-in_default : goal.returns-in_default
returns-in_default c =
    let d = c.args.character in
    let v : digit_value d ≡ 15 = value_by_range d (omega arith) ∙ rw (lt-leb 48 d (omega arith), lt-leb 97 d (omega arith), ne_eqb d 42 (omega arith), ne_eqb d 35 (omega arith)) in
    rw (digit_is d v)

pub returns-in_default-2 : goal.returns-in_default-2
returns-in_default-2 c =
    let d = c.args.character in
    let v : digit_value d ≡ 15 = value_by_range d (omega arith) ∙ rw (le-leb 48 d (omega arith), lt-leb d 57 (omega arith), lt-leb 97 d (omega arith), ne_eqb d 42 (omega arith), ne_eqb d 35 (omega arith)) in
    rw (digit_is d v)

pub returns-in_default-3 : goal.returns-in_default-3
returns-in_default-3 c =
    let d = c.args.character in
    let v : digit_value d ≡ 15 = value_by_range d (omega arith) ∙ rw (le-leb 48 d (omega arith), lt-leb d 57 (omega arith), le-leb 97 d (omega arith), lt-leb d 99 (omega arith), ne_eqb d 42 (omega arith), ne_eqb d 35 (omega arith)) in
    rw (digit_is d v)
