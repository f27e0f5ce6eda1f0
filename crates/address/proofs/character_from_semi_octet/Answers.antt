-- `address::character_from_semi_octet` meets its contract: each arm is a case of the ranges.
use mathlib.Core.Path.{sym}
use native.Mathlib.Omega.{arith}
use borrow.Author.Tests.{le-leb, lt-leb, ne_eqb}
use Rattle.address.proofs.SemiOctets.{character_by_range_lem}
use Rattle.address.proofs.character_from_semi_octet.Goals as goal

pub returns-in-10 : goal.returns-in-10
returns-in-10 c = rw c.in-10.is (sym (character_by_range_lem 10 (omega arith)))

pub returns-in-11 : goal.returns-in-11
returns-in-11 c = rw c.in-11.is (sym (character_by_range_lem 11 (omega arith)))

pub returns-in-0-to-9 : goal.returns-in-0-to-9
returns-in-0-to-9 c =
    let v = c.args.value in
    rw (character_by_range_lem v (omega arith), le-leb 0 v (omega arith), le-leb v 9 (omega arith))

pub returns-in_default : goal.returns-in_default
returns-in_default c =
    let v = c.args.value in
    rw (character_by_range_lem v (omega arith), le-leb 0 v (omega arith), lt-leb v 9 (omega arith), ne_eqb v 10 (omega arith), ne_eqb v 11 (omega arith))
