-- `gsm7::encode::single_of` meets its contract: by the two tables; from 100 on the default alphabet has Greek letters only.
use native.Mathlib.Omega.{arith}
use Prim.Native.Nat.{◌+◌, ◌-◌}
use mathlib.Core.Path.{◌≡◌}
use Rattle.gsm7.proofs.ByCharacter.{codes_right, greek_right, below_greek, above_greek}
use Rattle.gsm7.proofs.encode.single_of.Goals as goal

pub returns-in-0-to-255 : goal.returns-in-0-to-255
returns-in-0-to-255 c = rw c.code_in.ensures (codes_right c.args.c (omega arith))

pub returns-in-915-to-937 : goal.returns-in-915-to-937
returns-in-915-to-937 c =
    let x = c.args.c in
    let e : 0x393 + (x - 0x393) ≡ x = omega arith in
    rw c.code_in-in-915-to-937.ensures (rw e at (greek_right (x - 0x393) (omega arith)))

pub returns-in_default : goal.returns-in_default
returns-in_default c = below_greek c.args.c (omega arith) (omega arith)

pub returns-in_default-2 : goal.returns-in_default-2
returns-in_default-2 c = above_greek c.args.c (omega arith) (omega arith)
