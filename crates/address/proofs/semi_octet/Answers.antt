-- `address::semi_octet` meets its contract: the low half comes first.
use Prim.Native.Nat.{◌+◌, ◌*◌, ◌/◌}
use mathlib.Core.Path.{◌≡◌, sym}
use native.Mathlib.Omega.{arith}
use Rattle.address.proofs.SemiOctets.{semi_low, semi_high}
use Rattle.address.proofs.semi_octet.Goals as goal

pub returns-then-i-eq0 : goal.returns-then-i-eq0
returns-then-i-eq0 c =
    let a = c.args in
    let e : 2 * (a.i / 2) ≡ a.i = omega arith in
    (sym (rw e at (semi_low a.octets.now (a.i / 2))), omega arith)

pub returns-else-i-eq0 : goal.returns-else-i-eq0
returns-else-i-eq0 c =
    let a = c.args in
    let e : 2 * (a.i / 2) + 1 ≡ a.i = omega arith in
    (sym (rw e at (semi_high a.octets.now (a.i / 2))), omega (arith, c.type_inv.octets (a.i / 2)))
