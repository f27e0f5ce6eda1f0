-- `septets::BitPlace::window` meets its contract: eight septets lie in the octet of the first bit and the seven after it.
use Prim.Native.Nat.{◌*◌, ◌/◌, ◌%◌, ◌<◌}
use mathlib.Core.Path.{◌≡◌, sym}
use native.Mathlib.Omega.{arith}
use Rattle.septets.specs.Septets.{septet_from, bit_of}
use Rattle.septets.proofs.Number.{in_window_lem}
use Rattle.septets.proofs.BitPlaces.{bit_after}
use Rattle.septets.proofs.BitPlace.window.Goals as goal

pub returns : goal.returns
unfolding septet_from
returns c k h =
    let a = c.args in
    let small : a.self.shift < 8 = c.requires.1 in
    let d : bit_of a.self / 8 ≡ a.self.octet = omega arith in
    let m : bit_of a.self % 8 ≡ a.self.shift = omega arith in
    rw (c.eight_octets.ensures, bit_after)
    (sym (rw (d, m) at (in_window_lem 8 7 8 a.octets.now (λ i. (c.type_inv.octets i).fits) (bit_of a.self) (k * 7) (omega arith))))
