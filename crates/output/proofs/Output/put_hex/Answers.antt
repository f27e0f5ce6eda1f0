-- `output::Output::put_hex` meets its contract: the digits of the octets so far are appended pair by pair.
use mathlib.Core.Path.{◌≡◌, refl, sym}
use mathlib.Core.List.{List, append-nil}
use native.Mathlib.Omega.{arith}
use Prim.Native.Nat.{ℕ, ◌+◌, ◌*◌, ◌<◌, ◌≤◌}
use lib.ListN.{length, take}
use lib.Seq.{length-take-le, take_all}
use Rattle.output.specs.Hexadecimal.{hex_text}
use Rattle.output.proofs.Laws.{fits, left_out, length_hex, hex_appended}
use Rattle.output.proofs.Output.put_hex.Goals as goal

held : (n : ℕ) (buffer : List ℕ) → length buffer ≡ 65536 → n ≤ length buffer → (length (take n buffer) ≡ n) × (n ≤ 65536)
held n buffer told inv = (length-take-le n buffer inv, omega (arith, told))

pub loop-octet-init : goal.loop-octet-init
unfolding hex_text
loop-octet-init c = sym (append-nil _)

pub loop-octet-preserved : goal.loop-octet-preserved
loop-octet-preserved c =
    let l = c.loop-octet in
    let room : length c.args.self.now + 2 * length c.args.octets.now ≤ 65536 = rw (← c.self.view_is) (omega (arith, held c.self.inside.length c.self.inside.octets c.self.told c.self.invariant.0)) in
    rw (l.invariant, c.lower_digit.ensures, c.lower_digit-in-loop-octet.ensures, hex_appended 65536 l.octet-index _ c.args.octets.now room c.loop-octet-test.true) at c.put.ensures

pub returns-after-loop-octet : goal.returns-after-loop-octet
returns-after-loop-octet c =
    let l = c.loop-octet in
    let os = c.args.octets.now in
    let room : length c.args.self.now + length (hex_text os) ≤ 65536 = rw (← c.self.view_is) (omega (arith, length_hex os, held c.self.inside.length c.self.inside.octets c.self.told c.self.invariant.0)) in
    rw (fits 65536 (hex_text os) _ room, l.invariant, take_all l.octet-index os c.loop-octet-test.false) refl

pub returns-else-octets-self : goal.returns-else-octets-self
returns-else-octets-self c =
    let full : 65536 < length c.args.self.now + length (hex_text c.args.octets.now) =
    rw (← c.self.view_is) (omega (arith, length_hex c.args.octets.now, held c.self.inside.length c.self.inside.octets c.self.told c.self.invariant.0)) in
    sym (left_out 65536 (hex_text c.args.octets.now) c.args.self.now full)
