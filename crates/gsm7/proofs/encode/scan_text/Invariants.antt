use Prim.Native.Nat.{◌*◌, ◌-◌, ◌≤◌}
use mathlib.Core.Path.{◌≡◌}
use lib.ListN.{length, drop}
use Rattle.gsm7.specs.Writing.{scan}
use Rattle.gsm7.proofs.Scanning.{settled}
use Rattle.gsm7.proofs.encode.scan_text.Given as goal

abbrev pub invariant-loop-i : goal.invariant-loop-i
invariant-loop-i l =
    (l.count ≤ 2 * l.i) × (length l.codes ≡ 255) × (settled l.codes l.count (scan (drop l.i l.text) 0) ≡ settled l.initial.codes 0 (scan l.text 0))

abbrev pub decreases-loop-i : goal.decreases-loop-i
decreases-loop-i l = length l.text - l.i
