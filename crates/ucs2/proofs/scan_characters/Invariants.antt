use Prim.Native.Nat.{◌*◌, ◌≤◌}
use mathlib.Core.Path.{◌≡◌}
use lib.ListN.{length, drop}
use Rattle.gsm7.proofs.Scanning.{settled}
use Rattle.ucs2.specs.Ucs2.{characters_in, codes_of}
use Rattle.ucs2.proofs.scan_characters.Given as goal

abbrev pub invariant-loop-pair : goal.invariant-loop-pair
invariant-loop-pair l =
    let at = 2 * l.pair-index in
    (l.count ≤ at) × (length l.codes ≡ 255) × (settled l.codes l.count (codes_of (characters_in (drop at l.ucs2))) ≡ settled l.initial.codes 0 (codes_of (characters_in l.ucs2)))
