-- `time::decode_time` meets its contract: the digits of the octets that are left are stored pair by pair.
use Prim.Native.Nat.{◌+◌, ◌-◌, ◌*◌}
use mathlib.Core.Path.{◌≡◌, ◌∙◌}
use native.Mathlib.Omega.{arith}
use lib.ListN.{take, drop, length-drop}
use lib.Seq.{length-take-le}
use Rattle.octets.proofs.Laws.{sets_full, left_start, left_step, left_end, wrote_one, wrote_then}
use Rattle.time.specs.Time.{time_digits}
use Rattle.time.proofs.Laws.{length_digits, digits_next, digits_end}
use Rattle.time.proofs.decode_time.Goals as goal

pub loop-i-init : goal.loop-i-init
loop-i-init c = (length-take-le 7 (drop c.args.at c.args.«data».now) (simp length-drop (omega arith)), left_start _ _ _)

pub hex_digit-requires-in-loop-i : goal.hex_digit-requires-in-loop-i
hex_digit-requires-in-loop-i c = omega (arith, c.type_inv.«data» (c.args.at + c.loop-i.i))

pub loop-i-preserved : goal.loop-i-preserved
loop-i-preserved c =
    let l = c.loop-i in
    let a = c.args in
    let s = drop a.at a.«data».now in
    let seven : (a.at + 7) - a.at ≡ 7 = omega arith in
    let e : 2 * (l.i + 1) ≡ 2 * l.i + 1 + 1 = omega arith in (
      l.invariant.0,
      rw e (left_step _ l.invariant.1 (wrote_then (wrote_one _ _ _) (wrote_one _ _ _))
          (rw (c.hex_digit.ensures, c.hex_digit-in-loop-i.ensures, seven) (digits_next l.i (take 7 s) (omega arith)))),
    )

pub returns : goal.returns
returns c =
    let l = c.loop-i in
    let a = c.args in
    let os = take 7 (drop a.at a.«data».now) in
    (left_end l.invariant.1 (digits_end l.i os (omega arith))).1 ∙ sets_full (time_digits os) _ (rw (length_digits os, l.invariant.0))
