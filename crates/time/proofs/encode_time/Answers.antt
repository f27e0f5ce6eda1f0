-- `time::encode_time` meets its contract: the octets of the digits that are left are stored one by one.
use Prim.Native.Nat.{◌/◌, ◌<◌}
use mathlib.Core.Path.{◌≡◌, refl, sym}
use native.Mathlib.Nat.{add-zero, add_assoc}
use native.Mathlib.Omega.{arith}
use lib.ListN.{length, take, length-set}
use Rattle.std.proofs.lemmas.List.{take_all, length-take-le}
use Rattle.std.specs.Simd.{first_chunks}
use Rattle.octets.proofs.Laws.{left_start, left_step, left_end, wrote_one}
use Rattle.octets.proofs.Pairs.{pairs_at}
use Rattle.time.proofs.Laws.{time_means, octets_next, octets_end}
use Rattle.time.proofs.encode_time.Goals as goal
use Rattle.time.proofs.encode_time.Goals.{After-as_chunks}

-- the digits are fourteen
fourteen : (c : After-as_chunks) → length c.args.digits.now ≡ 14
fourteen c = ((time_means _).0 c.requires.0).0

-- the first fourteen digits are all, in seven pairs
whole : (c : After-as_chunks) → take 14 c.args.digits.now ≡ c.args.digits.now
whole c = take_all 14 c.args.digits.now (omega (arith, fourteen c))

pairs : (c : After-as_chunks) → c.as_chunks.result.0.now ≡ first_chunks 2 (length c.args.digits.now / 2) c.args.digits.now
pairs c = rw (whole c) at c.as_chunks.ensures.front

seven : (c : After-as_chunks) → length c.as_chunks.result.0.now ≡ length c.args.digits.now / 2
seven c = rw (whole c) at c.as_chunks.ensures.front_len

pub slice_bounds-as_chunks-end : goal.slice_bounds-as_chunks-end
slice_bounds-as_chunks-end c = sym (length-take-le 14 c.args.digits.now (omega (arith, ((time_means _).0 c.requires.0).0)))

pub loop-i-init : goal.loop-i-init
loop-i-init c = (((time_means _).0 c.requires.0).0, refl, rw add-zero (left_start _ _ _))

pub hex_value-requires : goal.hex_value-requires
hex_value-requires c =
    let a = (goal.at.hex_value-requires c).After-as_chunks in
    let h : c.loop-i.i < length c.args.digits.now / 2 = omega (arith, c.loop-i-test.true, seven a) in
    rw (pairs_at c.args.digits.now (pairs a) h).0 (((time_means _).0 c.requires.0).1 _ (omega (arith, h)))

pub hex_value-requires-in-loop-i : goal.hex_value-requires-in-loop-i
hex_value-requires-in-loop-i c =
    let a = (goal.at.hex_value-requires-in-loop-i c).After-as_chunks in
    let h : c.loop-i.i < length c.args.digits.now / 2 = omega (arith, c.loop-i-test.true, seven a) in
    rw (pairs_at c.args.digits.now (pairs a) h).1 (((time_means _).0 c.requires.0).1 _ (omega (arith, h)))

pub loop-i-preserved : goal.loop-i-preserved
loop-i-preserved c =
    let l = c.loop-i in
    let ds = c.args.digits.now in
    let a = (goal.at.loop-i-preserved c).After-as_chunks in
    let h : l.i < length ds / 2 = omega (arith, c.loop-i-test.true, seven a) in
    let p = pairs_at ds (pairs a) h in (
      l.invariant.0,
      simp length-set l.invariant.1,
      rw (← add_assoc) (left_step _ l.invariant.2 (wrote_one _ _ _) (rw (c.hex_value.ensures.0, c.hex_value-in-loop-i.ensures.0, p.0, p.1) (octets_next l.i ds (omega arith)))),
    )

pub returns : goal.returns
returns c =
    let l = c.loop-i in
    let a = (goal.at.returns c).After-as_chunks in
    let e = left_end l.invariant.2 (octets_end l.i c.args.digits.now (omega (arith, c.loop-i-test.false, seven a))) in
    record { place = omega (arith, e.0, c.loop-i-test.false, seven a, fourteen a); list = e.1 }
