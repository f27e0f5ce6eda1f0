-- `output::hexadecimal::put_octets_of` meets its contract: the octets of the digits that are left are stored one by one.
use Prim.Native.Nat.{ℕ, ◌+◌, ◌*◌, ◌/◌, ◌<◌}
use mathlib.Core.Path.{◌≡◌, refl, sym, ap, ◌∙◌}
use Rattle.std.proofs.lemmas.Option.{same_Some}
use mathlib.Core.Bool.{true}
use mathlib.Core.List.{List, []}
use native.Mathlib.Omega.{arith}
use lib.ListN.{length, get_or}
use Rattle.std.specs.Simd.{first_chunks}
use Rattle.octets.proofs.Laws.{left_start, left_step, left_end, wrote_one}
use Rattle.time.specs.Time.{is_hex, hex_value}
use Rattle.time.proofs.Hex.{hex_value_lem}
use Rattle.std.specs.Prelude.{Option, Some}
use Rattle.output.specs.Hexadecimal.{digit_value, is_hex_text}
use Rattle.output.proofs.Digits.{value_of}
use Rattle.octets.proofs.Pairs.{pairs_at}
use Rattle.output.proofs.Laws.{hex_text_means, length_octets, octets_next, octets_end}
use Rattle.output.proofs.hexadecimal.put_octets_of.Goals as goal

-- a digit of the text
module _ (text : List ℕ) (i : ℕ) (h : i < length text) (e : is_hex_text text ≡ true) {d : ℕ} (at : d ≡ get_or text i 0) where
  hex : is_hex d ≡ true
  hex = ap is_hex at ∙ ((hex_text_means text).0 e).1 i h

  digit : {x : Option ℕ} → x ≡ digit_value d → x ≡ Some (hex_value d)
  digit is = is ∙ value_of _ hex

  value : {x : Option ℕ} {y : ℕ} → x ≡ digit_value d → x ≡ Some y → (y ≡ hex_value (get_or text i 0)) × (hex_value (get_or text i 0) < 16)
  value is some = (same_Some _ _ (sym some ∙ digit is) ∙ ap hex_value at, rw at at (hex_value_lem _ hex).0)

-- the digits of a pair, and their values
record Pair (ds : List ℕ) (pairs : List (List ℕ)) (i : ℕ) : Type 0 where
  within : 2 * i + 1 < length ds
  high : get_or (get_or pairs i []) 0 0 ≡ get_or ds (2 * i) 0
  low : get_or (get_or pairs i []) 1 0 ≡ get_or ds (2 * i + 1) 0

at_pair : (ds : List ℕ) (pairs : List (List ℕ)) → pairs ≡ first_chunks 2 (length ds / 2) ds → length pairs ≡ length ds / 2 → (i : ℕ) → i < length pairs → Pair ds pairs i
at_pair ds pairs front size i h =
    let p : (get_or (get_or pairs i []) 0 0 ≡ get_or ds (2 * i) 0) × (get_or (get_or pairs i []) 1 0 ≡ get_or ds (2 * i + 1) 0) = pairs_at ds front (omega arith) in
    record { within = omega arith; high = p.0; low = p.1 }

pub loop-i-init : goal.loop-i-init
loop-i-init c = left_start _ _ _

pub unwrap-high-requires : goal.unwrap-high-requires
unwrap-high-requires c =
    let p = at_pair _ _ c.as_chunks.ensures.front c.as_chunks.ensures.front_len c.loop-i.i c.loop-i-test.true in
    rw (digit _ _ (omega (arith, p.within)) c.requires.0 p.high c.digit_value.ensures) refl

pub unwrap-low-requires : goal.unwrap-low-requires
unwrap-low-requires c =
    let p = at_pair _ _ c.as_chunks.ensures.front c.as_chunks.ensures.front_len c.loop-i.i c.loop-i-test.true in
    rw (digit _ _ p.within c.requires.0 p.low c.digit_value-in-loop-i.ensures) refl

pub overflow_mul-out : goal.overflow_mul-out
overflow_mul-out c =
    let p = at_pair _ _ c.as_chunks.ensures.front c.as_chunks.ensures.front_len c.loop-i.i c.loop-i-test.true in
    let v = value _ _ (omega (arith, p.within)) c.requires.0 p.high c.digit_value.ensures c.unwrap-high.ensures in
    omega (arith, v.0, v.1)

pub overflow_add-out : goal.overflow_add-out
overflow_add-out c =
    let p = at_pair _ _ c.as_chunks.ensures.front c.as_chunks.ensures.front_len c.loop-i.i c.loop-i-test.true in
    let v = value _ _ (omega (arith, p.within)) c.requires.0 p.high c.digit_value.ensures c.unwrap-high.ensures in
    let w = value _ _ p.within c.requires.0 p.low c.digit_value-in-loop-i.ensures c.unwrap-low.ensures in
    omega (arith, v.0, v.1, w.0, w.1)

pub loop-i-preserved : goal.loop-i-preserved
loop-i-preserved c =
    let l = c.loop-i in
    let p = at_pair _ _ c.as_chunks.ensures.front c.as_chunks.ensures.front_len l.i c.loop-i-test.true in
    let v = value _ _ (omega (arith, p.within)) c.requires.0 p.high c.digit_value.ensures c.unwrap-high.ensures in
    let w = value _ _ p.within c.requires.0 p.low c.digit_value-in-loop-i.ensures c.unwrap-low.ensures in
    left_step _ l.invariant (wrote_one _ _ _) (rw (v.0, w.0) (octets_next l.i c.args.text.now p.within))

pub returns : goal.returns
returns c =
    let l = c.loop-i in
    let t = c.args.text.now in
    let even = ((hex_text_means t).0 c.requires.0).0 in
    let e = left_end l.invariant (octets_end l.i t (omega (arith, c.as_chunks.ensures.front_len))) in
    record { place = omega (arith, length_octets t, c.as_chunks.ensures.front_len); list = e.1 }
