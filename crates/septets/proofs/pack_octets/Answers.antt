-- `septets::pack_octets` meets its contract: the octets that are left, stored too, still give the whole; the carry is what is over of the eight septets before.
use Prim.Native.Nat.{ℕ, ◌+◌, ◌-◌, ◌*◌, ◌/◌, ◌^◌, ◌<◌, ◌≤◌}
use mathlib.Core.Path.{◌≡◌, refl, sym, ap, ◌∙◌}
use mathlib.Core.List.{List, [], append-nil}
use native.Mathlib.Omega.{arith}
use lib.ListN.{length, take, drop, length-drop}
use lib.Seq.{length-take-le}
use lib.Pow.{shr_lt, pow_pos}
use Rattle.octets.proofs.Laws.{left_start, left_step, left_over, left_end, kept_by}
use Rattle.septets.specs.Septets.{octet_count, packed_septets, lowest_digits, number_of, Digits}
use Rattle.septets.proofs.Number.{length_digits, digits_drop, digits_take}
use Rattle.septets.proofs.Inverse.{length_packed}
use Rattle.septets.proofs.Packing.{packed_over, packed_start, packed_step, packed_last, length_over, eight_digits, Eight, eight_at, window_lt}
use Rattle.septets.proofs.pack_octets.Goals as goal

-- eight septets at an index
module _ (ss : List ℕ) (h : Digits 7 ss) {eights : List (List ℕ)} {i : ℕ} (e : Eight ss eights i) where
  eight_long : length (take 8 (drop (8 * i) ss)) ≡ 8
  eight_long = length-take-le 8 (drop (8 * i) ss) (rw length-drop (omega (arith, e.more)))

  eight_septets : Digits 7 (take 8 (drop (8 * i) ss))
  eight_septets = digits_take 7 8 _ (digits_drop 7 (8 * i) ss h)

-- what is left fits
room : (ss : List ℕ) (at place end f carry i : ℕ) → place + length (packed_over f carry (drop (8 * i) ss)) ≡ at + length (packed_septets f ss)
    → at + octet_count f (length ss) ≤ end → place + octet_count f (length ss - 8 * i) ≤ end
room ss at place end f carry i e fits = omega (arith, length_over f carry (drop (8 * i) ss), length-drop (8 * i) ss, length_packed f ss)

pub loop-eight-init : goal.loop-eight-init
loop-eight-init c = (
  eight_at c.args.septets.now _ _ c.split_at.ensures.by_index.0 (omega (arith, c.split_at.ensures.front_len, c.saturating_sub.ensures)) c.as_chunks.ensures.front c.as_chunks.ensures.front_len,
  refl,
  pow_pos c.args.fill,
  rw (← packed_start) (left_start _ _ _),
)

pub number_after-window-requires : goal.number_after-window-requires
number_after-window-requires c =
    let l = c.loop-eight in
    let e = l.invariant.0 l.eight-index c.loop-eight-test.true in
    rw (e.is) (omega (arith, eight_long _ c.requires.2 e), eight_septets _ c.requires.2 e, omega arith, l.invariant.2)

pub put_number-requires : goal.put_number-requires
put_number-requires c =
    let l = c.loop-eight in
    (omega arith, omega (arith, room c.args.septets.now _ _ _ c.args.fill l.carry l.eight-index l.invariant.3.place c.requires.3, (l.invariant.0 l.eight-index c.loop-eight-test.true).more))

pub overflow_add-place : goal.overflow_add-place
overflow_add-place c =
    let l = c.loop-eight in
    omega (arith, room c.args.septets.now _ _ _ c.args.fill l.carry l.eight-index l.invariant.3.place c.requires.3, (l.invariant.0 l.eight-index c.loop-eight-test.true).more)

pub loop-eight-preserved : goal.loop-eight-preserved
loop-eight-preserved c =
    let l = c.loop-eight in
    let f = c.args.fill in
    let ss = c.args.septets.now in
    let i = 8 * l.eight-index in
    let e = l.invariant.0 l.eight-index c.loop-eight-test.true in
    let window = rw (e.is) at c.number_after-window.ensures in
    let wrote = c.put_number.ensures in
    let x = number_of 7 (take 8 (drop i ss)) * 2 ^ f + l.carry in
    let some : 0 < length (packed_over f (x / 2 ^ 56) (drop (i + 8) ss)) = rw (length_over, length-drop) (omega (arith, e.more)) in
    let left = left_over (lowest_digits 8 7 x) _ _ l.invariant.3 (rw (window, eight_digits) at wrote) (packed_step f l.carry ss i c.requires.2 (omega (arith, e.more))) some in
    let next : 8 * (l.eight-index + 1) ≡ i + 8 = omega arith in (
      l.invariant.0,
      kept_by wrote ∙ l.invariant.1,
      rw window (shr_lt f 56 (window_lt _ (eight_septets ss c.requires.2 e) (omega (arith, eight_long ss c.requires.2 e)) f l.carry l.invariant.2)),
      rw (window, next) (rw length_digits at left),
    )

pub number_after-window-requires-2 : goal.number_after-window-requires-2
number_after-window-requires-2 c =
    let front = c.split_at.ensures.front_len in (
      omega (arith, c.split_at.ensures.back_len, front, c.saturating_sub.ensures),
      rw c.split_at.ensures.back (digits_drop 7 _ c.args.septets.now c.requires.2),
      c.requires.0,
      c.loop-eight.invariant.2,
    )

pub octet_count-requires : goal.octet_count-requires
octet_count-requires c = (c.requires.0, omega (arith, c.split_at.ensures.back_len, c.split_at.ensures.front_len, c.saturating_sub.ensures))

pub put_number-requires-2 : goal.put_number-requires-2
put_number-requires-2 c =
    let l = c.loop-eight in
    let front = c.split_at.ensures.front_len in
    let back = c.split_at.ensures.back_len in
    let many = c.as_chunks.ensures.front_len in (
      omega (arith, c.octet_count.ensures, back, front, c.saturating_sub.ensures, c.requires.0),
      omega (arith, c.octet_count.ensures, back, front, many, c.saturating_sub.ensures, c.loop-eight-test.false, l.auto.eight-index-end, room c.args.septets.now _ _ _ c.args.fill l.carry l.eight-index l.invariant.3.place c.requires.3),
    )

pub returns : goal.returns
returns c =
    let l = c.loop-eight in
    let ss = c.args.septets.now in
    let index : c.saturating_sub.result / 8 * 8 ≡ 8 * l.eight-index = omega (arith, c.split_at.ensures.front_len, c.as_chunks.ensures.front_len, c.loop-eight-test.false, l.auto.eight-index-end) in
    let last : c.split_at.result.1.now ≡ drop (8 * l.eight-index) ss = c.split_at.ensures.back ∙ ap (λ k. drop k ss) index in
    let written = rw (c.octet_count.ensures, c.number_after-window-2.ensures, packed_last, last) at c.put_number-2.ensures in
    let done = left_end (left_step [] l.invariant.3 written (sym (append-nil _))) refl in
    record { place = done.0; list = done.1 }
