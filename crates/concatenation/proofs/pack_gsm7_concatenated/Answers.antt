-- `concatenation::pack_gsm7_concatenated` meets its contract, case by case: 10, one message, 26, parts; and 23 where these don't fit.
use Prim.Native.Nat.{ℕ, ◌+◌, ◌-◌, ◌*◌, ◌/◌, ◌<◌, ◌≤◌}
use mathlib.Core.Path.{◌≡◌}
use mathlib.Core.List.{List}
use mathlib.Core.Option.{some}
use native.Mathlib.Omega.{arith}
use native.Mathlib.Nat.{zero-add}
use lib.ListN.{length}
use Rattle.std.specs.Prelude.{Ok}
use Rattle.std.proofs.lemmas.Result.{err_from_is_err_and}
use Rattle.octets.specs.Answers.{Said}
use Rattle.octets.specs.Lent.{lend, Wrote}
use Rattle.octets.proofs.Laws.{lent_refused, lent_short, lent_done}
use Rattle.gsm7.specs.Writing.{septets_of}
use Rattle.concatenation.specs.Cutting.{parts_of}
use Rattle.concatenation.specs.Messages.{numbered, concatenating}
use Rattle.concatenation.specs.declared.Concatenated.{Concatenated}
use Rattle.concatenation.specs.declared.Counted.{Counted}
use Rattle.concatenation.specs.Internal.{counted_as, codes_of, last_length}
use Rattle.concatenation.proofs.Counting.{counted_all, counted_not}
use Rattle.concatenation.proofs.Laws.{not_coded, one_message, too_many, in_parts}
use Rattle.concatenation.proofs.InTurn.{parts_some}
use Rattle.concatenation.proofs.Sizes.{one_size, last_few, all_size}
use Rattle.concatenation.proofs.pack_gsm7_concatenated.Goals as goal

-- what is counted
module _ (text : List ℕ) {n : Counted} (counted : Ok n ≡ counted_as (septets_of text)) where
  known : (septets_of text ≡ some (codes_of text)) × (n.septets ≡ length (codes_of text)) × (n.parts ≡ length (parts_of (codes_of text))) × (n.last ≡ last_length 0 (parts_of (codes_of text)))
  known = counted_all (septets_of text) counted

  last_fits : n.last ≤ 153
  last_fits = omega (arith, known.3, last_few text (codes_of text) known.0)

  -- how many octets they take
  module _ (long : 160 < n.septets) where
    some_septets : 0 < length (codes_of text)
    some_septets = omega (arith, known.1)

    some_part : 0 < n.parts
    some_part = omega (arith, known.2, parts_some (codes_of text) some_septets)

    size : (reference total : ℕ) → length (numbered reference total 1 (parts_of (codes_of text))) ≡ (n.parts - 1) * 141 + 1 + ((n.last + 7) * 7 + 7) / 8
    size reference total = omega (arith, some_part, known.2, known.3, all_size text (codes_of text) known.0 some_septets reference total)

-- the parts that were written
parts_sent : (reference : ℕ) (text : List ℕ) {total place : ℕ} {out out' : List ℕ} → septets_of text ≡ some (codes_of text) → 160 < length (codes_of text) → total ≤ 255 → total ≡ length (parts_of (codes_of text))
    → length (numbered reference total 1 (parts_of (codes_of text))) ≤ length out → Wrote 0 (numbered reference total 1 (parts_of (codes_of text))) out place out'
    → ◌≡◌ {A = Said Concatenated × List ℕ} (Ok (record { octets = place; messages = total }), out') (lend (concatenating reference text) out)
parts_sent reference text coded long few is room w =
    let room' = rw is at room in
    let w' = rw is at w in
    rw (w.place, zero-add, is)
    (lent_done _ (in_parts _ _ _ coded long (omega arith)) room' w'.list)

pub returns-in_err-septets : goal.returns-in_err-septets
returns-in_err-septets c =
    let p = err_from_is_err_and c.from_residual.result c.from_residual.ensures.1 in
    let e = counted_not (septets_of c.args.text.now) c.in_err-septets.ensures in
    rw (p.1, p.2, e.1) (lent_refused _ _ (not_coded _ _ e.0))

pub returns-then-out-septets : goal.returns-then-out-septets
returns-then-out-septets c =
    let k = known c.args.text.now c.in_ok-septets.ensures in
    (lent_short _ (one_message _ _ _ k.0 (omega (arith, k.1))) (omega (arith, k.1, one_size (codes_of c.args.text.now))))

pub put_one-octets-requires : goal.put_one-octets-requires
put_one-octets-requires c =
    let k = known c.args.text.now c.in_ok-septets.ensures in
    (k.0, omega (arith, k.1), omega (arith, k.1, one_size (codes_of c.args.text.now)))

pub returns-then-septets-le160 : goal.returns-then-septets-le160
returns-then-septets-le160 c =
    let k = known c.args.text.now c.in_ok-septets.ensures in
    let w = c.put_one-octets.ensures in
    rw (w.place, zero-add)
    (lent_done _ (one_message _ _ _ k.0 (omega (arith, k.1))) (omega (arith, k.1, one_size (codes_of c.args.text.now))) w.list)

pub returns-then-parts-gt255 : goal.returns-then-parts-gt255
returns-then-parts-gt255 c =
    let k = known c.args.text.now c.in_ok-septets.ensures in
    lent_refused _ _ (too_many _ _ _ k.0 (omega (arith, k.1)) (omega (arith, k.2)))

pub overflow_sub-full : goal.overflow_sub-full
overflow_sub-full c = omega (arith, some_part c.args.text.now c.in_ok-septets.ensures c.if-septets-le160.false)

pub overflow_add-last : goal.overflow_add-last
overflow_add-last c = omega (arith, last_fits c.args.text.now c.in_ok-septets.ensures)

pub overflow_mul-last : goal.overflow_mul-last
overflow_mul-last c = omega (arith, last_fits c.args.text.now c.in_ok-septets.ensures)

pub overflow_add-last-2 : goal.overflow_add-last-2
overflow_add-last-2 c = omega (arith, last_fits c.args.text.now c.in_ok-septets.ensures)

pub returns-then-out-full : goal.returns-then-out-full
returns-then-out-full c =
    let long = c.if-septets-le160.false in
    let k = known c.args.text.now c.in_ok-septets.ensures in
    (lent_short _ (in_parts _ _ _ k.0 (omega (arith, k.1)) (omega (arith, k.2))) (omega (arith, size c.args.text.now c.in_ok-septets.ensures long c.args.reference (length (parts_of (codes_of c.args.text.now))))))

pub put_parts-octets-requires : goal.put_parts-octets-requires
put_parts-octets-requires c =
    let k = known c.args.text.now c.in_ok-septets.ensures in
    (k.0, k.2, omega (arith, size c.args.text.now c.in_ok-septets.ensures c.if-septets-le160.false c.args.reference c.in_ok-septets.field-0.parts))

pub returns : goal.returns
returns c =
    let k = known c.args.text.now c.in_ok-septets.ensures in
    let room : length (numbered c.args.reference c.in_ok-septets.field-0.parts 1 (parts_of (codes_of c.args.text.now))) ≤ length c.args.out.now = omega (arith, size c.args.text.now c.in_ok-septets.ensures c.if-septets-le160.false c.args.reference c.in_ok-septets.field-0.parts) in
    parts_sent c.args.reference c.args.text.now k.0 (omega (arith, k.1)) (omega arith) k.2 room c.put_parts-octets.ensures
