-- `message_store::put_parts` meets its contract: what is shown of the parts that are left, stored after what is shown already, is all of it.
use Rattle.std.proofs.Common.{rules, length, ◌≡◌, ◌+◌, ◌-◌, ◌≤◌, ◌<◌, ℕ, List, [], get_or, take, drop, refl, ◌∙◌, arith}
use lib.ListN.{length-take}
use Rattle.std.proofs.Common.{◌/◌}
use Rattle.std.specs.Simd.{first_chunks}
use lib.Seq.{get_or-take}
use Rattle.octets.proofs.Laws.{left_start, left_step, left_end, kept_by}
use Rattle.coding.specs.Coding.{coding_of, data_octets}
use Rattle.coding.specs.declared.UserDataCoding.{UserDataCoding}
use Rattle.coding.proofs.Laws.{data_at_most}
use Rattle.message_store.specs.Store.{coding_in, part_at, block, holdings, message_in, shown_parts}
use Rattle.message_store.proofs.Shown.{still_whole, shown_here, shown_short}
use Rattle.message_store.proofs.Slots.{blocks_cut}
use Rattle.message_store.proofs.put_parts.Invariants.{all}
use Rattle.message_store.proofs.put_parts.Goals as goal

-- data are at most 255 octets
at_most_255 : (coding : UserDataCoding) {k udl : ℕ} → udl < 256 → k ≡ data_octets coding udl → k ≤ 255
at_most_255 coding {k} {udl} u is = omega (arith, data_at_most coding udl)

pub loop-block-init : goal.loop-block-init
unfolding message_in
loop-block-init c =
    let t = c.args.total in
    let n : t + 1 - 1 ≡ t = omega arith in
    (c.requires.1, refl, omega arith, rw n c.requires.2, rw n (left_start c.args.shown.now 0 (all c.args.slot.now t)))

pub overflow_add-octets : goal.overflow_add-octets
overflow_add-octets c =
    let u : get_or (get_or (take c.args.total c.as_chunks.result.0.now) c.loop-block.block-index []) 0 0 < 256 = search rules in
    omega (arith, at_most_255 c.user_data_coding-coding.result u c.user_data_octets-octets.ensures)

pub slice_bounds-put_shown-end : goal.slice_bounds-put_shown-end
slice_bounds-put_shown-end c =
    let u : get_or (get_or (take c.args.total c.as_chunks.result.0.now) c.loop-block.block-index []) 0 0 < 256 = search rules in
    let few = at_most_255 c.user_data_coding-coding.result u c.user_data_octets-octets.ensures in
    search rules

-- the block at hand
block_here : (slot : List ℕ) → length slot ≡ 2356 → {start : ℕ} → start ≡ part_at 1 → {blocks : List (List ℕ)} → blocks ≡ first_chunks 256 (length (take (2356 - start) (drop start slot)) / 256) (take (2356 - start) (drop start slot))
    → (total i : ℕ) → total ≤ 8 → i < length (take total blocks) → (i < total) × (get_or (take total blocks) i [] ≡ block (i + 1) slot)
block_here slot size at {blocks} front total i few h =
    let (count, each) = blocks_cut slot size (rw at at front) in
    let inside : i < total = omega (arith, length-take total blocks) in
    (inside, get_or-take total blocks i [] inside ∙ each i (omega arith))

pub loop-block-preserved : goal.loop-block-preserved
loop-block-preserved c =
    let l = c.loop-block in
    let slot = c.args.slot.now in
    let t = c.args.total in
    let n = l.block-index + 1 in
    let k = c.user_data_octets-octets.result in
    let size : length slot ≡ 2356 = search rules in
    let u : get_or (get_or (take t c.as_chunks.result.0.now) l.block-index []) 0 0 < 256 = search rules in
    let (inside, is) = block_here slot size c.part_at.ensures c.as_chunks.ensures.front t l.block-index c.requires.0 c.loop-block-test.true in
    let few = at_most_255 c.user_data_coding-coding.result u c.user_data_octets-octets.ensures in
    let coding-is = c.user_data_coding-coding.ensures in
    let k_is : k ≡ data_octets (coding_of (coding_in slot)) (get_or (block n slot) 0 0) = c.user_data_octets-octets.ensures ∙ rw (coding-is, is) in
    let w = rw is at c.put_shown-at.ensures in
    let h : n ≤ t = omega arith in
    let udl : get_or (block n slot) 0 0 < 256 = rw (← is) u in
    let short = shown_short c.user_data_coding-coding.result (record { udl = get_or (block n slot) 0 0; octets = take (1 + k - 1) (drop 1 (block n slot)) }) (omega arith) (omega (arith, length-take (1 + k - 1) (drop 1 (block n slot)), few)) in
    let here = rw (← coding-is) at (shown_here slot t n h l.invariant.3 k_is) in
    (l.invariant.0, kept_by w ∙ l.invariant.1, omega (arith, w.place, short), still_whole slot t n h l.invariant.3, left_step _ l.invariant.4 w here)

pub returns : goal.returns
unfolding message_in holdings shown_parts
returns c =
    let l = c.loop-block in
    let size : length c.args.slot.now ≡ 2356 = search rules in
    let (count, each) = blocks_cut c.args.slot.now size (rw c.part_at.ensures at c.as_chunks.ensures.front) in
    let all_there : l.block-index ≡ c.args.total = omega (arith, count, length-take c.args.total c.as_chunks.result.0.now) in
    let n : c.args.total + 1 - (l.block-index + 1) ≡ 0 = omega arith in
    let end = left_end l.invariant.4 (rw n) in
    (record { place = end.0; list = end.1 }, omega arith)
