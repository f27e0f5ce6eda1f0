-- `message_store::missing_in` meets its contract: the numbers that are left, stored after those found, are all that are missing.
use Rattle.std.proofs.Common.{◌≡◌, ◌+◌, ◌-◌, ◌≤◌, ℕ, List, length, length-set, ap, ◌∙◌, arith}
use Rattle.octets.proofs.Laws.{left_step, left_end, wrote_one}
use Rattle.octets.proofs.Holding.{stored}
use Rattle.message_store.specs.Store.{holdings, missing_from, message_in}
use Rattle.message_store.proofs.Shown.{length_holdings, missing_few, missing_here, missing_not}
use Rattle.message_store.proofs.missing_in.Invariants.{all}
use Rattle.message_store.proofs.missing_in.Goals as goal
use Rattle.message_store.proofs.missing_in.Goals.{then-slot-n-eq0, else-slot-n-eq0}

few : (slot : List ℕ) (total : ℕ) → total ≤ 8 → length (all slot total) ≤ 8
few slot total h = omega (arith, missing_few 1 (holdings 1 total slot), length_holdings 1 total slot)

pub bounds-octets-length : goal.bounds-octets-length
bounds-octets-length c =
    let here = missing_here c.args.slot.now c.args.total c.loop-n.n (omega arith) c.if-slot-n-eq0.true in
    omega (arith, c.loop-n.invariant.1.place, ap length here, few c.args.slot.now c.args.total c.requires)

pub overflow_add-length : goal.overflow_add-length
overflow_add-length c =
    let here = missing_here c.args.slot.now c.args.total c.loop-n.n (omega arith) c.if-slot-n-eq0.true in
    omega (arith, c.loop-n.invariant.1.place, ap length here, few c.args.slot.now c.args.total c.requires)

pub loop-n-preserved : goal.loop-n-preserved
loop-n-preserved c =
    let l = c.loop-n in
    let slot = c.args.slot.now in
    let t = c.args.total in
    let h : l.n ≤ t = omega arith in
    elim c.if-slot-n-eq0.branch [
      | then-slot-n-eq0 w ↦ (rw w.octets-is (length-set l.octets l.length l.n ∙ l.invariant.0), rw (w.octets-is, w.length-is) (left_step _ l.invariant.1 (wrote_one l.length l.n l.octets) (missing_here slot t l.n h w.if-slot-n-eq0.true)))
      | else-slot-n-eq0 w ↦ (rw w.octets-is l.invariant.0, rw (w.octets-is, w.length-is) (rw (missing_not slot t l.n h w.if-slot-n-eq0.false) at l.invariant.1))
    ]

pub returns : goal.returns
unfolding message_in holdings missing_from
returns c =
    let l = c.loop-n in
    let slot = c.args.slot.now in
    let t = c.args.total in
    let n : t + 1 - l.n ≡ 0 = omega arith in
    let end = left_end l.invariant.1 (rw n) in
    stored 8 (all slot t) (few slot t c.requires) (record { place = end.0; list = end.1 })
