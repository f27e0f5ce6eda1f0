-- `columns::count_octets` meets its contract: of the strings passed, so many are longer than k.
use native.Mathlib.Numerals.{add-one}
use native.Mathlib.Omega.{arith}
use Rattle.columns.specs.Internal.{longer_than}
use Rattle.columns.proofs.Laws.{allowed_means}
use Rattle.columns.proofs.Places.{at_most_at, longer_next, longer_within}
use Rattle.columns.proofs.count_octets.Goals as goal

pub loop-n-init : goal.loop-n-init
unfolding longer_than
loop-n-init c = c.requires

pub raise-requires : goal.raise-requires
raise-requires c =
    let l = c.loop-n in
    let most = (allowed_means c.args.lengths.each.now).0 c.args.lengths.few in
    (at_most_at 255 c.args.lengths.each.now most.1 l.n-index, λ k h. omega (arith, l.invariant k, longer_within k l.n-index c.args.lengths.each.now, most.0))

pub loop-n-preserved : goal.loop-n-preserved
loop-n-preserved c =
    let l = c.loop-n in
    let r = c.raise.ensures in
    (λ k. rw add-one (omega (arith, r.each k, l.invariant k, longer_next k l.n-index c.args.lengths.each.now c.loop-n-test.true)))
