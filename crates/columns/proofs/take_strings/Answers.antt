-- `columns::take_strings` meets its contract: string after string is taken from the columns.
use native.Mathlib.Omega.{arith}
use Rattle.columns.proofs.Laws.{allowed_means}
use Rattle.columns.proofs.Places.{at_most_at}
use Rattle.columns.proofs.StringByString.{taking_start, taking_next, taking_end, string_inside, places_inside, places_raised}
use Rattle.columns.proofs.take_strings.Goals as goal

pub loop-n-init : goal.loop-n-init
loop-n-init c = let p = c.requires in taking_start ((allowed_means _).0 c.args.lengths.few).1 p.0 p.1 c.column_starts-places.ensures

pub take_string-at-requires : goal.take_string-at-requires
take_string-at-requires c =
    let l = c.loop-n in
    let t = l.invariant in
    let ns = c.args.lengths.each.now in
    (at_most_at 255 ns t.few l.n-index, omega (arith, t.here, t.room, string_inside ns l.n-index), λ k h. omega (arith, t.whole, places_inside ns l.n-index t.starts t.few c.loop-n-test.true k h))

pub raise-requires : goal.raise-requires
raise-requires c = let l = c.loop-n in places_raised _ l.n-index l.invariant.starts l.invariant.few c.loop-n-test.true (omega (arith, l.invariant.whole))

pub loop-n-preserved : goal.loop-n-preserved
loop-n-preserved c =
    let l = c.loop-n in
    taking_next l.invariant c.loop-n-test.true c.take_string-at.ensures c.raise.ensures

pub returns : goal.returns
returns c = taking_end c.loop-n.invariant c.loop-n-test.false
