-- The test decides the definition's.
use borrow.Author.Tests.{lt-ltb, le-ltb}
use Rattle.octets.specs.Places.{octet_at}
use Rattle.octets.proofs.Place.octet.Goals as goal

pub returns-then-at-data : goal.returns-then-at-data
unfolding octet_at
returns-then-at-data c = simp (lt-ltb _ _ c.if-at-data.true)

pub returns-else-at-data : goal.returns-else-at-data
unfolding octet_at
returns-else-at-data c = simp (le-ltb _ _ c.if-at-data.false)
