-- `reassembly::empty_store` meets its contract: the octets of the store are filled with zeros.
use borrow.Author.Tests.{le-leb, lt-leb}
use lib.Seq.{length-take-le}
use Rattle.message_store.specs.Store.{store_octets}
use Rattle.reassembly.specs.Calls.{emptied}
use Rattle.reassembly.proofs.empty_store.Goals as goal

pub returns-then-store-lt-STORE_OCTETS : goal.returns-then-store-lt-STORE_OCTETS
unfolding emptied
returns-then-store-lt-STORE_OCTETS c = rw (lt-leb store_octets _ c.if-store-lt-STORE_OCTETS.true)

pub returns : goal.returns
unfolding emptied
returns c = rw (le-leb store_octets _ c.if-store-lt-STORE_OCTETS.false, c.fill.ensures.after (λ y e. e), length-take-le store_octets c.args.store.now c.if-store-lt-STORE_OCTETS.false)
