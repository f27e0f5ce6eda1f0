-- `message_store::fits_store` meets its contract: every slot fits.
use Rattle.std.proofs.Common.{◌≡◌, true, false, rules}
use borrow.Author.Tests.{lt-leb, le-leb}
use Rattle.std.proofs.lemmas.Iterator.{cases_from_all, YieldsList-from_slice}
use Rattle.message_store.specs.Store.{slot_fits, store_octets, fits}
use Rattle.message_store.proofs.Slots.{slots_pass}
use Rattle.message_store.proofs.fits_store.Goals as goal

pub returns-then-store-ge-STORE_OCTETS : goal.returns-then-store-ge-STORE_OCTETS
unfolding fits
returns-then-store-ge-STORE_OCTETS c =
    rw (le-leb store_octets _ c.if-store-ge-STORE_OCTETS.true)
    (slots_pass c.slots_of.ensures slot_fits c.all.result
    (cases_from_all _ _ _ (λ s. slot_fits s ≡ true) (λ s. slot_fits s ≡ false) c.all.ensures.ran (YieldsList-from_slice c.slots_of.result.now (search rules)) (λ x q k. search rules) (λ x q k. search rules)))

pub returns-else-store-ge-STORE_OCTETS : goal.returns-else-store-ge-STORE_OCTETS
unfolding fits
returns-else-store-ge-STORE_OCTETS c = rw (lt-leb store_octets _ c.if-store-ge-STORE_OCTETS.false)
