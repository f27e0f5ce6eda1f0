-- What writing a record makes: its length is looked at first.
-- Assumes nothing.
use Prim.Native.Nat.{◌≤◌}
use mathlib.Core.Path.{◌≡◌}
use borrow.Author.Tests.{lt-ltb, le-ltb, leb-false}
use mathlib.Core.Bool.{false}
use lib.Dec.{leb}
use Rattle.octets.specs.Lent.{refused}
use Rattle.octets.specs.declared.Refusal.TheVariants.{LengthTooLarge}
use Rattle.address.specs.Writing.{address_making}
use Rattle.address.specs.declared.SMSAddress.{SMSAddress}
use Rattle.address.specs.Address.{text_held, encoding}

module _ (a : SMSAddress) where
  pub encoding_long : leb a.address.length 290 ≡ false → encoding a ≡ refused LengthTooLarge
  unfolding encoding
  encoding_long h = rw (lt-ltb 290 a.address.length (leb-false _ _ h))

  pub encoding_parts : a.address.length ≤ 290 → encoding a ≡ address_making a.ton a.npi (text_held a)
  unfolding encoding
  encoding_parts h = rw (le-ltb 290 a.address.length h)
