-- `relay_address::put_address` meets its contract: length octet, type octet, and after them the digits.
use mathlib.Core.Path.{◌∙◌}
use native.Mathlib.Omega.{arith}
use lib.ListN.{length-set}
use Rattle.octets.proofs.Laws.{kept_by}
use Rattle.address.proofs.Checks.{wrote_field}
use Rattle.address.proofs.DigitCharacters.{digits_size}
use Rattle.relay_address.specs.Relay.{relay_octets}
use Rattle.relay_address.proofs.put_address.Goals as goal

pub bounds-out-1 : goal.bounds-out-1
bounds-out-1 c = simp length-set (omega arith)

pub put_digits-requires : goal.put_digits-requires
put_digits-requires c = simp length-set (omega arith)

pub shape_of-out : goal.shape_of-out
shape_of-out c = kept_by c.put_digits.ensures ∙ simp length-set

pub returns : goal.returns
unfolding relay_octets
returns c = rw (digits_size _) (wrote_field 0 _ _ _ _ c.put_digits.ensures)
