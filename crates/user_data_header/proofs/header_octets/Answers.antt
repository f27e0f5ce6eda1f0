-- `user_data_header::header_octets` meets its contract: an octet is below 256.
use native.Mathlib.Omega.{arith}
use Rattle.user_data_header.proofs.header_octets.Goals as goal

pub returns : goal.returns
returns c = (rw c.octet_or_zero.ensures, omega (arith, c.octet_or_zero.ensures, c.type_inv.«data» 0))
