-- `user_data_header::pack_gsm7_with_header` meets its contract.
use mathlib.Core.Path.{◌∙◌}
use native.Mathlib.Omega.{arith}
use Rattle.octets.proofs.Laws.{lent_refused}
use Rattle.user_data_header.proofs.Cases.{packing_bad, packing_good}
use Rattle.user_data_header.proofs.pack_gsm7_with_header.Goals as goal

pub returns-then-header-header_octets : goal.returns-then-header-header_octets
returns-then-header-header_octets c = lent_refused _ _ (packing_bad _ _ (rw (← c.header_octets.ensures.0) c.if-header-header_octets.true))

pub pack_septets-requires : goal.pack_septets-requires
pack_septets-requires c = omega (arith, c.header_octets.ensures.1)

pub returns : goal.returns
returns c = rw (packing_good _ _ (c.if-header-header_octets.false ∙ c.header_octets.ensures.0)) c.pack_septets.ensures
