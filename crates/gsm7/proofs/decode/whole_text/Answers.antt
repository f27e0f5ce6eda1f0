-- `gsm7::decode::whole_text` meets its contract: the text fits its array.
use native.Mathlib.Nat.{zero-add}
use native.Mathlib.Omega.{arith}
use Rattle.gsm7.proofs.Reading.{text_stored}
use Rattle.gsm7.proofs.DecodingLaws.{text_fits}
use Rattle.gsm7.proofs.decode.whole_text.Goals as goal

pub unpack_septets-put-requires : goal.unpack_septets-put-requires
unpack_septets-put-requires c = (omega arith, c.requires, rw zero-add (text_fits _ _ _ c.requires))

pub returns : goal.returns
returns c = text_stored _ _ (text_fits _ _ _ c.requires) c.unpack_septets-put.ensures
