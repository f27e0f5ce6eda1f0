-- `user_data_header::header_and_text` meets its contract: the text fits its array.
use mathlib.Core.Path.{sym}
use native.Mathlib.Nat.{zero-add}
use native.Mathlib.Omega.{arith}
use lib.Seq.{length-take-le}
use Rattle.gsm7.proofs.DecodingLaws.{text_fits}
use Rattle.user_data_header.proofs.Cases.{both_stored}
use Rattle.user_data_header.proofs.header_and_text.Goals as goal

pub unpack_septets-put-requires : goal.unpack_septets-put-requires
unpack_septets-put-requires c = let p = c.requires in (p.2, p.3, rw zero-add (text_fits _ _ _ p.3))

pub slice_bounds-hold-end : goal.slice_bounds-hold-end
slice_bounds-hold-end c = sym (length-take-le _ _ c.requires.0)

pub hold-requires : goal.hold-requires
hold-requires c = let p = c.requires in rw (length-take-le _ _ p.0) (omega arith, p.1)

pub returns : goal.returns
returns c = let p = c.requires in both_stored _ _ _ _ p.0 p.3 c.hold.ensures c.unpack_septets-put.ensures
