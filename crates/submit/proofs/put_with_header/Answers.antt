-- `submit::put_with_header` meets its contract: the header, and the text after it.
use Rattle.submit.proofs.Text.{text_room, with_text}
use Rattle.submit.proofs.put_with_header.Goals as goal

pub unpack_septets-requires : goal.unpack_septets-requires
unpack_septets-requires c =
    let p = c.requires in
    text_room _ _ _ p.0 p.1 p.2 c.header_septets-in_header.ensures c.fill_bits.ensures.0 c.put_octets-at.ensures p.3

pub returns : goal.returns
returns c =
    let p = c.requires in
    with_text _ _ _ p.0 p.1 p.2 c.header_septets-in_header.ensures c.fill_bits.ensures.0 c.put_octets-at.ensures c.unpack_septets.ensures
