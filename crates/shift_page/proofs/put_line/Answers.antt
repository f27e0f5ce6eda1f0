-- `shift_page::put_line` meets its contract: the recipient and spaces, the status between spaces and the time, the line feed.
use Rattle.octets.proofs.Laws.{wrote_then}
use Rattle.shift_page.proofs.Lines.{left_spaces, line_is}
use Rattle.shift_page.proofs.put_line.Goals as goal

pub returns : goal.returns
returns c =
    let a = c.args in
    let w = rw (left_spaces 20 a.recipient.now c.requires.0) at c.put_both-p1.ensures in
    let u = rw (c.hex_digit-high.ensures, c.hex_digit-low.ensures) at c.put_both-p2.ensures in
    rw (line_is a.recipient.now a.status a.discharge.now c.requires.1) (wrote_then w (wrote_then u c.put_octet.ensures))
