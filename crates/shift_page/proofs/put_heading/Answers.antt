-- `shift_page::put_heading` meets its contract: its octets are the heading's.
use Rattle.octets.specs.Texts.{codes}
use Rattle.shift_page.specs.ShiftPage.{left, fields, heading, ended}
use Rattle.shift_page.proofs.put_heading.Goals as goal

pub returns : goal.returns
unfolding heading fields left codes ended
returns c = c.put_octets.ensures
