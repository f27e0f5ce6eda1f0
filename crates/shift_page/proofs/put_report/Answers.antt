-- `shift_page::put_report` meets its contract: the line of the record's fields.
use borrow.Author.Rules.{rules}
use Rattle.shift_page.proofs.Checks.{recipient_short, discharge_long, line_wrote}
use Rattle.shift_page.proofs.put_report.Goals as goal

pub put_line-requires : goal.put_line-requires
put_line-requires c =
    let r = c.args.r.now in
    (recipient_short r c.requires.0 (search rules), discharge_long r c.requires.0 (search rules), c.requires.1)

pub returns : goal.returns
returns c = line_wrote c.args.r.now c.put_line.ensures (search rules) (search rules)
