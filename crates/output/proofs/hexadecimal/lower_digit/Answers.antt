-- `output::hexadecimal::lower_digit` meets its contract: the digits stand in a row, and the letters in another.
use Rattle.output.proofs.Digits.{lower_digit_lem}
use Rattle.output.proofs.hexadecimal.lower_digit.Goals as goal

pub returns : goal.returns
returns c = (lower_digit_lem c.args.value c.requires).0
