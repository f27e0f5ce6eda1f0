-- `time::hex_digit` meets its contract, value by value.
use Rattle.time.proofs.Hex.{hex_digit_lem}
use Rattle.time.proofs.hex_digit.Goals as goal

pub returns : goal.returns
returns c = (hex_digit_lem c.args.value c.requires).0
