-- `alphabet_table::put_line` meets its contract: digit by digit.
use Rattle.alphabet_table.specs.AlphabetLines.{line_of}
use Rattle.alphabet_table.proofs.put_line.Goals as goal

pub returns : goal.returns
unfolding line_of
returns c = rw (← c.hex_digit.ensures, ← c.hex_digit-2.ensures, ← c.hex_digit-3.ensures, ← c.hex_digit-4.ensures, ← c.hex_digit-5.ensures, ← c.hex_digit-6.ensures) c.put_octets.ensures
