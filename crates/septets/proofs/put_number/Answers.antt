-- `septets::put_number` meets its contract: the octets of a number are its digits.
use Rattle.septets.proofs.Number.{digits_first, octets_of}
use Rattle.septets.proofs.put_number.Goals as goal

pub returns : goal.returns
returns c = rw (← digits_first 8 c.args.n 8 c.args.number c.requires.0, ← octets_of, ← c.to_le_bytes.ensures) c.put_octets.ensures
