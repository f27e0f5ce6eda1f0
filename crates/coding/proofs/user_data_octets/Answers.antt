-- `coding::user_data_octets` meets its contract: each arm knows its coding.
use Rattle.coding.specs.Coding.{data_octets}
use Rattle.coding.proofs.user_data_octets.Goals as goal

pub returns-in-Gsm7Bit : goal.returns-in-Gsm7Bit
unfolding data_octets
returns-in-Gsm7Bit c = rw c.in-Gsm7Bit.is

pub returns-in-EightBit : goal.returns-in-EightBit
unfolding data_octets
returns-in-EightBit c = rw c.in-EightBit.is

pub returns-in-Ucs2 : goal.returns-in-Ucs2
unfolding data_octets
returns-in-Ucs2 c = rw c.in-Ucs2.is

pub returns-in-Compressed : goal.returns-in-Compressed
unfolding data_octets
returns-in-Compressed c = rw c.in-Compressed.is
