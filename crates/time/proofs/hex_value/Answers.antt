-- `time::hex_value` meets its contract: only letters have bit 6 set, and a letter's low half is 1 to 6.
use native.Mathlib.Omega.{arith}
use Rattle.time.proofs.Hex.{hex_value_lem}
use Rattle.time.proofs.hex_value.Goals as goal

pub returns : goal.returns
returns c = let v = hex_value_lem c.args.c c.requires in (v.1, omega arith)
