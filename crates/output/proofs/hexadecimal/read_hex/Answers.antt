-- `output::hexadecimal::read_hex` meets its contract: each test decides one of the definition's.
use mathlib.Core.Path.{◌≡◌, sym, ◌∙◌}
use mathlib.Core.Bool.{true}
use native.Mathlib.Omega.{arith}
use Rattle.output.specs.Hexadecimal.{is_hex_text, read_into}
use Rattle.output.proofs.Laws.{length_octets, octets_fit, octets_too_long}
use Rattle.output.proofs.hexadecimal.read_hex.Goals as goal
use Rattle.output.proofs.hexadecimal.read_hex.Tie as tie
use Rattle.output.proofs.hexadecimal.read_hex.Lts as lts
use Rattle.output.proofs.hexadecimal.read_hex.Reads as reads

hex : (c : lts.Else1 tie.the-claims reads.Pre reads.Post) → is_hex_text c.args.text.now ≡ true
hex c = sym c.is_hex_text.ensures ∙ c.if-not-is_hex_text.false

pub returns-then-not-is_hex_text : goal.returns-then-not-is_hex_text
unfolding read_into
returns-then-not-is_hex_text c = rw (← c.is_hex_text.ensures, c.if-not-is_hex_text.true)

pub returns-then-out-text : goal.returns-then-out-text
unfolding read_into
returns-then-out-text c = octets_too_long _ _ (hex c.before.before) (omega (arith, length_octets c.args.text.now))

pub put_octets_of-requires : goal.put_octets_of-requires
unfolding read_into
put_octets_of-requires c = (hex c.before.before.before, c.if-out-text.false)

pub returns : goal.returns
unfolding read_into
returns c = octets_fit _ _ (hex c.before.before.before.before.before.before) (omega (arith, length_octets c.args.text.now)) c.put_octets_of.ensures
