-- `gsm7::encode::character_at` meets its contract, by the first octet.
use mathlib.Core.Path.{sym}
use Rattle.gsm7.proofs.FirstCharacter.{first_one, first_two, first_three}
use Rattle.gsm7.proofs.encode.character_at.Goals as goal

pub returns-then-a-lt128 : goal.returns-then-a-lt128
returns-then-a-lt128 c = sym (first_one c.args.text.now c.args.at c.if-a-lt128.true)

pub returns-then-a-lt224 : goal.returns-then-a-lt224
returns-then-a-lt224 c = rw (c.two_octets.ensures, c.octet_or_zero-b.ensures) (sym (first_two c.args.text.now c.args.at c.if-a-lt128.false c.if-a-lt224.true))

pub returns : goal.returns
returns c = rw (c.three_octets.ensures, c.octet_or_zero-b.ensures, c.octet_or_zero-d.ensures) (sym (first_three c.args.text.now c.args.at c.if-a-lt224.false))
