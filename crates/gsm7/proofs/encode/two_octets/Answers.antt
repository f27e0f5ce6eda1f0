-- `gsm7::encode::two_octets` meets its contract: the candidate is taken exactly when its UTF-8 is the octets.
use mathlib.Core.Path.{sym}
use Rattle.gsm7.proofs.FirstCharacter.{two_small, two_second, two_first, two_read}
use Rattle.gsm7.proofs.encode.two_octets.Goals as goal

pub returns-then-c-lt128 : goal.returns-then-c-lt128
returns-then-c-lt128 c = sym (two_small _ _ c.if-c-lt128.true)

pub returns-then-c-b : goal.returns-then-c-b
returns-then-c-b c = sym (two_second _ _ c.if-c-lt128.false c.if-c-b.true)

pub returns-then-c-a : goal.returns-then-c-a
returns-then-c-a c = sym (two_first _ _ c.if-c-lt128.false c.if-c-b.false c.if-c-a.true)

pub returns : goal.returns
returns c = sym (two_read _ _ c.if-c-lt128.false c.if-c-b.false c.if-c-a.false)
