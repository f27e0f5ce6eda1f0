-- `gsm7::encode::three_octets` meets its contract: the candidate is taken exactly when its UTF-8 is the octets.
use mathlib.Core.Path.{sym}
use Rattle.gsm7.proofs.FirstCharacter.{three_small, three_third, three_second, three_first, three_read}
use Rattle.gsm7.proofs.encode.three_octets.Goals as goal

pub returns-then-c-lt2048 : goal.returns-then-c-lt2048
returns-then-c-lt2048 c = sym (three_small _ _ _ c.if-c-lt2048.true)

pub returns-then-c-d : goal.returns-then-c-d
returns-then-c-d c = sym (three_third _ _ _ c.if-c-lt2048.false c.if-c-d.true)

pub returns-then-c-b : goal.returns-then-c-b
returns-then-c-b c = sym (three_second _ _ _ c.if-c-lt2048.false c.if-c-d.false c.if-c-b.true)

pub returns-then-c-a : goal.returns-then-c-a
returns-then-c-a c = sym (three_first _ _ _ c.if-c-lt2048.false c.if-c-d.false c.if-c-b.false c.if-c-a.true)

pub returns : goal.returns
returns c = sym (three_read _ _ _ c.if-c-lt2048.false c.if-c-d.false c.if-c-b.false c.if-c-a.false)
