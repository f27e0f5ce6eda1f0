-- `gsm7::decode::escaped_character` meets its contract: no row before the place has the code.
use mathlib.Core.Path.{refl, sym, ap, ◌∙◌}
use Rattle.gsm7.specs.declared.decode.Extension.{Extension}
use Rattle.gsm7.specs.Alphabet.{extension, character_of, extension_character}
use Rattle.gsm7.proofs.Rows.{row_here, row_next, row_end}
use Rattle.gsm7.proofs.decode.escaped_character.Goals as goal

pub loop-row-init : goal.loop-row-init
loop-row-init c = refl

pub returns-then-row-code : goal.returns-then-row-code
unfolding extension_character
returns-then-row-code c =
    let l = c.loop-row in
    sym (ap character_of (l.invariant ∙ row_here (λ (e : Extension). e.code) c.args.code extension l.row-index c.loop-row-test.true refl c.if-row-code.true))

pub loop-row-preserved : goal.loop-row-preserved
loop-row-preserved c =
    let l = c.loop-row in
    l.invariant ∙ row_next (λ (e : Extension). e.code) c.args.code extension l.row-index c.loop-row-test.true refl c.if-row-code.false

pub returns : goal.returns
unfolding extension_character
returns c =
    let l = c.loop-row in
    sym (ap character_of (l.invariant ∙ row_end (λ (e : Extension). e.code) c.args.code extension l.row-index c.loop-row-test.false))
