use mathlib.Core.Path.{◌≡◌}
use lib.ListN.{drop}
use Rattle.gsm7.specs.declared.decode.Extension.{Extension}
use Rattle.gsm7.specs.Alphabet.{extension, row_with}
use Rattle.gsm7.proofs.decode.escaped_character.Given as goal

abbrev pub invariant-loop-row : goal.invariant-loop-row
invariant-loop-row l = row_with (λ (e : Extension). e.code) l.code extension ≡ row_with (λ (e : Extension). e.code) l.code (drop l.row-index extension)
