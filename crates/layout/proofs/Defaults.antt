-- The default of what a reader gives: a message's own default, and nothing replaced.
-- Assumes nothing.
use mathlib.Core.Path.{◌≡◌}
use denote.RattleType.{RattleType}
use mir.Syntax.{Dict}
use Rattle.std.specs.declared.default.Default.{Ghosts}
use Rattle.layout.specs.contracts.MessageReadDefault.TheImpl.{ghosts}
use Rattle.layout.specs.declared.MessageRead.{MessageRead}

-- where the message's default is a given record
pub default_read : (M : RattleType) (message : Ghosts M.Denot) (dict : Dict) (blank : M.Denot) → ((m : M.Denot) → message.is_default m → m ≡ blank)
    → (r : MessageRead M.Denot) → (ghosts M message dict).is_default r → r ≡ record { message = blank; replaced_escapes = 0 }
default_read M message dict blank is r d = λ i. record { message = is r.message d.0 i; replaced_escapes = d.1 i }
