-- `gsm7::encode::add` meets its contract: a store past the array's end would change nothing.
use mathlib.Core.Path.{refl, sym}
use native.Mathlib.Omega.{arith}
use lib.Seq.{set_out}
use Rattle.gsm7.proofs.encode.add.Goals as goal

pub returns-then-count-lt255 : goal.returns-then-count-lt255
returns-then-count-lt255 c = record { place = refl; list = refl }

pub returns : goal.returns
returns c = record { place = refl; list = sym (set_out _ _ _ (omega arith)) }
