-- `septets::eight_octets` meets its contract: what is taken past the end is nothing, and its number 0.
use mathlib.Core.Path.{◌≡◌}
use mathlib.Core.List.{[]}
use lib.ListN.{drop, drop_of_length-le}
use Rattle.septets.specs.Septets.{number_of}
use Rattle.septets.proofs.eight_octets.Goals as goal

pub returns : goal.returns
unfolding number_of
returns c = let none : drop c.args.at c.args.octets.now ≡ [] = drop_of_length-le _ c.if-at-n-2.false in rw none
