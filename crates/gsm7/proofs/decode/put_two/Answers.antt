-- `gsm7::decode::put_two` meets its contract.
use mathlib.Core.Path.{refl}
use native.Mathlib.Numerals.{add-one}
use native.Mathlib.Omega.{arith}
use lib.ListN.{length-set}
use Rattle.gsm7.proofs.decode.put_two.Goals as goal

pub bounds-text-at-2 : goal.bounds-text-at-2
bounds-text-at-2 c = simp length-set (omega arith)

pub returns : goal.returns
returns c = record { place = refl; list = rw add-one }
