-- `gsm7::decode::put_four` meets its contract: character by character.
use mathlib.Core.List.{append-nil}
use native.Mathlib.Omega.{arith}
use lib.ListN.{length-append}
use Rattle.octets.proofs.Laws.{wrote_then, kept_by}
use Rattle.gsm7.specs.Internal.{written_by}
use Rattle.gsm7.proofs.decode.put_four.Goals as goal

pub put-a-requires : goal.put-a-requires
unfolding written_by
put-a-requires g c = rw c.character_in.ensures (omega (arith, rw length-append at c.requires))

pub put-b-requires : goal.put-b-requires
unfolding written_by
put-b-requires g c =
    let a = rw c.character_in.ensures at c.put-a.ensures in
    rw c.character_in-2.ensures (omega (arith, simp length-append at c.requires, a.place, kept_by a))

pub put-c-requires : goal.put-c-requires
unfolding written_by
put-c-requires g c =
    let a = rw c.character_in.ensures at c.put-a.ensures in
    let b = rw c.character_in-2.ensures at c.put-b.ensures in
    rw c.character_in-3.ensures (omega (arith, simp length-append at c.requires, a.place, b.place, kept_by a, kept_by b))

pub put-requires : goal.put-requires
unfolding written_by
put-requires g c =
    let a = rw c.character_in.ensures at c.put-a.ensures in
    let b = rw c.character_in-2.ensures at c.put-b.ensures in
    let d = rw c.character_in-3.ensures at c.put-c.ensures in
    rw c.character_in-4.ensures (omega (arith, simp length-append at c.requires, a.place, b.place, d.place, kept_by a, kept_by b, kept_by d))

pub returns : goal.returns
unfolding written_by
returns g c = rw append-nil (wrote_then (rw c.character_in.ensures at c.put-a.ensures) (wrote_then (rw c.character_in-2.ensures at c.put-b.ensures) (wrote_then (rw c.character_in-3.ensures at c.put-c.ensures) (rw c.character_in-4.ensures at c.put.ensures))))
