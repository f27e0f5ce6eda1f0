-- `message_store::key_of` meets its contract: the octets before the text, then the text.
use Rattle.std.proofs.Common.{◌/◌, ◌%◌, ◌≡◌, [], ◌∷◌, ◌++◌, arith, length, get_or}
use Rattle.octets.proofs.Laws.{wrote_then}
use Rattle.octets.proofs.Holding.{stored}
use Rattle.message_store.specs.Part.{Key}
use Rattle.message_store.specs.Store.{key_octets}
use Rattle.message_store.proofs.Keys.{key_octets_are, length_key}
use Rattle.message_store.proofs.key_of.Goals as goal

pub returns : goal.returns
returns c =
    let a = c.args in
    let k : Key = record { ton = a.number.ton; npi = a.number.npi; text = a.number.text.now; reference = a.reference; total = a.total } in
    let w = wrote_then c.put_octets-at.ensures c.put_octets-length.ensures in
    let n = length a.number.text.now in
    let high : n / 256 % 256 ≡ n / 256 = omega (arith, c.requires) in
    let e : (a.total ∷ get_or c.reference_octets.result 0 0 ∷ get_or c.reference_octets.result 1 0 ∷ get_or c.reference_octets.result 2 0 ∷ a.number.ton ∷ a.number.npi ∷ get_or c.to_be_bytes.result 0 0 ∷ get_or c.to_be_bytes.result 1 0 ∷ []) ++ a.number.text.now ≡ key_octets k =
    rw (c.reference_octets.ensures, c.to_be_bytes.ensures, high) (key_octets_are k) in
    stored 298 (key_octets k) (rw length_key (omega (arith, c.requires))) (rw e at w)
