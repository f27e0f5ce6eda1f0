-- `address::writing::all_digits` meets its contract: each character is a digit's.
use Rattle.std.proofs.Common.{rules}
use Rattle.std.specs.Prelude.{◌≡◌, ◌↔◌, true, IsTrue, EachIndex, slice_index}
use Rattle.octets.proofs.Each.{each_decides}
use Rattle.address.specs.Writing.{is_digit}
use Rattle.address.proofs.writing.all_digits.Goals as goal

pub returns : goal.returns
returns c =
    let s = c.args.text.now in
    let h : IsTrue c.all.result ↔ EachIndex s (λ k. is_digit (slice_index s k) ≡ true) = search (rules, c.all.ensures, c.iter.ensures) in
    each_decides is_digit s c.all.result h
