-- `address::writing::semi_octet_or_f` meets its contract.
use Prim.Native.Nat.{◌≤◌}
use Rattle.std.specs.Prelude.{unwrap_or}
use Rattle.std.proofs.lemmas.List.{get_or_default}
use mathlib.Core.Path.{◌≡◌, sym, ap, ◌∙◌}
use mathlib.Core.List.{map}
use native.Mathlib.Omega.{arith}
use borrow.Author.Tests.{ltb-true, ltb-false}
use lib.ListN.{length, get_or, length-map, get_or-eq_default}
use Rattle.address.specs.Writing.{digit_value}
use Rattle.address.proofs.DigitCharacters.{value_small, value_at, value_or_f}
use Rattle.address.proofs.writing.semi_octet_or_f.Goals as goal

pub returns-in-Some : goal.returns-in-Some
returns-in-Some c =
    let a = c.args in
    let found = c.in-Some.ensures.lookup in
    let within = ltb-true _ _ (sym found.0) in
    let value : c.unwrap_or.result ≡ digit_value (get_or a.text.now a.i 0) = c.unwrap_or.ensures ∙ ap (λ o. unwrap_or o 15) c.semi_octet_from_character.ensures ∙ value_or_f _ ∙ ap digit_value (found.1 ∙ get_or_default a.text.now a.i _ 0 within) in
    (value ∙ sym (value_at a.text.now a.i within), rw value (value_small _))

pub returns-in-None : goal.returns-in-None
returns-in-None c =
    let a = c.args in
    let h : length (map digit_value a.text.now) ≤ a.i = rw length-map (ltb-false _ _ (sym c.in-None.ensures.lookup.0)) in
    (sym (get_or-eq_default (map digit_value a.text.now) 15 h), omega arith)
