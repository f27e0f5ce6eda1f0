-- `address::value_text` meets its contract: septets or digits, by the type of number.
use Prim.Native.Nat.{ℕ, ◌*◌, ◌/◌}
use mathlib.Core.Path.{◌≡◌, sym}
use mathlib.Core.List.{List, map}
use native.Mathlib.Omega.{arith}
use borrow.Author.Tests.{eq-eqb, ne_eqb}
use lib.ListN.{take}
use Rattle.octets.specs.SemiOctets.{semi_octets}
use Rattle.septets.specs.Septets.{septets_in}
use Rattle.gsm7.specs.Reading.{text_of, replaced_in}
use Rattle.gsm7.proofs.DecodingLaws.{text_short}
use Rattle.address.specs.Address.{digit_character, without_f, value_text, value_septets}
use Rattle.address.proofs.value_text.Goals as goal

module _ (ton count : ℕ) (value : List ℕ) where
  text_is : ton ≡ 5 → let ss = septets_in value 0 (count * 4 / 7) in (value_text ton count value ≡ text_of ss) × (value_septets ton count value ≡ ss)
  unfolding value_text value_septets
  text_is e = (rw (eq-eqb ton 5 e), rw (eq-eqb ton 5 e))

  digits_are : (ton ≡ 5 → ⊥) → (value_text ton count value ≡ map digit_character (without_f (take count (semi_octets value)))) × (replaced_in (value_septets ton count value) ≡ 0)
  unfolding value_text value_septets replaced_in
  digits_are e = (rw (ne_eqb ton 5 e), rw (ne_eqb ton 5 e))

-- at most 145 septets have a text of at most 290 octets
pub unpack_septets-requires : goal.unpack_septets-requires
unpack_septets-requires c =
    let a = c.args in
    let p = c.requires in
    (omega arith, omega arith, omega (arith, p.0, p.2, text_short a.value.now 0 (a.count * 4 / 7)))

pub returns-then-ton-eq-TYPE_OF_NUMBER_ALPHANUMERIC : goal.returns-then-ton-eq-TYPE_OF_NUMBER_ALPHANUMERIC
returns-then-ton-eq-TYPE_OF_NUMBER_ALPHANUMERIC c =
    let a = c.args in
    let is = text_is a.ton a.count a.value.now c.if-ton-eq-TYPE_OF_NUMBER_ALPHANUMERIC.true in
    rw (is.0, is.1) c.unpack_septets.ensures

pub returns : goal.returns
returns c =
    let a = c.args in
    let is = digits_are a.ton a.count a.value.now c.if-ton-eq-TYPE_OF_NUMBER_ALPHANUMERIC.false in
    (rw is.0 c.digits_text.ensures, sym is.1)
