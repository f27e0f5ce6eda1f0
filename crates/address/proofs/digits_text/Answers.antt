-- `address::digits_text` meets its contract: the digits that are left, stored too, still give the whole.
use Prim.Native.Nat.{ℕ, ◌+◌, ◌/◌, ◌≤◌, ◌<◌}
use mathlib.Core.Path.{◌≡◌, refl, sym, ◌∙◌}
use mathlib.Core.List.{List, [], ◌∷◌}
use native.Mathlib.Omega.{arith}
use native.Mathlib.Numerals.{add-one}
use borrow.Author.Tests.{eq-eqb, ne_eqb}
use lib.ListN.{length, get_or, take, drop, length-set, drop_of_length-le}
use lib.Seq.{drop-cons, get_or-take, length-take-le}
use Rattle.octets.specs.SemiOctets.{semi_octets}
use Rattle.octets.proofs.SemiOctets.{length_semi}
use Rattle.octets.proofs.Laws.{left_start, left_step, left_end, wrote_one}
use Rattle.address.specs.Address.{digit_character, without_f}
use Rattle.address.proofs.digits_text.Invariants.{digits_in}
use Rattle.address.proofs.digits_text.Goals as goal

-- the digits of what is left, by the next semi-octet
module _ (ds : List ℕ) (i : ℕ) (h : i < length ds) where
  skipped : get_or ds i 0 ≡ 15 → digits_in (drop i ds) ≡ digits_in (drop (i + 1) ds)
  unfolding without_f
  skipped e = rw (add-one, drop-cons ds i 0 h, eq-eqb (get_or ds i 0) 15 e)

  shown : (get_or ds i 0 ≡ 15 → ⊥) → digits_in (drop i ds) ≡ digit_character (get_or ds i 0) ∷ digits_in (drop (i + 1) ds)
  unfolding without_f
  shown e = rw (add-one, drop-cons ds i 0 h, ne_eqb (get_or ds i 0) 15 e)

nothing : (ds : List ℕ) (i : ℕ) → length ds ≤ i → digits_in (drop i ds) ≡ []
unfolding without_f
nothing ds i h = rw (drop_of_length-le ds h)

-- the semi-octets that count
long : (value : List ℕ) (count : ℕ) → (count + 1) / 2 ≤ length value → length (take count (semi_octets value)) ≡ count
long value count h = length-take-le count (semi_octets value) (rw length_semi (omega arith))

-- the semi-octet that is read is one of them
read : (value : List ℕ) (count i x : ℕ) → i < count → x ≡ get_or (semi_octets value) i 0 → get_or (take count (semi_octets value)) i 0 ≡ x
read value count i x h e = get_or-take count (semi_octets value) i 0 h ∙ sym e

pub loop-i-init : goal.loop-i-init
loop-i-init c = (omega arith, refl, left_start _ _ _)

pub character_from_semi_octet-requires : goal.character_from_semi_octet-requires
character_from_semi_octet-requires c = let s = c.semi_octet-semi.ensures.1 in omega (arith, c.if-semi-eq15.false)

pub loop-i-preserved-then-semi-eq15 : goal.loop-i-preserved-then-semi-eq15
loop-i-preserved-then-semi-eq15 c =
    let a = c.args in
    let l = c.loop-i in
    let size = long a.value.now a.count c.requires.1 in
    let e = skipped (take a.count (semi_octets a.value.now)) l.i (omega arith) (read a.value.now a.count l.i _ (omega arith) c.semi_octet-semi.ensures.0 ∙ c.if-semi-eq15.true) in
    (omega arith, l.invariant.1, rw e at l.invariant.2)

pub loop-i-preserved : goal.loop-i-preserved
loop-i-preserved c =
    let a = c.args in
    let l = c.loop-i in
    let size = long a.value.now a.count c.requires.1 in
    let r = read a.value.now a.count l.i _ (omega arith) c.semi_octet-semi.ensures.0 in
    let e = shown (take a.count (semi_octets a.value.now)) l.i (omega arith) (λ q. c.if-semi-eq15.false (sym r ∙ q)) in (
      omega arith,
      simp length-set l.invariant.1,
      left_step _ l.invariant.2 (wrote_one _ _ _) (e ∙ rw (c.character_from_semi_octet.ensures, r)),
    )

pub shape_of-text : goal.shape_of-text
shape_of-text c = c.loop-i.invariant.1

pub returns : goal.returns
returns c =
    let a = c.args in
    let l = c.loop-i in
    let size = long a.value.now a.count c.requires.1 in
    let none_left : digits_in (drop l.i (take a.count (semi_octets a.value.now))) ≡ [] = nothing (take a.count (semi_octets a.value.now)) l.i (omega arith) in
    let done = left_end l.invariant.2 none_left in
    record { place = done.0; list = done.1 }
