-- `header_elements::HeaderElements::encode` meets its contract: each answer is a case of what the writer makes.
use Prim.Native.Nat.{ℕ, ◌+◌, ◌-◌, ◌*◌, ◌≤◌}
use mir.Syntax.{w8}
use mir.Val.{Fits}
use mathlib.Core.Path.{◌≡◌, sym, ◌∙◌}
use mathlib.Core.List.{List, ◌∷◌}
use native.Mathlib.Omega.{arith}
use borrow.Author.Rules.{rules}
use lib.ListN.{length, get_or, set, take, drop, length-drop, length-set}
use lib.Seq.{length-take-le}
use borrow.Rule.Slice.PartMut.{put_mid}
use Rattle.octets.specs.Lent.{Wrote}
use Rattle.octets.proofs.Laws.{lent_refused, lent_short, lent_written, set_part}
use Rattle.header_elements.specs.declared.HeaderElements.{HeaderElements}
use Rattle.header_elements.specs.Elements.{joined, header_of}
use Rattle.header_elements.specs.Order.{ordered}
use Rattle.header_elements.specs.Record.{list_of, needed, total, Typed}
use Rattle.header_elements.proofs.Held.{identifiers_count, lengths_count, same_count, values_fit, list_size, list_octets}
use Rattle.header_elements.proofs.Order.{same_size}
use Rattle.header_elements.proofs.Laws.{makes_none, makes, header_size_lem, too_many}
use Rattle.header_elements.proofs.HeaderElements.encode.Goals as goal
use Rattle.header_elements.proofs.HeaderElements.encode.Goals.{Start}

module _ (r : HeaderElements) (typed : Typed r) (few : r.count ≤ 127) where
  identifiers_are : length (take r.count r.identifiers) ≡ r.count
  identifiers_are = identifiers_count r typed few

  lengths_are : length (take r.count r.lengths) ≡ r.count
  lengths_are = lengths_count r typed few

  module _ (n : ℕ) (counted : n ≡ 2 * length (take r.count r.lengths) + total (take r.count r.lengths)) where
    is_needed : n ≡ needed r
    is_needed = omega (arith, lengths_are)

    module _ (h : n ≤ 255) where
      fits : needed r ≤ 255
      fits = omega (arith, is_needed)

      size : length (header_of (ordered (list_of r))) ≡ n + 1
      size = omega (arith, header_size_lem r typed fits, is_needed)

      octets : length (joined (ordered (list_of r))) ≡ n
      octets = same_size (list_of r) (list_octets r typed) ∙ list_size r typed fits ∙ sym is_needed

      whole : n ∷ joined (ordered (list_of r)) ≡ header_of (ordered (list_of r))
      unfolding header_of
      whole = rw octets

typed : (c : Start) → Typed c.args.self
typed c = (search rules, search rules, search rules, λ i. (octet i).fits)
  where
    octet : (i : ℕ) → Fits w8 (get_or c.args.self.identifiers i 0)
    octet i = search rules

-- the octets after the first, and with it
body_size : (n : ℕ) (out : List ℕ) → n + 1 ≤ length out → length (take (n + 1 - 1) (drop 1 (set out 0 n))) ≡ n
body_size n out h = let e : n + 1 - 1 ≡ n = omega arith in rw e (length-take-le n _ (rw (length-drop, length-set) (omega arith)))

stored : (n : ℕ) (out body : List ℕ) → length body ≡ n → n + 1 ≤ length out → Wrote 0 (n ∷ body) out (n + 1) (put_mid 1 (n + 1 - 1) (set out 0 n) body)
stored n out body e h =
    let k : n + 1 - 1 ≡ length body = omega arith in
    record { place = omega arith; list = rw k (set_part 1 (set out 0 n) body (rw length-set (omega arith))) }

pub returns-then-count-gt-MAX_ELEMENTS : goal.returns-then-count-gt-MAX_ELEMENTS
returns-then-count-gt-MAX_ELEMENTS c = lent_refused _ _ (too_many _ c.if-count-gt-MAX_ELEMENTS.true)

pub returns-then-needed-gt-MAX_OCTETS : goal.returns-then-needed-gt-MAX_OCTETS
returns-then-needed-gt-MAX_OCTETS c =
    let t : Typed c.args.self = typed (goal.at.returns-then-needed-gt-MAX_OCTETS c).Start in
    lent_refused _ _ (makes_none _ (omega (arith, is_needed c.args.self t c.if-count-gt-MAX_ELEMENTS.false _ c.octets_needed-needed.ensures, c.if-needed-gt-MAX_OCTETS.true)))

pub returns-then-out-size : goal.returns-then-out-size
returns-then-out-size c =
    let t : Typed c.args.self = typed (goal.at.returns-then-out-size c).Start in
    let h : c.octets_needed-needed.result ≤ 255 = omega arith in
    lent_short _ (makes _ (fits c.args.self t c.if-count-gt-MAX_ELEMENTS.false _ c.octets_needed-needed.ensures h)) (omega (arith, size c.args.self t c.if-count-gt-MAX_ELEMENTS.false _ c.octets_needed-needed.ensures h, c.if-out-size.true))

pub put_elements-requires : goal.put_elements-requires
unfolding list_of
put_elements-requires c =
    let r = c.args.self in
    let t : Typed c.args.self = typed (goal.at.put_elements-requires c).Start in
    let few = c.if-count-gt-MAX_ELEMENTS.false in
    let counted = c.octets_needed-needed.ensures in
    let h : c.octets_needed-needed.result ≤ 255 = omega arith in
    let fit = fits r t few _ counted h in (
      same_count r t fit,
      omega (arith, identifiers_are r t few, counted),
      values_fit r t fit,
      rw (body_size _ _ c.if-out-size.false) h,
      body_size _ _ c.if-out-size.false ∙ sym (octets r t few _ counted h),
    )

pub returns : goal.returns
unfolding list_of
returns c =
    let r = c.args.self in
    let t : Typed c.args.self = typed (goal.at.returns c).Start in
    let few = c.if-count-gt-MAX_ELEMENTS.false in
    let counted = c.octets_needed-needed.ensures in
    let h : c.octets_needed-needed.result ≤ 255 = omega arith in
    let w = stored _ _ (joined (ordered (list_of r))) (octets r t few _ counted h) c.if-out-size.false in
    lent_written _ (makes r (fits r t few _ counted h)) (omega (arith, size r t few _ counted h, c.if-out-size.false)) (rw c.put_elements.ensures (rw (whole r t few _ counted h) at w))
