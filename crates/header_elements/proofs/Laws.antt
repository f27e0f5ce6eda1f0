-- Header elements read and written: what was read is written in its one order, as it was exactly where it was so ordered; what was written is read back so ordered.
-- Assumes nothing.
use Rattle.std.specs.Prelude.{Ok, Err}
use Prim.Native.Nat.{ℕ, suc, ◌+◌, ◌≤◌, ◌<◌}
use mathlib.Core.Path.{◌≡◌, refl, sym, ap, ◌∙◌}
use mathlib.Core.Bool.{Bool, true, false}
use mathlib.Core.List.{List, [], ◌∷◌, ◌++◌}
use mathlib.Core.Logic.{◌↔◌}
use native.Mathlib.Numerals.{add-one}
use native.Mathlib.Omega.{arith}
use borrow.Author.Tests.{le-leb, lt-leb, leb-true, leb-false}
use lib.Dec.{leb}
use lib.ListN.{length, take}
use lib.Seq.{take-append_seam, drop-append_seam}
use Rattle.octets.specs.Answers.{Said}
use Rattle.octets.specs.Each.{Octets}
use Rattle.octets.specs.Lent.{refused, made}
use Rattle.octets.specs.declared.Refusal.TheVariants.{ElementsTooLong}
use Rattle.octets.proofs.Checks.{never, all_passed, one_against, made_told, holds}
use Rattle.octets.proofs.Each.{octets_take, octets_drop}
use Rattle.octets.proofs.Places.{given}
use Rattle.user_data_header.specs.Header.{header_octets}
use Rattle.header_elements.specs.declared.HeaderElements.{HeaderElements}
use Rattle.header_elements.specs.Elements.{Element, joined, header_of, elements_in}
use Rattle.header_elements.specs.Order.{having, ordered, Rising}
use Rattle.header_elements.specs.Record.{held, answer, elements_read, list_of, value_octets, needed, header_making, in_order, cleared, Typed}
use Rattle.header_elements.proofs.Apart.{header_is, header_reads}
use Rattle.header_elements.proofs.Held.{list_held, needed_held, cleared_held, needed_cleared, record_held, list_size, list_octets}
use Rattle.header_elements.proofs.Order.{Below, none_lost, rising, already, ordered_twice, same_size}

-- ---- what the writer makes of a record

module _ (r : HeaderElements) where
  abbrev header : List ℕ
  header = header_of (ordered (list_of r))

  pub makes_none : 255 < needed r → header_making r ≡ refused ElementsTooLong
  unfolding header_making
  makes_none h = one_against header _ (rw (lt-leb (needed r) 255 h))

  pub makes : needed r ≤ 255 → header_making r ≡ made header (length header)
  unfolding header_making
  makes h = all_passed header _ (rw (le-leb (needed r) 255 h))

  pub was_made : {octets : List ℕ} {a : ℕ} → header_making r ≡ made octets a → (needed r ≤ 255) × (header ≡ octets)
  unfolding header_making
  was_made e = let (passed, is) = made_told _ header e in (leb-true _ _ (holds ElementsTooLong (leb (needed r) 255) [] passed).0, is)

  pub header_size_lem : Typed r → needed r ≤ 255 → length header ≡ needed r + 1
  unfolding header_of
  header_size_lem typed h = rw (same_size (list_of r) (list_octets r typed), list_size r typed h) (omega arith)

  -- 25, and not 1, meets a list too long for its arrays: more than 127 elements, or values of more than 253 octets
  pub too_many : 127 < r.count → header_making r ≡ refused ElementsTooLong
  too_many h = makes_none (omega arith)

  pub too_large : 0 < r.count → 253 < value_octets r → header_making r ≡ refused ElementsTooLong
  too_large h t = makes_none (omega arith)

  -- at most 256 octets are written
  pub at_most : Typed r → {octets : List ℕ} {a : ℕ} → header_making r ≡ made octets a → length octets ≤ 256
  at_most typed e = let (few, is) = was_made e in rw (← is, header_size_lem typed few) (omega arith)

-- ---- a header that was read

answered : {r : HeaderElements} (found : Said (List Element)) → answer found ≡ Ok r → (es : List Element) × (found ≡ Ok es) × (r ≡ held es)
answered (Ok es) e = (es, refl, sym (given e))
answered (Err why) e = absurd (never (sym e))

-- identifiers of a header are octets
octets_below : (es : List Element) → Octets (joined es) → Below 256 es
unfolding joined
octets_below [] o = tt
octets_below (e ∷ es) o = (o 0, octets_below es (rw (drop-append_seam e.value (joined es)) at (octets_drop (length e.value) (e.value ++ joined es) (λ j. o (suc (suc j))))))

-- headers tell their elements
header_tells : (es fs : List Element) → header_of es ≡ header_of fs → es ≡ fs
header_tells es fs e = given (sym (header_reads es []) ∙ ap (λ (h : List ℕ). elements_in (h ++ [])) e ∙ header_reads fs [])

-- a header of elements and what follows it: the octets that it counts are its own
counted : (es : List Element) (rest : List ℕ) → Octets (header_of es ++ rest)
    → (take (header_octets (header_of es ++ rest)) (header_of es ++ rest) ≡ header_of es) × Below 256 es × (length (joined es) ≤ 255)
unfolding header_of
counted es rest o = (
  rw (add-one, take-append_seam (joined es) rest),
  octets_below es (rw (take-append_seam (joined es) rest) at (octets_take (length (joined es)) (joined es ++ rest) (λ j. o (suc j)))),
  omega (arith, o 0),
)

module _ (s : List ℕ) (o : Octets s) (r : HeaderElements) where
  abbrev own : List ℕ
  own = take (header_octets s) s

  abbrev list : List Element
  list = list_of r

  told_of : (es : List Element) (rest : List ℕ) → s ≡ header_of es ++ rest → r ≡ held es → (own ≡ header_of list) × Below 256 list × (needed r ≤ 255)
  told_of es rest whole is = rw (is, list_held es, needed_held es, whole) (counted es rest (λ j. rw whole at (o j)))

  module _ (e : elements_read s ≡ Ok r) where
    told : (own ≡ header_of list) × Below 256 list × (needed r ≤ 255)
    unfolding elements_read
    told = let (es, found, is) = answered (elements_in s) e in let (rest, whole) = (header_is s es).0 found in told_of es rest whole is

    same_octets : length (header_of (ordered list)) ≡ length own
    unfolding header_of
    same_octets = rw (told.0, same_size list told.1)

    -- reading any accepted header and writing it returns its elements so ordered, in as many octets: they rise, and of each identifier they are the same list as before
    pub so_ordered : (header_making r ≡ made (header_of (ordered list)) (length own)) × Rising (ordered list) × ((i : ℕ) → having i (ordered list) ≡ having i list)
    so_ordered = (rw same_octets at (makes r told.2), rising list, none_lost list told.1)

    -- and the header's own octets exactly when they are in that order already
    pub own_octets : (header_making r ≡ made own (length own)) ↔ Rising list
    own_octets = (
      λ m. (already list told.1).0 (header_tells (ordered list) list ((was_made r m).1 ∙ told.0)),
      λ up. so_ordered.0 ∙ rw ((already list told.1).1 up, told.0),
    )

-- ---- what was written

-- it is read back as the same record so ordered, whatever follows it; that is the record itself exactly when its elements are in that order
pub read_back : (r : HeaderElements) → Typed r → (octets : List ℕ) (a : ℕ) → header_making r ≡ made octets a → (rest : List ℕ)
    → (elements_read (octets ++ rest) ≡ Ok (in_order r)) × (list_of (in_order r) ≡ ordered (list_of r)) × (cleared (in_order r) ≡ in_order r) × (in_order (in_order r) ≡ in_order r) × ((in_order r ≡ cleared r) ↔ Rising (list_of r))
unfolding elements_read in_order
read_back r typed octets a e rest =
    let es = list_of r in
    let (few, is) = was_made r e in
    let same = record_held r typed few in
    let stays = already es (list_octets r typed) in (
      rw (← is, header_reads (ordered es) rest),
      list_held (ordered es),
      cleared_held (ordered es),
      rw (list_held (ordered es), ordered_twice es),
      (λ q. stays.0 (sym (list_held (ordered es)) ∙ ap list_of (q ∙ sym same) ∙ list_held es), λ up. rw (stays.1 up) same),
    )

-- what is no part of a record is not written
of_cleared : (r : HeaderElements) → Typed r → header_making (cleared r) ≡ header_making r
of_cleared r typed = by (leb (needed r) 255) refl
  where
    by : (t : Bool) → leb (needed r) 255 ≡ t → header_making (cleared r) ≡ header_making r
    by true h =
        let few = leb-true _ _ h in
        let same : list_of (cleared r) ≡ list_of r = ap list_of (sym (record_held r typed few)) ∙ list_held (list_of r) in
        rw same at (makes (cleared r) (rw (needed_cleared r typed) few)) ∙ sym (makes r few)
    by false h = makes_none (cleared r) (rw (needed_cleared r typed) (leb-false _ _ h)) ∙ sym (makes_none r (leb-false _ _ h))

-- equal records are written alike
pub written_alike : (r q : HeaderElements) → Typed r → Typed q → cleared r ≡ cleared q → header_making r ≡ header_making q
written_alike r q f g e = sym (of_cleared r f) ∙ ap header_making e ∙ of_cleared q g
