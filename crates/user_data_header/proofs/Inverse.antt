-- Reading and packing with a header are inverse.
-- Assumes nothing.
use Rattle.std.specs.Prelude.{Ok}
use Prim.Native.Nat.{ℕ, ◌+◌, ◌-◌, ◌≤◌}
use mathlib.Core.Path.{◌≡◌, refl, sym, ◌∙◌, ap, ap₂}
use mathlib.Core.Bool.{Bool, true, false}
use mathlib.Core.List.{List, ◌++◌}
use mathlib.Core.Option.{some}
use native.Mathlib.Omega.{arith}
use borrow.Author.Tests.{eqb-true, eqb-false, ltb-true, ltb-false}
use lib.Dec.{eqb, ltb}
use lib.ListN.{length, get_or, take, drop, get_or-append, length-append}
use lib.Seq.{take_at, drop_at, length-take-le, get_or-take}
use Rattle.octets.specs.Lent.{made}
use Rattle.septets.specs.Septets.{packed_septets, septets_in, header_septets, fill_bits, octet_count}
use Rattle.septets.proofs.Inverse.{length_packed, septets_septets, length_septets}
use Rattle.gsm7.specs.Reading.{text_of, replaced_in}
use Rattle.gsm7.specs.Writing.{septets_of}
use Rattle.gsm7.specs.Packing.{packed_as}
use Rattle.gsm7.specs.declared.packing.Packed.{Packed}
use Rattle.gsm7.proofs.Adequate.{text_packed_text, packed_none_replaced}
use Rattle.gsm7.specs.Packing.{octets_after}
use Rattle.gsm7.proofs.PackingCases.{packing_made, packing_done}
use Rattle.gsm7.proofs.EncodingLaws.{read_writable}
use Rattle.octets.proofs.Checks.{never}
use Rattle.user_data_header.specs.declared.UnpackedWithHeader.{UnpackedWithHeader}
use Rattle.user_data_header.specs.Header.{header_octets, header_given, unpacked_with_header, packing_with_header}
use Rattle.user_data_header.proofs.Cases.{read_long, read_short, read_over, read_few, read_done, packing_bad, packing_good}

-- a header that is packed is as long as its first octet says
whole_header : (header text xs : List ℕ) (a : Packed) → packing_with_header header text ≡ made xs a → length header ≡ header_octets header
whole_header header text xs told p = by_test (eqb (length header) (header_octets header)) refl
  where
    by_test : (t : Bool) → eqb (length header) (header_octets header) ≡ t → length header ≡ header_octets header
    by_test true e = eqb-true _ _ e
    by_test false e = let r = packing_bad header text (eqb-false _ _ e) in let z : ◌≡◌ {A = ℕ} 0 1 = cc in absurd (omega arith)

-- what was packed reads back as the same header and text, none replaced
after_reads : (header text ss : List ℕ) → length header ≡ header_octets header → septets_of text ≡ some ss → header_septets (length header) + length ss ≤ 255
    → unpacked_with_header (octets_after header ss) (header_septets (length header) + length ss) ≡ Ok (header_given header text 0)
after_reads header text ss long e few =
    let h = length header in
    let packed = packed_septets (fill_bits h) ss in
    let os = header ++ packed in
    let n = header_septets h + length ss in
    let first : header_octets os ≡ h = ap (λ (x : ℕ). x + 1) (get_or-append header packed 0 0 (omega arith)) ∙ sym long in
    let left : n - header_septets h ≡ length ss = omega arith in
    let size : length os ≡ h + octet_count (fill_bits h) (length ss) = length-append header packed ∙ rw length_packed in
    let rest : drop h os ≡ packed = drop_at header packed h refl in
    let enough : octet_count (fill_bits h) (n - header_septets h) ≤ length os - h = rw left (omega arith) in
    read_done os n few (sym first) (omega arith) refl (omega arith) enough
    ∙ rw (left, rest, take_at header packed h refl) (ap₂ (λ (t : List ℕ) (k : ℕ). Ok (header_given header t k)) (text_packed_text (fill_bits h) text ss e) (packed_none_replaced (fill_bits h) text ss e))

pub packed_reads : (header text xs : List ℕ) (told : Packed) → packing_with_header header text ≡ made xs told
    → unpacked_with_header xs told.septets ≡ Ok (header_given header text 0)
packed_reads header text xs told p =
    let long = whole_header header text xs told p in
    let m = packing_made header text xs told (sym (packing_good header text long) ∙ p) in
    ap₂ unpacked_with_header m.3 (ap (λ (b : Packed). b.septets) m.4) ∙ after_reads header text m.0 long m.1 m.2

-- what was read can be packed, in no more septets, and then reads as the same header and text, none replaced
abbrev Packs : List ℕ → ℕ → Type 0
Packs os n =
    (header : List ℕ) × (text : List ℕ) × (m : ℕ) × (xs : List ℕ) × (k : ℕ) × (unpacked_with_header os n ≡ Ok (header_given header text m)) × (packing_with_header header text ≡ made xs (packed_as xs k))
    × (k ≤ n) × (unpacked_with_header xs k ≡ Ok (header_given header text 0))

module _ (os : List ℕ) (n : ℕ) where
  abbrev h : ℕ
  h = header_octets os

  packs : n ≤ 255 → h ≤ length os → header_septets h ≤ n → octet_count (fill_bits h) (n - header_septets h) ≤ length os - h → Packs os n
  packs few whole fits enough =
      let ss = septets_in (drop h os) (fill_bits h) (n - header_septets h) in
      let w = read_writable ss (septets_septets _ _ _) in
      let header = take h os in
      let text = text_of ss in
      let size : length header ≡ h = length-take-le h os whole in
      let first : get_or header 0 0 ≡ get_or os 0 0 = get_or-take h os 0 0 (omega arith) in
      let xs = octets_after header w.0 in
      let k = header_septets (length header) + length w.0 in
      let under : k ≤ n = rw size (omega (arith, w.2, length_septets (drop h os) (fill_bits h) (n - header_septets h))) in
      let made_is : packing_with_header header text ≡ made xs (packed_as xs k) = packing_good header text (size ∙ rw first) ∙ packing_done header text w.0 w.1 (omega arith) in
      (header, text, replaced_in ss, xs, k, read_done os n few refl whole refl fits enough, made_is, under, packed_reads header text xs (packed_as xs k) made_is)

  pub read_packs : {read : UnpackedWithHeader} → unpacked_with_header os n ≡ Ok read → Packs os n
  read_packs d =
      by_count (ltb 255 n) refl (ltb (length os) h) refl (ltb n (header_septets h)) refl (ltb (length os - h) (octet_count (fill_bits h) (n - header_septets h))) refl
    where
      by_count : (t : Bool) → ltb 255 n ≡ t → (u : Bool) → ltb (length os) h ≡ u → (v : Bool) → ltb n (header_septets h) ≡ v
          → (w : Bool) → ltb (length os - h) (octet_count (fill_bits h) (n - header_septets h)) ≡ w → Packs os n
      by_count true p u q v r w s = absurd (never (sym d ∙ read_long os n (ltb-true _ _ p)))
      by_count false p true q v r w s = absurd (never (sym d ∙ read_short os n (ltb-false _ _ p) refl (ltb-true _ _ q)))
      by_count false p false q true r w s = absurd (never (sym d ∙ read_over os n (ltb-false _ _ p) refl (ltb-false _ _ q) refl (ltb-true _ _ r)))
      by_count false p false q false r true s = absurd (never (sym d ∙ read_few os n (ltb-false _ _ p) refl (ltb-false _ _ q) refl (ltb-false _ _ r) (ltb-true _ _ s)))
      by_count false p false q false r false s = packs (ltb-false _ _ p) (ltb-false _ _ q) (ltb-false _ _ r) (ltb-false _ _ s)
