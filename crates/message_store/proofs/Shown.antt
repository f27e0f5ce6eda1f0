-- Which numbers are missing, and what is shown of a part.
-- Assumes nothing.
use Prim.Native.Nat.{ℕ, zero, suc, ◌+◌, ◌-◌, ◌≤◌, ◌<◌}
use mathlib.Core.Path.{◌≡◌, refl, sym, ap, ◌∙◌}
use mathlib.Core.List.{List, [], ◌∷◌, ◌++◌}
use mathlib.Core.Option.{Option, none, some}
use native.Mathlib.Nat.{add-zero, le_refl}
use native.Mathlib.Omega.{arith}
use borrow.Author.Tests.{ne_eqb}
use lib.ListN.{length, get_or, take, drop, length-drop}
use lib.Seq.{take_all}
use Rattle.octets.specs.Lent.{Wrote}
use Rattle.coding.specs.Coding.{coding_of, data_octets}
use Rattle.coding.specs.declared.UserDataCoding.{UserDataCoding}
use Rattle.coding.specs.declared.UserDataCoding.TheVariants.{Gsm7Bit, EightBit, Ucs2, Compressed}
use Rattle.septets.specs.Septets.{septets_in, lowest_digits, header_septets, fill_bits}
use Rattle.gsm7.specs.Reading.{text_of}
use Rattle.gsm7.proofs.DecodingLaws.{text_short}
use Rattle.user_data_header.specs.Header.{header_octets}
use Rattle.message_store.specs.Part.{Part, text_after, shown_in}
use Rattle.message_store.specs.Store.{coding_in, block, part_of, holding, holdings, missing_from, shown_parts}

-- ---- which numbers are missing

pub missing_few : (k : ℕ) (ps : List (Option Part)) → length (missing_from k ps) ≤ length ps
unfolding missing_from
missing_few k [] = omega arith
missing_few k (none ∷ ps) = let h = missing_few (suc k) ps in omega arith
missing_few k (some p ∷ ps) = let h = missing_few (suc k) ps in omega arith

-- as many are looked at as there are numbers
pub length_holdings : (n count : ℕ) (slot : List ℕ) → length (holdings n count slot) ≡ count
unfolding holdings
length_holdings n zero slot = refl
length_holdings n (suc count) slot = ap suc (length_holdings (suc n) count slot)

-- a loop over the numbers
module _ (slot : List ℕ) (total n : ℕ) (h : n ≤ total) where
  abbrev rest : ℕ → List ℕ
  rest k = missing_from k (holdings k (total + 1 - k) slot)

  unrolled : rest n ≡ missing_from n (holding n slot ∷ holdings (n + 1) (total + 1 - (n + 1)) slot)
  unfolding holdings
  unrolled = let a : total + 1 - n ≡ suc (total + 1 - (n + 1)) = omega arith in let b : n + 1 ≡ suc n = omega arith in rw (a, b)

  pub missing_here : get_or slot (n + 1) 0 ≡ 0 → rest n ≡ n ∷ rest (n + 1)
  unfolding missing_from holding
  missing_here e = let i : 1 + n ≡ n + 1 = omega arith in let b : suc n ≡ n + 1 = omega arith in unrolled ∙ rw (i, e, b)

  pub missing_not : (get_or slot (n + 1) 0 ≡ 0 → ⊥) → rest n ≡ rest (n + 1)
  unfolding missing_from holding
  missing_not ne = let i : 1 + n ≡ n + 1 = omega arith in let b : n + 1 ≡ suc n = omega arith in unrolled ∙ rw (i, ne_eqb (get_or slot (n + 1) 0) 0 ne, b)

-- ---- what is shown of a part

-- a 7-bit part's text, as the code cuts it out; nothing where the header takes all septets or more
module _ (p : Part) (own : length p.octets ≡ data_octets Gsm7Bit p.udl) (few : p.udl ≤ 255) {h hs : ℕ} (h-is : h ≡ header_octets p.octets) (hs-is : hs ≡ header_septets h) where
  pub text_none : (l : List ℕ) (at : ℕ) → p.udl < hs → Wrote at (text_after p) l at l
  unfolding text_after septets_in lowest_digits text_of
  text_none l at over = let z : p.udl - header_septets h ≡ 0 = omega arith in rw (← h-is, z) (record { place = sym (add-zero at); list = refl })

  -- the header ends within the data
  pub header_within : hs ≤ p.udl → h ≤ length p.octets
  unfolding data_octets
  header_within counted = omega (arith, own)

  module _ (counted : hs ≤ p.udl) {fill : ℕ} (fill-is : fill ≡ fill_bits h) where
    abbrev cut_text : List ℕ
    cut_text = text_of (septets_in (take (length p.octets - h) (drop h p.octets)) fill (p.udl - hs))

    pub text_room : fill < 7 → (at : ℕ) {room : ℕ} → at + 510 ≤ room → (fill < 8) × (p.udl - hs ≤ 255) × (at + length cut_text ≤ room)
    text_room low at r = (omega arith, omega arith, omega (arith, text_short (take (length p.octets - h) (drop h p.octets)) fill (p.udl - hs)))

    pub text_cut : cut_text ≡ text_after p
    unfolding text_after
    text_cut = rw (take_all (length p.octets - h) (drop h p.octets) (rw length-drop (le_refl _)), hs-is, fill-is, h-is)

-- how long it can be
pub shown_short : (coding : UserDataCoding) (p : Part) → p.udl ≤ 255 → length p.octets ≤ 255 → length (shown_in coding p) ≤ 510
unfolding shown_in text_after
shown_short Gsm7Bit p u h = let n = header_octets p.octets in omega (arith, text_short (drop n p.octets) (fill_bits n) (p.udl - header_septets n))
shown_short EightBit p u h = let e = length-drop (header_octets p.octets) p.octets in omega arith
shown_short Ucs2 p u h = let e = length-drop (header_octets p.octets) p.octets in omega arith
shown_short Compressed p u h = let e = length-drop (header_octets p.octets) p.octets in omega arith

-- ---- a loop over the numbers of a whole message

module _ (slot : List ℕ) (total n : ℕ) (h : n ≤ total) (whole : missing_from n (holdings n (total + 1 - n) slot) ≡ []) where
  abbrev dcs : ℕ
  dcs = coding_in slot

  held : get_or slot (n + 1) 0 ≡ 0 → ⊥
  held e = let q : n ∷ missing_from (n + 1) (holdings (n + 1) (total + 1 - (n + 1)) slot) ≡ [] = sym (missing_here slot total n h e) ∙ whole in let z : ◌≡◌ {A = ℕ} 0 1 = cc in absurd (omega arith)

  pub still_whole : missing_from (n + 1) (holdings (n + 1) (total + 1 - (n + 1)) slot) ≡ []
  still_whole = sym (missing_not slot total n h held) ∙ whole

  -- the part as the code cuts it out
  module _ {k : ℕ} (k_is : k ≡ data_octets (coding_of dcs) (get_or (block n slot) 0 0)) where
    abbrev cut : Part
    cut = record { udl = get_or (block n slot) 0 0; octets = take (1 + k - 1) (drop 1 (block n slot)) }

    holds : holding n slot ≡ some cut
    unfolding holding part_of
    holds = let i : 1 + n ≡ n + 1 = omega arith in let j : 1 + k - 1 ≡ k = omega arith in rw (i, ne_eqb (get_or slot (n + 1) 0) 0 held, j, k_is)

    unrolled_here : holdings n (total + 1 - n) slot ≡ some cut ∷ holdings (n + 1) (total + 1 - (n + 1)) slot
    unfolding holdings
    unrolled_here = let a : total + 1 - n ≡ suc (total + 1 - (n + 1)) = omega arith in let b : n + 1 ≡ suc n = omega arith in rw (a, holds, b)

    pub shown_here : shown_parts dcs (holdings n (total + 1 - n) slot) ≡ shown_in (coding_of dcs) cut ++ shown_parts dcs (holdings (n + 1) (total + 1 - (n + 1)) slot)
    unfolding shown_parts
    shown_here = ap (shown_parts dcs) unrolled_here
