-- What the two conversions give, case by case; UCS2 that converts comes back unchanged, septets come back with each replaced escape as the character shown; and both are tied to the text readers and packers.
-- Assumes nothing.
use Rattle.std.specs.Prelude.{Ok, Err}
use Prim.Native.Nat.{ℕ, ◌%◌, ◌<◌, ◌≤◌}
use mathlib.Core.Path.{◌≡◌, refl, sym, ◌∙◌, ap, ap₂}
use mathlib.Core.Bool.{Bool, true, false}
use mathlib.Core.List.{List, []}
use mathlib.Core.Option.{Option, none, some}
use mathlib.Core.Logic.{◌↔◌}
use native.Mathlib.Omega.{arith}
use native.Mathlib.Nat.{zero-add}
use borrow.Author.Tests.{lt-ltb, le-ltb, ltb-true, ltb-false, eq-eqb, ne_eqb, eqb-true, eqb-false}
use lib.Dec.{eqb, ltb}
use lib.ListN.{length}
use Rattle.octets.specs.Each.{Octets}
use Rattle.octets.specs.Lent.{Making, refused, made}
use Rattle.octets.specs.declared.Refusal.{Refusal}
use Rattle.octets.specs.declared.Refusal.TheVariants.{LengthTooLarge, NotInAlphabet, TooFewOctets, TooManySeptets, OddOctets, InNeitherTable}
use Rattle.septets.specs.Septets.{septets_in, octet_count, packed_septets}
use Rattle.septets.proofs.Inverse.{unpack_pack, length_packed, length_septets, septets_septets}
use Rattle.gsm7.specs.Packing.{packed_as, packed_after, packing}
use Rattle.gsm7.specs.declared.packing.Packed.{Packed}
use Rattle.gsm7.specs.Reading.{replaced_in, text_given, unpacked}
use Rattle.gsm7.specs.Writing.{septets_of}
use Rattle.gsm7.proofs.PackingCases.{after_many, after_done}
use Rattle.gsm7.proofs.Reading.{unpacked_long, unpacked_few, unpacked_done}
use Rattle.ucs2.specs.Ucs2.{characters_in, ucs2_of, utf8_of, codes_of, characters_of, packed_codes, to_gsm7, to_ucs2}
use Rattle.ucs2.specs.Shown.{as_shown}
use Rattle.ucs2.proofs.Characters.{in_of, of_in, length_ucs2, codes_text, codes_shown, codes_digits, OneAbsent, codes_none}
use Rattle.ucs2.proofs.Shown.{characters_shown, shown_codes, shown_fewer, unchanged}

-- ---- UCS2 to septets, case by case

-- no septets, no packing
after_none : (header : List ℕ) → packed_after header none ≡ refused NotInAlphabet
unfolding packed_after
after_none header = refl

module _ (ucs2 : List ℕ) where
  pub gsm7_odd : (length ucs2 % 2 ≡ 0 → ⊥) → to_gsm7 ucs2 ≡ refused OddOctets
  unfolding to_gsm7
  gsm7_odd h = rw (ne_eqb (length ucs2 % 2) 0 h)

  module _ (even : length ucs2 % 2 ≡ 0) where
    gsm7_even : to_gsm7 ucs2 ≡ packed_codes (codes_of (characters_in ucs2))
    unfolding to_gsm7
    gsm7_even = rw (eq-eqb (length ucs2 % 2) 0 even)

    pub gsm7_absent : codes_of (characters_in ucs2) ≡ none → to_gsm7 ucs2 ≡ refused InNeitherTable
    gsm7_absent e = gsm7_even ∙ rw e

    module _ (ss : List ℕ) (e : codes_of (characters_in ucs2) ≡ some ss) where
      pub gsm7_some : to_gsm7 ucs2 ≡ packed_after [] (some ss)
      gsm7_some = gsm7_even ∙ rw e

      pub gsm7_many : 255 < length ss → to_gsm7 ucs2 ≡ refused TooManySeptets
      gsm7_many h = gsm7_some ∙ after_many [] ss (omega arith)

      pub gsm7_done : length ss ≤ 255 → to_gsm7 ucs2 ≡ made (packed_septets 0 ss) (packed_as (packed_septets 0 ss) (length ss))
      gsm7_done h = gsm7_some ∙ rw zero-add at (after_done [] ss (omega arith))

-- the cases, each with what is then made
data Converting (ucs2 : List ℕ) : Making Packed → Type 0 where
  odd : (length ucs2 % 2 ≡ 0 → ⊥) → Converting ucs2 (refused OddOctets)
  absent : length ucs2 % 2 ≡ 0 → codes_of (characters_in ucs2) ≡ none → Converting ucs2 (refused InNeitherTable)
  many : Converting ucs2 (refused TooManySeptets)
  done : length ucs2 % 2 ≡ 0 → (ss : List ℕ) → codes_of (characters_in ucs2) ≡ some ss → length ss ≤ 255 → Converting ucs2 (made (packed_septets 0 ss) (packed_as (packed_septets 0 ss) (length ss)))

converting : (ucs2 : List ℕ) → Converting ucs2 (to_gsm7 ucs2)
converting ucs2 = by_even (eqb (length ucs2 % 2) 0) refl
  where
    by_count : length ucs2 % 2 ≡ 0 → (ss : List ℕ) → codes_of (characters_in ucs2) ≡ some ss → (t : Bool) → ltb 255 (length ss) ≡ t → Converting ucs2 (to_gsm7 ucs2)
    by_count even ss e true q = rw (gsm7_many ucs2 even ss e (ltb-true _ _ q)) many
    by_count even ss e false q = rw (gsm7_done ucs2 even ss e (ltb-false _ _ q)) (done even ss e (ltb-false _ _ q))

    by_codes : length ucs2 % 2 ≡ 0 → (o : Option (List ℕ)) → codes_of (characters_in ucs2) ≡ o → Converting ucs2 (to_gsm7 ucs2)
    by_codes even none e = rw (gsm7_absent ucs2 even e) (absent even e)
    by_codes even (some ss) e = by_count even ss e (ltb 255 (length ss)) refl

    by_even : (t : Bool) → eqb (length ucs2 % 2) 0 ≡ t → Converting ucs2 (to_gsm7 ucs2)
    by_even true q = by_codes (eqb-true _ _ q) (codes_of (characters_in ucs2)) refl
    by_even false q = rw (gsm7_odd ucs2 (eqb-false _ _ q)) (odd (eqb-false _ _ q))

-- 31, exactly when the number of octets is even and a character is in neither table
pub refused_with_31 : (ucs2 : List ℕ) → (to_gsm7 ucs2 ≡ refused InNeitherTable) ↔ ((length ucs2 % 2 ≡ 0) × OneAbsent (characters_in ucs2))
refused_with_31 ucs2 = (of_case (converting ucs2), λ w. gsm7_absent ucs2 w.0 ((codes_none (characters_in ucs2)).1 w.1))
  where
    of_case : {m : Making Packed} → Converting ucs2 m → m ≡ refused InNeitherTable → (length ucs2 % 2 ≡ 0) × OneAbsent (characters_in ucs2)
    of_case (odd h) p = let z : ◌≡◌ {A = ℕ} 0 1 = cc in absurd (omega arith)
    of_case (absent even e) p = (even, (codes_none (characters_in ucs2)).0 e)
    of_case many p = let z : ◌≡◌ {A = ℕ} 0 1 = cc in absurd (omega arith)
    of_case (done even ss e few) p = let z : ◌≡◌ {A = ℕ} 0 1 = cc in absurd (omega arith)

-- where it gives octets
abbrev Converted : List ℕ → List ℕ → Packed → Type 0
Converted ucs2 xs a =
    (length ucs2 % 2 ≡ 0) × ((ss : List ℕ) × (codes_of (characters_in ucs2) ≡ some ss) × (length ss ≤ 255) × (xs ≡ packed_septets 0 ss) × (a ≡ packed_as (packed_septets 0 ss) (length ss)))

gsm7_made : (ucs2 xs : List ℕ) (a : Packed) → to_gsm7 ucs2 ≡ made xs a → Converted ucs2 xs a
gsm7_made ucs2 xs a = of_case (converting ucs2)
  where
    of_case : {m : Making Packed} → Converting ucs2 m → m ≡ made xs a → Converted ucs2 xs a
    of_case (odd h) p = let z : ◌≡◌ {A = ℕ} 0 1 = cc in absurd (omega arith)
    of_case (absent even e) p = let z : ◌≡◌ {A = ℕ} 0 1 = cc in absurd (omega arith)
    of_case many p = let z : ◌≡◌ {A = ℕ} 0 1 = cc in absurd (omega arith)
    of_case (done even ss e few) p = (even, (ss, e, few, (cc), (cc)))

-- ---- septets to UCS2, case by case

module _ (os : List ℕ) (n : ℕ) where
  abbrev pub ucs2_shown : List ℕ
  ucs2_shown = ucs2_of (characters_of (septets_in os 0 n))

  pub ucs2_long : 255 < n → to_ucs2 os n ≡ refused LengthTooLarge
  unfolding to_ucs2
  ucs2_long h = rw (lt-ltb 255 n h)

  module _ (few : n ≤ 255) where
    pub ucs2_few : length os < octet_count 0 n → to_ucs2 os n ≡ refused TooFewOctets
    unfolding to_ucs2
    ucs2_few h = rw (le-ltb 255 n few, lt-ltb _ _ h)

    pub ucs2_done : octet_count 0 n ≤ length os → to_ucs2 os n ≡ made ucs2_shown (length ucs2_shown)
    unfolding to_ucs2
    ucs2_done h = rw (le-ltb 255 n few, le-ltb _ _ h)

  data Showing : Making ℕ → Type 0 where
    long : 255 < n → Showing (refused LengthTooLarge)
    short : n ≤ 255 → length os < octet_count 0 n → Showing (refused TooFewOctets)
    shows : n ≤ 255 → octet_count 0 n ≤ length os → Showing (made ucs2_shown (length ucs2_shown))

  showing : Showing (to_ucs2 os n)
  showing = by_count (ltb 255 n) refl (ltb (length os) (octet_count 0 n)) refl
    where
      by_count : (t : Bool) → ltb 255 n ≡ t → (u : Bool) → ltb (length os) (octet_count 0 n) ≡ u → Showing (to_ucs2 os n)
      by_count true q u r = rw (ucs2_long (ltb-true _ _ q)) (long (ltb-true _ _ q))
      by_count false q true r = rw (ucs2_few (ltb-false _ _ q) (ltb-true _ _ r)) (short (ltb-false _ _ q) (ltb-true _ _ r))
      by_count false q false r = rw (ucs2_done (ltb-false _ _ q) (ltb-false _ _ r)) (shows (ltb-false _ _ q) (ltb-false _ _ r))

  ucs2_made : (us : List ℕ) (a : ℕ) → to_ucs2 os n ≡ made us a → (n ≤ 255) × (octet_count 0 n ≤ length os) × (us ≡ ucs2_shown)
  ucs2_made us a = of_case showing
    where
      of_case : {m : Making ℕ} → Showing m → m ≡ made us a → (n ≤ 255) × (octet_count 0 n ≤ length os) × (us ≡ ucs2_shown)
      of_case (long h) p = let z : ◌≡◌ {A = ℕ} 0 1 = cc in absurd (omega arith)
      of_case (short few h) p = let z : ◌≡◌ {A = ℕ} 0 1 = cc in absurd (omega arith)
      of_case (shows few h) p = (few, h, (cc))

-- ---- there and back

-- UCS2 that converts comes back unchanged
pub ucs2_back : (ucs2 : List ℕ) → Octets ucs2 → (xs : List ℕ) (told : Packed) → to_gsm7 ucs2 ≡ made xs told → to_ucs2 xs told.septets ≡ made ucs2 (length ucs2)
ucs2_back ucs2 o xs told p =
    let (even, (ss, e, few, ex, ea)) = gsm7_made ucs2 xs told p in
    let en : told.septets ≡ length ss = ap (λ (a : Packed). a.septets) ea in
    let enough : octet_count 0 (length ss) ≤ length (packed_septets 0 ss) = omega (arith, length_packed 0 ss) in
    let back : ucs2_shown (packed_septets 0 ss) (length ss) ≡ ucs2 =
    ap (λ (l : List ℕ). ucs2_of (characters_of l)) (unpack_pack 0 ss (codes_digits (characters_in ucs2) ss e)) ∙ ap ucs2_of (codes_shown (characters_in ucs2) ss e) ∙ of_in ucs2 o even in
    ap₂ to_ucs2 ex en ∙ ucs2_done (packed_septets 0 ss) (length ss) few enough ∙ rw back

module _ (os : List ℕ) (n : ℕ) (us : List ℕ) (a : ℕ) (p : to_ucs2 os n ≡ made us a) where
  -- septets come back packed, with each replaced escape as the character shown: no more of them, and they show the same characters
  pub septets_back : let ss = as_shown (septets_in os 0 n) in
      (to_gsm7 us ≡ made (packed_septets 0 ss) (packed_as (packed_septets 0 ss) (length ss))) × (length ss ≤ n) × (characters_of ss ≡ characters_of (septets_in os 0 n))
  septets_back =
      let (few, enough, eu) = ucs2_made os n us a p in
      let read = septets_in os 0 n in
      let digits = septets_septets os 0 n in
      let ec : codes_of (characters_in us) ≡ some (as_shown read) = ap (λ (l : List ℕ). codes_of (characters_in l)) eu ∙ ap codes_of (in_of (characters_of read)) ∙ shown_codes read digits in
      let even : length us % 2 ≡ 0 = omega (arith, ap length eu ∙ length_ucs2 (characters_of read)) in
      let short : length (as_shown read) ≤ n = omega (arith, shown_fewer read, length_septets os 0 n) in
      (gsm7_done us even (as_shown read) ec (omega arith), short, codes_shown (characters_of read) (as_shown read) (shown_codes read digits))

  -- where none was replaced, they come back unchanged
  pub septets_unchanged : replaced_in (septets_in os 0 n) ≡ 0 → to_gsm7 us ≡ made (packed_septets 0 (septets_in os 0 n)) (packed_as (packed_septets 0 (septets_in os 0 n)) n)
  septets_unchanged e =
      let same = (unchanged (septets_in os 0 n) (septets_septets os 0 n)).0 e in
      rw (same, length_septets) at septets_back.0

  -- ---- the characters are those of the text that the text reader gives, and as many escapes are replaced
  pub shown_as_text : unpacked os 0 n ≡ Ok (text_given (utf8_of (characters_in us)) (replaced_in (septets_in os 0 n)))
  shown_as_text =
      let (few, enough, eu) = ucs2_made os n us a p in
      let read = septets_in os 0 n in
      unpacked_done os 0 n few enough ∙ ap (λ (text : List ℕ). Ok (text_given text (replaced_in read))) (characters_shown read ∙ ap utf8_of (sym (ap characters_in eu ∙ in_of (characters_of read))))

-- and where it refuses, the text reader refuses too
pub refused_as_text : (os : List ℕ) (n : ℕ) (why : Refusal) → to_ucs2 os n ≡ refused why → unpacked os 0 n ≡ Err why
refused_as_text os n why = of_case (showing os n)
  where
    of_case : {m : Making ℕ} → Showing os n m → m ≡ refused why → unpacked os 0 n ≡ Err why
    of_case (long h) p = let e : LengthTooLarge ≡ why = cc in unpacked_long os 0 n h ∙ ap Err e
    of_case (short few h) p = let e : TooFewOctets ≡ why = cc in unpacked_few os 0 n few h ∙ ap Err e
    of_case (shows few h) p = let z : ◌≡◌ {A = ℕ} 0 1 = cc in absurd (omega arith)

-- ---- UCS2 of an even number of octets is packed as the same characters as UTF-8 are

-- two things of which neither holds
neither : {A B : Type 0} → (A → ⊥) → (B → ⊥) → A ↔ B
neither f g = (λ a. absurd (f a), λ b. absurd (g b))

module _ (ucs2 : List ℕ) (o : Octets ucs2) (even : length ucs2 % 2 ≡ 0) where
  abbrev text : List ℕ
  text = utf8_of (characters_in ucs2)

  -- the same septets, or none
  both : (to_gsm7 ucs2 ≡ packed_codes (septets_of text)) × (packing [] text ≡ packed_after [] (septets_of text))
  unfolding packing
  both = (gsm7_even ucs2 even ∙ ap packed_codes (codes_text ucs2 o), refl)

  -- it converts exactly when these pack, and to the same octets and counts
  pub packs_as_text : (xs : List ℕ) (a : Packed) → (to_gsm7 ucs2 ≡ made xs a) ↔ (packing [] text ≡ made xs a)
  packs_as_text xs a = rw (both.0, both.1) (alike (septets_of text))
    where
      alike : (r : Option (List ℕ)) → (packed_codes r ≡ made xs a) ↔ (packed_after [] r ≡ made xs a)
      alike none = rw after_none (neither (λ p. let z : ◌≡◌ {A = ℕ} 0 1 = cc in omega arith) (λ p. let z : ◌≡◌ {A = ℕ} 0 1 = cc in omega arith))
      alike (some ss) = (λ p. p, λ p. p)

  -- it is refused with 31 exactly when these are with 10
  pub refused_as_10 : (to_gsm7 ucs2 ≡ refused InNeitherTable) ↔ (packing [] text ≡ refused NotInAlphabet)
  refused_as_10 = rw (both.0, both.1) (alike (septets_of text))
    where
      alike : (r : Option (List ℕ)) → (packed_codes r ≡ refused InNeitherTable) ↔ (packed_after [] r ≡ refused NotInAlphabet)
      alike none = (λ p. after_none [], λ p. refl)
      alike (some ss) = by_count (ltb 255 (length ss)) refl
        where
          by_count : (t : Bool) → ltb 255 (length ss) ≡ t → (packed_after [] (some ss) ≡ refused InNeitherTable) ↔ (packed_after [] (some ss) ≡ refused NotInAlphabet)
          by_count true q =
              let h : 255 < length ss = ltb-true _ _ q in
              rw (after_many [] ss (omega arith)) (neither (λ p. let z : ◌≡◌ {A = ℕ} 0 1 = cc in omega arith) (λ p. let z : ◌≡◌ {A = ℕ} 0 1 = cc in omega arith))
          by_count false q =
              let h : length ss ≤ 255 = ltb-false _ _ q in
              rw (after_done [] ss (omega arith)) (neither (λ p. let z : ◌≡◌ {A = ℕ} 0 1 = cc in omega arith) (λ p. let z : ◌≡◌ {A = ℕ} 0 1 = cc in omega arith))
