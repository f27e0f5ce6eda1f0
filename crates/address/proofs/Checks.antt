-- What a check of an address tells, case by case.
-- Assumes nothing.
use Rattle.std.specs.Prelude.{Ok, Err}
use Prim.Native.Nat.{ℕ, suc, ◌+◌, ◌*◌, ◌/◌, ◌≤◌, ◌<◌}
use mathlib.Core.Path.{◌≡◌, refl, sym, ◌∙◌, ap}
use mathlib.Core.Bool.{Bool, true, false, ◌&&◌, ◌||◌, false≢true}
use mathlib.Core.List.{List, [], ◌∷◌, ◌++◌, map}
use mathlib.Core.Option.{Option, none, some}
use native.Mathlib.Omega.{arith}
use native.Mathlib.Numerals.{add-one, add-two}
use borrow.Author.Tests.{lt-ltb, le-ltb, eq-eqb, ne_eqb, ltb-true, ltb-false, eqb-true, eqb-false, leb-true, leb-false}
use lib.Dec.{eqb, leb, ltb}
use lib.ListN.{length, set}
use Rattle.octets.specs.Answers.{Said, fine}
use Rattle.octets.specs.Checks.{Check, ◌unless◌, found, checked}
use Rattle.octets.specs.Each.{each}
use Rattle.octets.specs.Lent.{Making, refused, made, Wrote}
use Rattle.octets.specs.SemiOctets.{in_pairs}
use Rattle.octets.specs.declared.Refusal.{Refusal}
use Rattle.octets.specs.declared.Refusal.TheVariants.{NumberTypeOrPlanTooLarge, NotInAlphabet, AddressTooLong}
use Rattle.octets.proofs.Checks.{holds, made_unless}
use Rattle.octets.proofs.Choice.{and_true, or_false}
use Rattle.septets.specs.Septets.{packed_septets}
use Rattle.septets.proofs.Inverse.{length_packed}
use Rattle.gsm7.specs.Writing.{septets_of}
use Rattle.address.specs.Writing.{digit_value, is_digit, field_of, text_field, address_octets, octets_or, limited, address_making, address_checks, is_some}
use Rattle.address.specs.Internal.{check_of, septets_or}
use Rattle.address.proofs.DigitCharacters.{digits_size}

-- a value of at most ten octets is written, a longer one is refused
module _ (ton npi l : ℕ) (value : List ℕ) where
  pub limited_long : 10 < length value → limited (some (field_of ton npi l value)) ≡ refused AddressTooLong
  limited_long h = rw (lt-ltb 12 (suc (suc (length value))) (omega arith))

  pub limited_fine : length value ≤ 10 → limited (some (field_of ton npi l value)) ≡ made (field_of ton npi l value) (length (field_of ton npi l value))
  limited_fine h = rw (le-ltb 12 (suc (suc (length value))) (omega arith))

-- a text in septets: eleven take ten octets
module _ (ton npi : ℕ) {o : Option (List ℕ)} where
  pub text_none : o ≡ none → check_of (limited (text_field ton npi o)) ≡ Err NotInAlphabet
  text_none e = rw e

  module _ (ss : List ℕ) (e : o ≡ some ss) where
    pub text_long : 11 < length ss → check_of (limited (text_field ton npi o)) ≡ Err AddressTooLong
    text_long h = rw (e, limited_long ton npi ((length ss * 7 + 3) / 4) (packed_septets 0 ss) (rw length_packed (omega arith)))

    pub text_fine : length ss ≤ 11 → check_of (limited (text_field ton npi o)) ≡ Ok ((length ss * 7 + 3) / 4)
    text_fine h = rw (e, limited_fine ton npi ((length ss * 7 + 3) / 4) (packed_septets 0 ss) (rw length_packed (omega arith)))

-- type, plan and text
module _ (ton npi : ℕ) (text : List ℕ) where
  pub wrong_type : 7 < ton → address_making ton npi text ≡ refused NumberTypeOrPlanTooLarge
  unfolding address_making
  wrong_type h = rw (lt-ltb 7 ton h)

  module _ (t : ton ≤ 7) where
    pub wrong_plan : 15 < npi → address_making ton npi text ≡ refused NumberTypeOrPlanTooLarge
    unfolding address_making
    wrong_plan h = rw (le-ltb 7 ton t, lt-ltb 15 npi h)

    module _ (p : npi ≤ 15) where
      pub making_limited : address_making ton npi text ≡ limited (address_octets ton npi text)
      unfolding address_making
      making_limited = rw (le-ltb 7 ton t, le-ltb 15 npi p)

      pub text_making : ton ≡ 5 → address_making ton npi text ≡ limited (text_field 5 npi (septets_of text))
      unfolding address_octets
      text_making e = making_limited ∙ rw e

      module _ (digits : ton ≡ 5 → ⊥) where
        pub digits_none : each is_digit text ≡ false → address_making ton npi text ≡ refused NotInAlphabet
        unfolding address_octets
        digits_none e = making_limited ∙ rw (ne_eqb ton 5 digits, e)

        module _ (e : each is_digit text ≡ true) where
          digits_octets : address_making ton npi text ≡ limited (some (field_of ton npi (length text) (in_pairs (map digit_value text))))
          unfolding address_octets
          digits_octets = making_limited ∙ rw (ne_eqb ton 5 digits, e)

          pub digits_long : 20 < length text → address_making ton npi text ≡ refused AddressTooLong
          digits_long h = digits_octets ∙ limited_long ton npi (length text) (in_pairs (map digit_value text)) (rw (digits_size text) (omega arith))

          pub digits_fine : length text ≤ 20 → address_making ton npi text
              ≡ made (field_of ton npi (length text) (in_pairs (map digit_value text))) (length (field_of ton npi (length text) (in_pairs (map digit_value text))))
          digits_fine h = digits_octets ∙ limited_fine ton npi (length text) (in_pairs (map digit_value text)) (rw (digits_size text) (omega arith))

-- ---- an address that a check passed

no : {A : Type 0} {c : Said ℕ} {l : ℕ} (r : Refusal) → c ≡ Ok l → c ≡ Err r → A
no r p q = let z : ◌≡◌ {A = ℕ} 0 1 = cc in absurd (omega arith)

module _ (ton npi : ℕ) (text : List ℕ) (l : ℕ) (fine : check_of (address_making ton npi text) ≡ Ok l) where
  pub fine_range : (ton ≤ 7) × (npi ≤ 15)
  fine_range = by (ltb 7 ton) refl (ltb 15 npi) refl
    where
      by : (a : Bool) → ltb 7 ton ≡ a → (b : Bool) → ltb 15 npi ≡ b → (ton ≤ 7) × (npi ≤ 15)
      by true p b q = no _ fine (ap check_of (wrong_type ton npi text (ltb-true _ _ p)))
      by false p true q = no _ fine (ap check_of (wrong_plan ton npi text (ltb-false _ _ p) (ltb-true _ _ q)))
      by false p false q = (ltb-false _ _ p, ltb-false _ _ q)

  -- it has at most eleven septets, or at most twenty digits; and so its octets
  abbrev pub InSeptets : Type 0
  InSeptets =
      (ss : List ℕ) × (septets_of text ≡ some ss) × (length ss ≤ 11) × (l ≡ (length ss * 7 + 3) / 4) × (address_octets ton npi text ≡ some (field_of ton npi l (packed_septets 0 ss)))

  pub fine_text : ton ≡ 5 → InSeptets
  unfolding address_octets
  fine_text e = by (septets_of text) refl
    where
      told : check_of (limited (text_field 5 npi (septets_of text))) ≡ Ok l
      told = sym (ap check_of (text_making ton npi text fine_range.0 fine_range.1 e)) ∙ fine

      by_count : (ss : List ℕ) → septets_of text ≡ some ss → (t : Bool) → ltb 11 (length ss) ≡ t → InSeptets
      by_count ss p true q = no _ told (text_long 5 npi ss p (ltb-true _ _ q))
      by_count ss p false q =
          let f = text_fine 5 npi ss p (ltb-false _ _ q) in
          let n : l ≡ (length ss * 7 + 3) / 4 = cc told in
          (ss, p, ltb-false _ _ q, n, rw (eq-eqb ton 5 e, p, n))

      by : (o : Option (List ℕ)) → septets_of text ≡ o → InSeptets
      by none p = no _ told (text_none 5 npi p)
      by (some ss) p = by_count ss p (ltb 11 (length ss)) refl

  abbrev pub InDigits : Type 0
  InDigits = (length text ≤ 20) × (l ≡ length text) × (address_octets ton npi text ≡ some (field_of ton npi l (in_pairs (map digit_value text))))

  pub fine_digits : (ton ≡ 5 → ⊥) → InDigits
  unfolding address_octets
  fine_digits d = by (each is_digit text) refl (ltb 20 (length text)) refl
    where
      by : (t : Bool) → each is_digit text ≡ t → (u : Bool) → ltb 20 (length text) ≡ u → InDigits
      by false p u q = no _ fine (ap check_of (digits_none ton npi text fine_range.0 fine_range.1 d p))
      by true p true q = no _ fine (ap check_of (digits_long ton npi text fine_range.0 fine_range.1 d p (ltb-true _ _ q)))
      by true p false q =
          let f = ap check_of (digits_fine ton npi text fine_range.0 fine_range.1 d p (ltb-false _ _ q)) in
          let n : l ≡ length text = cc in
          (ltb-false _ _ q, n, rw (ne_eqb ton 5 d, p, n))

  pub fine_small : l ≤ 20
  fine_small = by (eqb ton 5) refl
    where
      by : (t : Bool) → eqb ton 5 ≡ t → l ≤ 20
      by true e = let f = fine_text (eqb-true _ _ e) in omega (arith, f.2, f.3)
      by false e = let f = fine_digits (eqb-false _ _ e) in omega (arith, f.0, f.1)

  -- what is to be written, and how long it is
  abbrev pub octets : List ℕ
  octets = octets_or [] (address_octets ton npi text)

  pub fine_size : length octets ≡ 2 + (l + 1) / 2
  fine_size = by (eqb ton 5) refl
    where
      by : (t : Bool) → eqb ton 5 ≡ t → length octets ≡ 2 + (l + 1) / 2
      by true e = let f = fine_text (eqb-true _ _ e) in omega (arith, ap (λ (o : Option (List ℕ)). length (octets_or [] o)) f.4, f.3, length_packed 0 f.0)
      by false e = let f = fine_digits (eqb-false _ _ e) in omega (arith, ap (λ (o : Option (List ℕ)). length (octets_or [] o)) f.2, f.1, digits_size text)

  pub fine_made : address_making ton npi text ≡ made octets (length octets)
  fine_made = making ∙ by (address_octets ton npi text) refl
    where
      making : address_making ton npi text ≡ limited (address_octets ton npi text)
      making = making_limited ton npi text fine_range.0 fine_range.1

      by : (o : Option (List ℕ)) → address_octets ton npi text ≡ o → limited (address_octets ton npi text) ≡ made octets (length octets)
      by none e = no _ fine (ap check_of making ∙ ap (λ (o : Option (List ℕ)). check_of (limited o)) e)
      by (some xs) e =
          let few : length xs ≤ 12 = omega (arith, fine_size, fine_small, ap (λ (o : Option (List ℕ)). length (octets_or [] o)) e) in
          rw (e, le-ltb 12 (length xs) few)

-- what a check refuses is refused
pub refused_made : {m : Making ℕ} {r : Refusal} → check_of m ≡ Err r → m ≡ refused r
refused_made {m = refused k} e = cc
refused_made {m = made xs w} e = let z : ◌≡◌ {A = ℕ} 0 1 = cc in absurd (omega arith)

-- the septets of a text, where it has some
pub septets_are : (o : Option (List ℕ)) (ss : List ℕ) → o ≡ some ss → septets_or o ≡ ss
septets_are o ss e = rw e

-- a field written octet by octet: L, type, and the value behind them
pub wrote_field : (at l t : ℕ) (value out : List ℕ) {next : ℕ} {after : List ℕ} → Wrote (at + 2) value (set (set out at l) (at + 1) t) next after → Wrote at (l ∷ t ∷ value) out next after
wrote_field at l t value out w = record { place = w.place ∙ omega arith; list = w.list ∙ rw (add-one, add-two) }

-- the address among the checks of a writer of several fields: the check's answer decides
abbrev pub after_check : Said ℕ → Making ℕ → Making ℕ
after_check (Ok l) next = next
after_check (Err r) next = refused r

pub address_checked : (ton npi : ℕ) (text : List ℕ) (checks : List Check) (xs : List ℕ)
    → checked (address_checks ton npi text ++ checks) xs ≡ after_check (check_of (address_making ton npi text)) (checked checks xs)
unfolding checked
address_checked ton npi text checks xs = by_type (leb ton 7) refl (leb npi 15) refl
  where
    Same : Type 0
    Same = checked (address_checks ton npi text ++ checks) xs ≡ after_check (check_of (address_making ton npi text)) (checked checks xs)

    by_size : leb ton 7 ≡ true → leb npi 15 ≡ true → (o : Option (List ℕ)) → address_octets ton npi text ≡ o → (t : Bool) → leb (length (octets_or [] o)) 12 ≡ t → Same
    by_size p q none e t s = rw (p, q, making_limited ton npi text (leb-true _ _ p) (leb-true _ _ q), e)
    by_size p q (some ys) e true s = rw (p, q, making_limited ton npi text (leb-true _ _ p) (leb-true _ _ q), e, s, le-ltb 12 (length ys) (leb-true _ _ s))
    by_size p q (some ys) e false s = rw (p, q, making_limited ton npi text (leb-true _ _ p) (leb-true _ _ q), e, s, lt-ltb 12 (length ys) (leb-false _ _ s))

    by_type : (a : Bool) → leb ton 7 ≡ a → (b : Bool) → leb npi 15 ≡ b → Same
    by_type false p b q = rw (p, wrong_type ton npi text (leb-false _ _ p))
    by_type true p false q = rw (p, q, wrong_plan ton npi text (leb-true _ _ p) (leb-false _ _ q))
    by_type true p true q = by_size p q (address_octets ton npi text) refl (leb (length (octets_or [] (address_octets ton npi text))) 12) refl

-- ---- what was written

limited_made : (o : Option (List ℕ)) (xs : List ℕ) (w : ℕ) → limited o ≡ made xs w → o ≡ some xs
limited_made none xs w e = let z : ◌≡◌ {A = ℕ} 0 1 = cc in absurd (omega arith)
limited_made (some ys) xs w e = let (few, m) = made_unless AddressTooLong (ltb 12 (length ys)) e in cc

-- where octets are made, they are those of the address, and type and plan are small
pub octets_made : (ton npi : ℕ) (text xs : List ℕ) (w : ℕ) → address_making ton npi text ≡ made xs w → (ton ≤ 7) × (npi ≤ 15) × (address_octets ton npi text ≡ some xs)
unfolding address_making
octets_made ton npi text xs w e =
    let (small, o) = made_unless NumberTypeOrPlanTooLarge (ltb 7 ton || ltb 15 npi) e in
    let (t, p) = or_false (ltb 7 ton) (ltb 15 npi) small in
    (ltb-false _ _ t, ltb-false _ _ p, limited_made _ xs w o)

some_is : (o : Option (List ℕ)) → is_some o ≡ true → o ≡ some (octets_or [] o)
some_is none e = absurd (false≢true e)
some_is (some xs) e = refl

-- the same where the checks of a writer of several fields have passed; and the octets are few
pub checks_passed : (ton npi : ℕ) (text : List ℕ) → found (address_checks ton npi text) ≡ fine
    → (let f = octets_or [] (address_octets ton npi text) in (ton ≤ 7) × (npi ≤ 15) × (address_octets ton npi text ≡ some f) × (length f ≤ 12))
checks_passed ton npi text e =
    let o = address_octets ton npi text in
    let few = (AddressTooLong unless leb (length (octets_or [] o)) 12) ∷ [] in
    let (range, e1) = holds NumberTypeOrPlanTooLarge (leb ton 7 && leb npi 15) ((NotInAlphabet unless is_some o) ∷ few) e in
    let (there, e2) = holds NotInAlphabet (is_some o) few e1 in
    let (t, p) = and_true (leb ton 7) (leb npi 15) range in
    (leb-true _ _ t, leb-true _ _ p, some_is o there, leb-true _ _ (holds AddressTooLong (leb (length (octets_or [] o)) 12) [] e2).0)
