-- The text of the septets that are left, one character at a time; and what reading gives, case by case.
-- Assumes nothing.
use Rattle.std.specs.Prelude.{Ok, Err, if◌then◌else◌}
use Prim.Native.Nat.{ℕ, suc, ◌+◌, ◌-◌, ◌*◌, ◌/◌, ◌^◌, ◌<◌, ◌≤◌}
use mathlib.Core.Path.{◌≡◌, refl, sym, subst, ◌∙◌}
use mathlib.Core.Bool.{Bool, true, false}
use mathlib.Core.List.{List, [], ◌∷◌, ◌++◌, append_assoc, append-nil}
use native.Mathlib.Omega.{arith}
use native.Mathlib.Nat.{sub-zero, add-zero}
use native.Mathlib.Numerals.{add-one}
use lib.ListN.{length, replicate}
use lib.Dec.{ltb}
use borrow.Author.Tests.{lt-ltb, le-ltb, ltb-true, ltb-false, eq-eqb, ne_eqb}
use Rattle.octets.proofs.Holding.{stored}
use Rattle.octets.specs.Lent.{Wrote}
use Rattle.octets.specs.Answers.{Said}
use Rattle.octets.specs.declared.Refusal.{Refusal}
use Rattle.octets.specs.declared.Refusal.TheVariants.{LengthTooLarge, TooFewOctets}
use Rattle.septets.specs.Septets.{number_of, lowest_digits, septet_from, septet_at, in_window, septets_in, octet_count}
use Rattle.septets.proofs.Number.{digits_step}
use Rattle.gsm7.specs.Alphabet.{character, escaped, replaced}
use Rattle.gsm7.specs.Internal.{plain, four_plain, four_characters, written_by, shown_by, shown_after}
use Rattle.gsm7.specs.declared.decode.Unpacked.{Unpacked}
use Rattle.gsm7.specs.Reading.{utf8, text_of, after_escape, replaced_in, replaced_after, text_given, counted, unpacked}
use Rattle.gsm7.proofs.PlainSeptets.{plain_means, each_plain}

-- n septets, from septet k on
septets_from : List ℕ → ℕ → ℕ → ℕ → List ℕ
septets_from os f k n = lowest_digits 7 n (number_of 8 os / 2 ^ (f + k * 7))

septets_step : (os : List ℕ) (f k n : ℕ) → septets_from os f k (suc n) ≡ septet_at os f k ∷ septets_from os f (suc k) n
unfolding septets_from septet_from
septets_step os f k n =
    let e : f + k * 7 + 7 ≡ f + suc k * 7 = omega arith in
    rw (digits_step, e)

septets_none : (os : List ℕ) (f k : ℕ) → septets_from os f k 0 ≡ []
unfolding septets_from lowest_digits
septets_none os f k = refl

-- septets i to n - 1; their characters, written, and how many escapes are replaced in them
pub left : List ℕ → ℕ → ℕ → ℕ → List ℕ
left os f n i = septets_from os f i (n - i)

pub rest : (ℕ → List ℕ) → List ℕ → ℕ → ℕ → ℕ → List ℕ
rest form os f n i = shown_by form (left os f n i)

pub rest_replaced : List ℕ → ℕ → ℕ → ℕ → ℕ
rest_replaced os f n i = replaced_in (left os f n i)

module _ (os : List ℕ) (f n i : ℕ) where
  pub left_none : n ≤ i → left os f n i ≡ []
  unfolding left
  left_none h = let e : n - i ≡ 0 = omega arith in rw (e, septets_none)

  pub left_step : i < n → left os f n i ≡ septet_at os f i ∷ left os f n (i + 1)
  unfolding left
  left_step h = let e : n - i ≡ suc (n - suc i) = omega arith in rw (e, septets_step, add-one)

  pub rest_done : (form : ℕ → List ℕ) → n ≤ i → rest form os f n i ≡ []
  unfolding rest shown_by
  rest_done form h = rw (left_none h)

  pub replaced_done : n ≤ i → rest_replaced os f n i ≡ 0
  unfolding rest_replaced replaced_in
  replaced_done h = rw (left_none h)

-- one character more, where k is the septet at i
module _ (os : List ℕ) (f n i : ℕ) {k : ℕ} (is : k ≡ septet_at os f i) where
  module _ (h : i < n) (p : k ≡ 0x1b → ⊥) where
    pub rest_plain : (form : ℕ → List ℕ) → rest form os f n i ≡ form (character k) ++ rest form os f n (i + 1)
    unfolding rest shown_by
    rest_plain form = rw (left_step os f n i h, ← is, ne_eqb k 0x1b p)

    pub replaced_plain : rest_replaced os f n i ≡ rest_replaced os f n (i + 1)
    unfolding rest_replaced replaced_in
    replaced_plain = rw (left_step os f n i h, ← is, ne_eqb k 0x1b p)

  -- an escape, where m is the septet after it, c its character and r what it counts
  module _ (h : i + 1 < n) (p : k ≡ 0x1b) {m : ℕ} (q : m ≡ septet_at os f (i + 1)) where
    pub left_two : left os f n i ≡ k ∷ m ∷ left os f n (i + 2)
    left_two =
        let e : i + 1 + 1 ≡ i + 2 = omega arith in
        left_step os f n i (omega arith) ∙ rw (← is, left_step os f n (i + 1) h, ← q, e)

    pub rest_escape : (form : ℕ → List ℕ) {c : ℕ} → c ≡ escaped m → rest form os f n i ≡ form c ++ rest form os f n (i + 2)
    unfolding rest shown_by shown_after
    rest_escape form r = rw (r, left_two, eq-eqb k 0x1b p)

    pub replaced_escape : {r : ℕ} → r ≡ replaced m → rest_replaced os f n i ≡ r + rest_replaced os f n (i + 2)
    unfolding rest_replaced replaced_in replaced_after
    replaced_escape e = rw (e, left_two, eq-eqb k 0x1b p)

  module _ (h : i + 1 ≡ n) (p : k ≡ 0x1b) where
    pub left_last : left os f n i ≡ k ∷ []
    left_last = left_step os f n i (omega arith) ∙ rw (← is, left_none os f n (i + 1) (omega arith))

    pub rest_last : (form : ℕ → List ℕ) → rest form os f n i ≡ form 0x20
    unfolding rest shown_by shown_after
    rest_last form = rw (left_last, eq-eqb k 0x1b p)

    pub replaced_last : rest_replaced os f n i ≡ 1
    unfolding rest_replaced replaced_in replaced_after
    replaced_last = rw (left_last, eq-eqb k 0x1b p)

-- four plain characters more, where w is the window at i
module _ (form : ℕ → List ℕ) (os : List ℕ) (f n : ℕ) where
  -- what is left after a plain septet
  abbrev OneMore : ℕ → ℕ → Type 0
  OneMore i k = (rest form os f n i ≡ form (character k) ++ rest form os f n (i + 1)) × (rest_replaced os f n i ≡ rest_replaced os f n (i + 1))

  one_more : (i : ℕ) {k : ℕ} → k ≡ septet_at os f i → i < n → plain k ≡ true → OneMore i k
  one_more i {k} is h p = let other = plain_means k p in (rest_plain os f n i is h other form, replaced_plain os f n i is h other)

  pub rest_four : (i w : ℕ) → ((k : ℕ) → k < 8 → in_window w k ≡ septet_at os f (i + k)) → i + 4 ≤ n → four_plain w ≡ true
      → (rest form os f n i ≡ written_by form (four_characters w) ++ rest form os f n (i + 4)) × (rest_replaced os f n i ≡ rest_replaced os f n (i + 4))
  unfolding written_by
  rest_four i w is h p =
      let (a, b, c, d) = each_plain w p in
      let e₂ : i + 1 + 1 ≡ i + 2 = omega arith in
      let e₃ : i + 2 + 1 ≡ i + 3 = omega arith in
      let e₄ : i + 3 + 1 ≡ i + 4 = omega arith in
      let m₁ = one_more i (rw add-zero at (is 0 (omega arith))) (omega arith) a in
      let m₂ = rw e₂ at (one_more (i + 1) (is 1 (omega arith)) (omega arith) b) in
      let m₃ = rw e₃ at (one_more (i + 2) (is 2 (omega arith)) (omega arith) c) in
      let m₄ = rw e₄ at (one_more (i + 3) (is 3 (omega arith)) (omega arith) d) in
      (rw (m₁.0, m₂.0, m₃.0, m₄.0) (simp (append_assoc, append-nil)), m₁.1 ∙ m₂.1 ∙ m₃.1 ∙ m₄.1)

pub septet_small : (os : List ℕ) (f k : ℕ) → septet_at os f k < 128
unfolding septet_from
septet_small os f k = omega arith

-- the rest at the start is the whole
pub left_start : (os : List ℕ) (f n : ℕ) → left os f n 0 ≡ septets_in os f n
unfolding left septets_from septets_in
left_start os f n = rw (sub-zero, add-zero)

pub rest_start : (form : ℕ → List ℕ) (os : List ℕ) (f n : ℕ) → rest form os f n 0 ≡ shown_by form (septets_in os f n)
unfolding rest
rest_start form os f n = rw left_start

pub replaced_start : (os : List ℕ) (f n : ℕ) → rest_replaced os f n 0 ≡ replaced_in (septets_in os f n)
unfolding rest_replaced
replaced_start os f n = rw left_start

-- a text is its characters in UTF-8
shown_text : (ss : List ℕ) → (text_of ss ≡ shown_by utf8 ss) × (after_escape ss ≡ shown_after utf8 ss)
unfolding text_of after_escape shown_by shown_after
shown_text [] = (refl, refl)
shown_text (s ∷ ss) = (rw ((shown_text ss).0, (shown_text ss).1), rw (shown_text ss).0)

pub text_shown : (ss : List ℕ) → text_of ss ≡ shown_by utf8 ss
text_shown ss = (shown_text ss).0

-- what reading gives, case by case
module _ (os : List ℕ) (f n : ℕ) where
  pub unpacked_long : 255 < n → unpacked os f n ≡ Err LengthTooLarge
  unfolding unpacked
  unpacked_long h = rw (lt-ltb 255 n h)

  module _ (few : n ≤ 255) where
    pub unpacked_few : length os < octet_count f n → unpacked os f n ≡ Err TooFewOctets
    unfolding unpacked
    unpacked_few h = rw (le-ltb 255 n few, lt-ltb _ _ h)

    pub unpacked_done : octet_count f n ≤ length os → unpacked os f n ≡ Ok (text_given (text_of (septets_in os f n)) (replaced_in (septets_in os f n)))
    unfolding unpacked
    unpacked_done h = rw (le-ltb 255 n few, le-ltb _ _ h)

-- what the test of a count tells, case by case
module _ (os : List ℕ) (n : ℕ) where
  pub counted_long : 255 < n → counted os n ≡ Err LengthTooLarge
  unfolding counted
  counted_long h = rw (lt-ltb 255 n h)

  module _ (few : n ≤ 255) where
    pub counted_few : length os < octet_count 0 n → counted os n ≡ Err TooFewOctets
    unfolding counted
    counted_few h = rw (le-ltb 255 n few, lt-ltb _ _ h)

    pub counted_fine : octet_count 0 n ≤ length os → counted os n ≡ Ok tt
    unfolding counted
    counted_fine h = rw (le-ltb 255 n few, le-ltb _ _ h)

  -- a property of what it says, from the two refusals and from septets that are all there
  counted_cases : (P : Said Unit → Type 0) → (255 < n → P (Err LengthTooLarge)) → (n ≤ 255 → length os < octet_count 0 n → P (Err TooFewOctets)) → (n ≤ 255 → octet_count 0 n ≤ length os → P (Ok tt)) → P (counted os n)
  unfolding counted
  counted_cases P long few fine = by_count (ltb 255 n) refl (ltb (length os) (octet_count 0 n)) refl
    where
      by_count : (t : Bool) → ltb 255 n ≡ t → (u : Bool) → ltb (length os) (octet_count 0 n) ≡ u → P (if t then Err LengthTooLarge else if u then Err TooFewOctets else Ok tt)
      by_count true p u q = long (ltb-true _ _ p)
      by_count false p true q = few (ltb-false _ _ p) (ltb-true _ _ q)
      by_count false p false q = fine (ltb-false _ _ p) (ltb-false _ _ q)

  -- what its refusal gives a reader, and what is known where it has none
  pub counted_not : (P : Refusal → Type 0) → (255 < n → P LengthTooLarge) → (n ≤ 255 → length os < octet_count 0 n → P TooFewOctets) → (why : Refusal) → Err why ≡ counted os n → P why
  counted_not P long few why e = subst Refused (sym e) (counted_cases Refused long few (λ h k. tt))
    where
      Refused : Said Unit → Type 0
      Refused (Ok x) = Unit
      Refused (Err w) = P w

  pub counted_ok : (x : Unit) → Ok x ≡ counted os n → (n ≤ 255) × (octet_count 0 n ≤ length os)
  counted_ok x e = subst There (sym e) (counted_cases There (λ h. tt) (λ h k. tt) (λ h k. (h, k)))
    where
      There : Said Unit → Type 0
      There (Ok y) = (n ≤ 255) × (octet_count 0 n ≤ length os)
      There (Err w) = Unit

-- a text stored from the start of the array
pub text_stored : (text : List ℕ) (k : ℕ) → length text ≤ 510 → {n m : ℕ} {array : List ℕ} → Wrote 0 text (replicate 510 0) n array × (m ≡ k)
    → ◌≡◌ {A = Unpacked} (record { text = record { octets = array; length = n }; replaced_escapes = m }) (text_given text k)
unfolding text_given
text_stored text k h w = rw (stored 510 text h w.0, w.1)
