-- The first character of a text, case by case, as the code finds it.
-- Assumes nothing.
use Rattle.std.specs.Prelude.{Ok, Err, if◌then◌else◌}
use Prim.Native.Nat.{ℕ, ◌+◌, ◌*◌, ◌/◌, ◌%◌, ◌<◌, ◌≤◌}
use mathlib.Core.Path.{◌≡◌, refl}
use mathlib.Core.List.{List}
use native.Mathlib.Omega.{arith}
use borrow.Author.Tests.{ltb-true, ltb-false, lt-ltb, le-ltb, eq-eqb, ne_eqb}
use mathlib.Core.Bool.{Bool, true, false}
use lib.Dec.{ltb}
use lib.ListN.{get_or, drop}
use lib.Seq.{get_or-drop}
use native.Mathlib.Nat.{add-zero}
use Rattle.octets.specs.Answers.{Said}
use Rattle.octets.specs.declared.Refusal.{Refusal}
use Rattle.octets.specs.declared.Refusal.TheVariants.{NotInAlphabet}
use Rattle.gsm7.specs.Writing.{same, two_octets, three_octets, first_character}
use Rattle.gsm7.proofs.Utf8.{utf8_one, utf8_two, utf8_three}

-- the character that two octets may be, and three
abbrev pub two : ℕ → ℕ → ℕ
two a b = a % 32 * 64 + b % 64

abbrev pub three : ℕ → ℕ → ℕ → ℕ
three a b d = a % 16 * 4096 + b % 64 * 64 + d % 64

module _ (a b : ℕ) where
  pub two_small : two a b < 0x80 → two_octets a b ≡ Err NotInAlphabet
  unfolding two_octets same
  two_small h = rw (utf8_one (two a b) h)

  module _ (l : 0x80 ≤ two a b) where
    under : two a b < 0x800
    under = omega arith

    pub two_second : (128 + two a b % 64 ≡ b → ⊥) → two_octets a b ≡ Err NotInAlphabet
    unfolding two_octets same
    two_second e = rw (utf8_two (two a b) l under, ne_eqb (128 + two a b % 64) b e)

    pub two_first : 128 + two a b % 64 ≡ b → (192 + two a b / 64 ≡ a → ⊥) → two_octets a b ≡ Err NotInAlphabet
    unfolding two_octets same
    two_first e₁ e = rw (utf8_two (two a b) l under, eq-eqb (128 + two a b % 64) b e₁, ne_eqb (192 + two a b / 64) a e)

    pub two_read : 128 + two a b % 64 ≡ b → 192 + two a b / 64 ≡ a → two_octets a b ≡ Ok (two a b, 2)
    unfolding two_octets same
    two_read e₁ e = rw (utf8_two (two a b) l under, eq-eqb (128 + two a b % 64) b e₁, eq-eqb (192 + two a b / 64) a e)

module _ (a b d : ℕ) where
  pub three_small : three a b d < 0x800 → three_octets a b d ≡ Err NotInAlphabet
  unfolding three_octets same
  three_small h = by_test (ltb (three a b d) 0x80) refl
    where
      by_test : (t : Bool) → ltb (three a b d) 0x80 ≡ t → three_octets a b d ≡ Err NotInAlphabet
      by_test true e = rw (utf8_one (three a b d) (ltb-true _ _ e))
      by_test false e = rw (utf8_two (three a b d) (ltb-false _ _ e) h)

  module _ (l : 0x800 ≤ three a b d) where
    pub three_third : (128 + three a b d % 64 ≡ d → ⊥) → three_octets a b d ≡ Err NotInAlphabet
    unfolding three_octets same
    three_third e = rw (utf8_three (three a b d) l, ne_eqb (128 + three a b d % 64) d e)

    pub three_second : 128 + three a b d % 64 ≡ d → (128 + three a b d / 64 % 64 ≡ b → ⊥) → three_octets a b d ≡ Err NotInAlphabet
    unfolding three_octets same
    three_second e₁ e = rw (utf8_three (three a b d) l, eq-eqb (128 + three a b d % 64) d e₁, ne_eqb (128 + three a b d / 64 % 64) b e)

    module _ (e₁ : 128 + three a b d % 64 ≡ d) (e₂ : 128 + three a b d / 64 % 64 ≡ b) where
      pub three_first : (224 + three a b d / 4096 ≡ a → ⊥) → three_octets a b d ≡ Err NotInAlphabet
      unfolding three_octets same
      three_first e =
          rw
          (utf8_three (three a b d) l, eq-eqb (128 + three a b d % 64) d e₁, eq-eqb (128 + three a b d / 64 % 64) b e₂, ne_eqb (224 + three a b d / 4096) a e)

      pub three_read : 224 + three a b d / 4096 ≡ a → three_octets a b d ≡ Ok (three a b d, 3)
      unfolding three_octets same
      three_read e =
          rw
          (utf8_three (three a b d) l, eq-eqb (128 + three a b d % 64) d e₁, eq-eqb (128 + three a b d / 64 % 64) b e₂, eq-eqb (224 + three a b d / 4096) a e)

-- by the first octet, where the text is what is left from a place on
module _ (text : List ℕ) (at : ℕ) where
  pub first_one : get_or text at 0 < 0x80 → first_character (drop at text) ≡ Ok (get_or text at 0, 1)
  unfolding first_character
  first_one h = rw (get_or-drop at text 0 0, add-zero, lt-ltb _ _ h)

  pub first_two : 0x80 ≤ get_or text at 0 → get_or text at 0 < 0xe0 → first_character (drop at text) ≡ two_octets (get_or text at 0) (get_or text (at + 1) 0)
  unfolding first_character
  first_two l h = rw (get_or-drop at text 0 0, get_or-drop at text 1 0, add-zero, le-ltb _ _ l, lt-ltb _ _ h)

  pub first_three : 0xe0 ≤ get_or text at 0
      → first_character (drop at text) ≡ three_octets (get_or text at 0) (get_or text (at + 1) 0) (get_or text (at + 2) 0)
  unfolding first_character
  first_three h =
      let l : 0x80 ≤ get_or text at 0 = omega arith in
      rw (get_or-drop at text 0 0, get_or-drop at text 1 0, get_or-drop at text 2 0, add-zero, le-ltb _ _ l, le-ltb _ _ h)

-- ---- the only refusal is 10

record Only10 (answer : Said (ℕ × ℕ)) : Type 0 where
  pub refusal : {why : Refusal} → answer ≡ Err why → why ≡ NotInAlphabet

given : (x : ℕ × ℕ) → Only10 (Ok x)
given x = record { refusal = λ e. cc }

missing : Only10 (Err NotInAlphabet)
missing = record { refusal = λ e. cc }

one_of : (t : Bool) {x y : Said (ℕ × ℕ)} → Only10 x → Only10 y → Only10 (if t then x else y)
one_of true p q = p
one_of false p q = q

only_10 : (text : List ℕ) → Only10 (first_character text)
unfolding first_character two_octets three_octets
only_10 text = search (one_of, given, missing)

pub first_refusal : (text : List ℕ) {why : Refusal} → first_character text ≡ Err why → why ≡ NotInAlphabet
first_refusal text = (only_10 text).refusal
