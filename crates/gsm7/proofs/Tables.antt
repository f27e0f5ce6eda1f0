-- The rules of the two tables: codes and characters belong to each other, one to one, the space of 1B apart. Tests that antt computes over the whole tables.
-- Assumes nothing.
use Prim.Native.Nat.{ℕ, ◌<◌}
use mathlib.Core.Path.{◌≡◌, refl, sym, ◌∙◌, ap, ap₂}
use mathlib.Core.Bool.{Bool, true, false, ◌&&◌, false≢true}
use mathlib.Core.List.{List, [], ◌∷◌}
use mathlib.Core.Option.{Option, none, some}
use native.Mathlib.Omega.{arith}
use borrow.Author.Tests.{ltb-true, eqb-true, eqb-false, ne_eqb}
use lib.Dec.{eqb, ltb}
use lib.ListN.{get_or}
use Rattle.octets.specs.Answers.{Said}
use Rattle.std.specs.Prelude.{if◌then◌else◌, Ok, Err}
use Rattle.octets.specs.declared.Refusal.TheVariants.{NotInAlphabet}
use Rattle.octets.proofs.Choice.{and_true}
use Rattle.octets.proofs.Table.{below}
use Rattle.gsm7.specs.declared.decode.Extension.{Extension}
use Rattle.gsm7.specs.Alphabet.{alphabet, extension, row, row_with, index_of, character, escaped, replaced}
use Rattle.gsm7.specs.Characters.{Entry, plain, extended, character_of, septets_for}
use Rattle.gsm7.specs.Writing.{same, code_of, escape_and_code, extended_code}
use Rattle.gsm7.proofs.Rows.{Stands, row_stands, index_found}

-- ---- the septets of a character are those of an entry of the tables; where it has none, 10

abbrev pub Says : ℕ → Said (List ℕ) → Type 0
Says c (Ok ks) = (e : Entry) × (character_of e ≡ c) × (septets_for e ≡ ks)
Says c (Err why) = why ≡ NotInAlphabet

module _ (c : ℕ) where
  by_row : (o : Option Extension) → Stands (λ (e : Extension). e.character) c extension o → Says c (escape_and_code o)
  by_row none s = refl
  by_row (some e) s = (extended s.0 s.1, ap (λ (e : Extension). e.character) s.2 ∙ s.3, ap (λ (e : Extension). 0x1b ∷ e.code ∷ []) s.2)

  pub extended_says : Says c (extended_code c)
  unfolding extended_code
  extended_says = by_row (row_with (λ (e : Extension). e.character) c extension) (row_stands (λ (e : Extension). e.character) c extension)

  pub code_says_lem : Says c (code_of c)
  unfolding code_of character
  code_says_lem = by_space (eqb c 0x20) refl
    where
      by_alphabet : (eqb c 0x20 ≡ false) → (t : Bool) → ltb (index_of alphabet c) 128 ≡ t → Says c (if t then Ok (index_of alphabet c ∷ []) else extended_code c)
      by_alphabet n true e =
          let h : index_of alphabet c < 128 = ltb-true _ _ e in
          let found : get_or alphabet (index_of alphabet c) 0 ≡ c = index_found alphabet c h in
          (plain (index_of alphabet c) h (λ p. eqb-false c 0x20 n (sym found ∙ ap (λ (k : ℕ). get_or alphabet k 0) p)), found, refl)
      by_alphabet n false e = extended_says

      by_space : (t : Bool) → eqb c 0x20 ≡ t → Says c (if t then Ok (0x20 ∷ []) else if ltb (index_of alphabet c) 128 then Ok (index_of alphabet c ∷ []) else extended_code c)
      by_space true e = (plain 0x20 (omega arith) (λ p. omega arith), sym (eqb-true c 0x20 e), refl)
      by_space false e = by_alphabet e (ltb (index_of alphabet c) 128) refl

-- ---- septets that are equal

pub same_is : (xs ys : List ℕ) → same xs ys ≡ true → xs ≡ ys
unfolding same
same_is [] [] e = refl
same_is [] (y ∷ ys) e = absurd (false≢true e)
same_is (x ∷ xs) [] e = absurd (false≢true e)
same_is (x ∷ xs) (y ∷ ys) e =
    let t = and_true (same xs ys) (eqb x y) e in
    ap₂ ◌∷◌ (eqb-true x y t.1) (same_is xs ys t.0)

abbrev pub same_code : Said (List ℕ) → Said (List ℕ) → Bool
same_code (Ok xs) (Ok ys) = same xs ys
same_code (Ok xs) (Err why) = false
same_code (Err why) (Ok ys) = false
same_code (Err why) (Err why') = true

-- a refusal is 10
abbrev pub Ten : Said (List ℕ) → Type 0
Ten (Ok ks) = Unit
Ten (Err why) = why ≡ NotInAlphabet

pub ten : (c : ℕ) (a : Said (List ℕ)) → Says c a → Ten a
ten c (Ok ks) s = tt
ten c (Err why) s = s

pub same_code_lem : (a b : Said (List ℕ)) → Ten a → Ten b → same_code a b ≡ true → a ≡ b
same_code_lem (Ok xs) (Ok ys) p q t = ap Ok (same_is xs ys t)
same_code_lem (Ok xs) (Err why) p q t = absurd (false≢true t)
same_code_lem (Err why) (Ok ys) p q t = absurd (false≢true t)
same_code_lem (Err why) (Err why') p q t = ap Err (p ∙ sym q)

pub same_septets : (c : ℕ) (ks : List ℕ) → same_code (code_of c) (Ok ks) ≡ true → code_of c ≡ Ok ks
same_septets c ks t = same_code_lem (code_of c) (Ok ks) (ten c (code_of c) (code_says_lem c)) tt t

-- ---- the alphabet is one-to-one but for the space of 1B

single_test : ℕ → Bool
single_test k = if eqb k 0x1b then true else same_code (code_of (character k)) (Ok (k ∷ []))

pub alphabet_one_to_one : (k : ℕ) → k < 128 → (k ≡ 0x1b → ⊥) → code_of (character k) ≡ Ok (k ∷ [])
unfolding single_test code_of index_of character extended_code row_with same
alphabet_one_to_one k h n = same_septets (character k) (k ∷ []) (rw (ne_eqb k 0x1b n) at (below single_test 128 refl k h))

-- ---- so is the extension table, and its characters are not in the alphabet

abbrev septets_of_row : Extension → List ℕ
septets_of_row e = 0x1b ∷ e.code ∷ []

extension_test : Extension → Bool
extension_test e = same_code (code_of e.character) (Ok (septets_of_row e)) && (eqb (escaped e.code) e.character && (ltb e.code 128 && eqb (replaced e.code) 0))

module _ (i : ℕ) (h : i < 10) where
  abbrev e : Extension
  e = get_or extension i (row 0 0)

  tested : (code_of e.character ≡ Ok (septets_of_row e)) × (escaped e.code ≡ e.character) × (e.code < 128) × (replaced e.code ≡ 0)
  unfolding extension_test code_of index_of escaped replaced character extended_code row_with same
  tested =
      let (coded, more) = and_true (same_code (code_of e.character) (Ok (septets_of_row e))) _ (below (λ i. extension_test (get_or extension i (row 0 0))) 10 refl i h) in
      let (shown, last) = and_true (eqb (escaped e.code) e.character) _ more in
      let (small, listed) = and_true (ltb e.code 128) _ last in
      (same_septets e.character (septets_of_row e) coded, eqb-true _ _ shown, ltb-true _ _ small, eqb-true _ _ listed)

  pub extension_coded : code_of e.character ≡ Ok (septets_of_row e)
  extension_coded = tested.0

  pub extension_shown : escaped e.code ≡ e.character
  extension_shown = tested.1

  pub extension_small : e.code < 128
  extension_small = tested.2

  pub extension_listed : replaced e.code ≡ 0
  extension_listed = tested.3
