-- Characters as UCS2 and as septets: which have them, and what each conversion keeps.
-- Assumes nothing.
use Rattle.std.specs.Prelude.{Ok, Err}
use Prim.Native.Nat.{ℕ, zero, suc, ◌+◌, ◌*◌, ◌%◌, ◌<◌, ◌≤◌}
use mathlib.Core.Path.{◌≡◌, refl, sym, ◌∙◌, ap, ap₂, subst}
use mathlib.Core.List.{List, [], ◌∷◌, ◌++◌, map}
use mathlib.Core.Option.{Option, none, some}
use mathlib.Core.Logic.{◌↔◌}
use native.Mathlib.Omega.{arith}
use borrow.Author.Tests.{leb-true, ne_eqb}
use lib.Dec.{leb}
use lib.ListN.{length, get_or}
use Rattle.octets.specs.Answers.{Said}
use Rattle.octets.specs.Each.{Octets}
use Rattle.octets.specs.declared.Refusal.TheVariants.{NotInAlphabet}
use Rattle.octets.proofs.Table.{below}
use Rattle.septets.specs.Septets.{Digits}
use Rattle.gsm7.specs.Alphabet.{extension, row, row_with, index_of, alphabet, character}
use Rattle.gsm7.specs.Characters.{Entry, plain, extended, character_of, coded}
use Rattle.gsm7.specs.Writing.{extended_code, code_of, before, scan, septets_of}
use Rattle.gsm7.proofs.Adequate.{scan_utf8, entry_coded, coded_septets}
use Rattle.gsm7.proofs.Tables.{Says, code_says_lem, extension_shown}
use Rattle.ucs2.specs.Ucs2.{characters_in, ucs2_of, utf8_of, codes_of, characters_of, after_escape}

-- ---- characters and UCS2

pub in_of : (cs : List ℕ) → characters_in (ucs2_of cs) ≡ cs
unfolding characters_in ucs2_of
in_of [] = refl
in_of (c ∷ cs) = ap₂ ◌∷◌ (omega arith) (in_of cs)

module _ (high low : ℕ) (os : List ℕ) where
  -- what follows the octets of a character
  rest_octets : Octets (high ∷ low ∷ os) → Octets os
  rest_octets o i = o (suc (suc i))

pub of_in : (os : List ℕ) → Octets os → length os % 2 ≡ 0 → ucs2_of (characters_in os) ≡ os
unfolding characters_in ucs2_of
of_in [] o e = refl
of_in (high ∷ []) o e = absurd (omega arith)
of_in (high ∷ low ∷ os) o e = ap₂ ◌∷◌ (omega (arith, o 1)) (ap₂ ◌∷◌ (omega (arith, o 1)) (of_in os (rest_octets high low os o) (omega arith)))

pub length_ucs2 : (cs : List ℕ) → length (ucs2_of cs) ≡ 2 * length cs
unfolding ucs2_of
length_ucs2 [] = refl
length_ucs2 (c ∷ cs) = rw (length_ucs2 cs) (omega arith)

-- the septets of UCS2 characters are those of the same characters as UTF-8
pub codes_text : (os : List ℕ) → Octets os → codes_of (characters_in os) ≡ septets_of (utf8_of (characters_in os))
unfolding characters_in codes_of utf8_of scan
codes_text [] o = refl
codes_text (high ∷ []) o = refl
codes_text (high ∷ low ∷ os) o =
    let c = high * 256 + low in
    ap (before (code_of c)) (codes_text os (rest_octets high low os o)) ∙ sym (scan_utf8 c (utf8_of (characters_in os)) (omega (arith, o 0, o 1)))

-- ---- characters have septets exactly when they are those of entries of the two tables, and then these are their codes, one after the other

abbrev Entries : List ℕ → List ℕ → Type 0
Entries cs ss = (es : List Entry) × (map character_of es ≡ cs) × (coded es ≡ ss)

entries_of : (cs ss : List ℕ) → codes_of cs ≡ some ss → Entries cs ss
unfolding codes_of before coded
entries_of [] ss e = ([], refl, (cc))
entries_of (c ∷ cs) ss e = by_code (code_of c) (code_says_lem c) (codes_of cs) (λ ts q. entries_of cs ts q) e
  where
    by_code : (a : Said (List ℕ)) → Says c a → (r : Option (List ℕ)) → ((ts : List ℕ) → r ≡ some ts → Entries cs ts) → before a r ≡ some ss → Entries (c ∷ cs) ss
    by_code (Ok ks) says none ih e = let z : ◌≡◌ {A = ℕ} 0 1 = cc in absurd (omega arith)
    by_code (Ok ks) says (some ts) ih e =
        let p : ks ++ ts ≡ ss = cc in
        let w = ih ts refl in
        (says.0 ∷ w.0, rw (says.1, w.1), rw (says.2, w.2) p)
    by_code (Err why) says r ih e = let z : ◌≡◌ {A = ℕ} 0 1 = cc in absurd (omega arith)

entries_coded : (es : List Entry) → codes_of (map character_of es) ≡ some (coded es)
unfolding codes_of before coded
entries_coded [] = refl
entries_coded (e ∷ es) = rw (entries_coded es, entry_coded e)

pub adequate : (cs ss : List ℕ) → (codes_of cs ≡ some ss) ↔ ((es : List Entry) × (map character_of es ≡ cs) × (coded es ≡ ss))
adequate cs ss = (entries_of cs ss, λ w. ap codes_of (sym w.1) ∙ entries_coded w.0 ∙ ap some w.2)

-- ---- and these show the characters

pub entries_shown : (es : List Entry) → characters_of (coded es) ≡ map character_of es
unfolding characters_of after_escape coded
entries_shown [] = refl
entries_shown (plain code h n ∷ es) = rw (ne_eqb code 0x1b n, entries_shown es)
entries_shown (extended place h ∷ es) = rw (extension_shown place h, entries_shown es)

pub codes_shown : (cs ss : List ℕ) → codes_of cs ≡ some ss → characters_of ss ≡ cs
codes_shown cs ss e = let w = entries_of cs ss e in ap characters_of (sym w.2) ∙ entries_shown w.0 ∙ w.1

pub codes_digits : (cs ss : List ℕ) → codes_of cs ≡ some ss → Digits 7 ss
codes_digits cs ss e = let w = entries_of cs ss e in subst (Digits 7) w.2 (coded_septets w.0)

-- ---- a character that is in neither table has none

abbrev pub InTables : ℕ → Type 0
InTables c = (e : Entry) × (character_of e ≡ c)

pub absent_means : (c : ℕ) → (code_of c ≡ Err NotInAlphabet) ↔ (InTables c → ⊥)
absent_means c = (λ e w. let p = sym (entry_coded w.0) ∙ ap code_of w.1 ∙ e in let z : ◌≡◌ {A = ℕ} 0 1 = cc in omega arith, λ n. by_code n (code_of c) (code_says_lem c))
  where
    by_code : (InTables c → ⊥) → (a : Said (List ℕ)) → Says c a → a ≡ Err NotInAlphabet
    by_code n (Ok ks) says = absurd (n (says.0, says.1))
    by_code n (Err why) says = ap Err says

-- ESC is in neither; nor is a character past the euro sign: a surrogate, a byte order mark
pub escape_absent : InTables 0x1b → ⊥
unfolding code_of index_of extended_code row_with
escape_absent = (absent_means 0x1b).0 refl

entry_to_euro : (e : Entry) → character_of e ≤ 0x20ac
unfolding character
entry_to_euro (plain code h n) = leb-true _ _ (below (λ k. leb (get_or alphabet k 0) 0x20ac) 128 refl code h)
entry_to_euro (extended place h) = leb-true _ _ (below (λ i. leb (get_or extension i (row 0 0)).character 0x20ac) 10 refl place h)

pub past_euro_absent : (c : ℕ) → 0x20ac < c → InTables c → ⊥
past_euro_absent c h w = omega (arith, entry_to_euro w.0, w.1)

-- characters have no septets exactly when one of them is in neither table
abbrev pub OneAbsent : List ℕ → Type 0
OneAbsent cs = (i : ℕ) × (i < length cs) × (InTables (get_or cs i 0) → ⊥)

pub codes_none : (cs : List ℕ) → (codes_of cs ≡ none) ↔ OneAbsent cs
unfolding codes_of before
codes_none [] = (λ e. let z : ◌≡◌ {A = ℕ} 0 1 = cc in absurd (omega arith), λ w. absurd (omega (arith, w.1)))
codes_none (c ∷ cs) = (by_code (code_of c) refl (code_says_lem c) (codes_of cs) (codes_none cs), λ w. back (codes_none cs) w.0 w.1 w.2)
  where
    later : OneAbsent cs → OneAbsent (c ∷ cs)
    later w = (suc w.0, omega (arith, w.1), w.2)

    by_code : (a : Said (List ℕ)) → code_of c ≡ a → Says c a → (r : Option (List ℕ)) → (r ≡ none) ↔ OneAbsent cs → before a r ≡ none → OneAbsent (c ∷ cs)
    by_code (Ok ks) q says none ih e = later (ih.0 refl)
    by_code (Ok ks) q says (some ss) ih e = let z : ◌≡◌ {A = ℕ} 0 1 = cc in absurd (omega arith)
    by_code (Err why) q says r ih e = (0, omega arith, (absent_means c).0 (q ∙ ap Err says))

    after_none : (a : Said (List ℕ)) → before a none ≡ none
    after_none (Ok ks) = refl
    after_none (Err why) = refl

    back : (codes_of cs ≡ none) ↔ OneAbsent cs → (i : ℕ) → i < length (c ∷ cs) → (InTables (get_or (c ∷ cs) i 0) → ⊥) → before (code_of c) (codes_of cs) ≡ none
    back ih zero l n = rw ((absent_means c).1 n)
    back ih (suc i) l n = rw (ih.1 (i, omega arith, n)) (after_none (code_of c))
