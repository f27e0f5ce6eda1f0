-- What holds of every text that is read: it has at most two octets a septet, and is characters of the two tables, one after the other; what is counted in it, and what it tells that nothing is.
-- Assumes nothing.
use Prim.Native.Nat.{ℕ, suc, ◌+◌, ◌*◌, ◌<◌, ◌≤◌}
use mathlib.Core.Path.{◌≡◌, refl, ap, ap₂, ◌∙◌}
use mathlib.Core.Bool.{Bool, true, false}
use mathlib.Core.List.{List, [], ◌∷◌, ◌++◌, append-nil}
use mathlib.Core.Option.{Option, none, some}
use native.Mathlib.Omega.{arith}
use borrow.Author.Tests.{eqb-true, eqb-false}
use lib.Dec.{eqb}
use lib.ListN.{length, length-append}
use Rattle.std.specs.Prelude.{if◌then◌else◌}
use Rattle.septets.specs.Septets.{Digits, septets_in}
use Rattle.septets.proofs.Inverse.{septets_septets, length_septets}
use Rattle.gsm7.specs.declared.decode.Extension.{Extension}
use Rattle.gsm7.specs.Alphabet.{extension, row_with, character, character_or, escaped, one_without, replaced}
use Rattle.gsm7.specs.Reading.{utf8, text_of, after_escape, replaced_in, replaced_after}
use Rattle.gsm7.specs.Characters.{Entry, plain, extended, octets_for, septets_for, spelled, coded}
use Rattle.gsm7.proofs.Rows.{Stands, row_stands}
use Rattle.gsm7.proofs.TableSizes.{short, short_escaped, replaced_small}
use Rattle.gsm7.proofs.Utf8.{utf8_one}

tail : (s : ℕ) (ss : List ℕ) → Digits 7 (s ∷ ss) → Digits 7 ss
tail s ss d i = d (suc i)

-- ---- text that is read has at most two octets a septet

short_texts : (ss : List ℕ) → Digits 7 ss → (length (text_of ss) ≤ 2 * length ss) × (length (after_escape ss) ≤ 2 * length ss + 2)
unfolding text_of after_escape
short_texts [] d = (omega arith, rw (utf8_one 0x20 (omega arith)) (omega arith))
short_texts (s ∷ ss) d = (by_test (eqb s 0x1b) (short_texts ss (tail s ss d)), rw length-append (omega (arith, short_escaped s (d 0), short_texts ss (tail s ss d))))
  where
    by_test : (t : Bool) → (length (text_of ss) ≤ 2 * length ss) × (length (after_escape ss) ≤ 2 * length ss + 2)
        → length (if t then after_escape ss else utf8 (character s) ++ text_of ss) ≤ 2 * suc (length ss)
    by_test true h = omega arith
    by_test false h = rw length-append (omega (arith, short s (d 0)))

pub text_short : (os : List ℕ) (f n : ℕ) → length (text_of (septets_in os f n)) ≤ 2 * n
text_short os f n = omega (arith, (short_texts (septets_in os f n) (septets_septets os f n)).0, length_septets os f n)

-- so it fits its array
pub text_fits : (os : List ℕ) (f n : ℕ) → n ≤ 255 → length (text_of (septets_in os f n)) ≤ 510
text_fits os f n h = omega (arith, text_short os f n)

-- ---- text that is read is characters of the tables, one after the other, and takes no more septets than were read

abbrev Readable : List ℕ → ℕ → Type 0
Readable text n = (es : List Entry) × (spelled es ≡ text) × (length (coded es) ≤ n)

-- one more character
onto : (e : Entry) (c : ℕ) {text : List ℕ} {n : ℕ} (m : ℕ) → octets_for e ≡ utf8 c → length (septets_for e) + n ≤ m → Readable text n → Readable (utf8 c ++ text) m
unfolding spelled coded
onto e c m p h r = (e ∷ r.0, rw (p, r.1), rw length-append (omega (arith, r.2)))

nothing : Readable [] 0
unfolding spelled coded
nothing = ([], refl, omega arith)

-- the character shown for a code of the default alphabet
code_entry : (s : ℕ) → s < 128 → (e : Entry) × (octets_for e ≡ utf8 (character s)) × (length (septets_for e) ≡ 1)
unfolding character
code_entry s h = by_test (eqb s 0x1b) refl
  where
    by_test : (t : Bool) → eqb s 0x1b ≡ t → (e : Entry) × (octets_for e ≡ utf8 (character s)) × (length (septets_for e) ≡ 1)
    by_test true p = (plain 0x20 (omega arith) (λ q. omega arith), rw (eqb-true s 0x1b p), refl)
    by_test false p = (plain s h (eqb-false s 0x1b p), refl, refl)

-- the character shown for a code after an escape
escape_entry : (t : ℕ) → t < 128 → (e : Entry) × (octets_for e ≡ utf8 (escaped t)) × (length (septets_for e) ≤ 2)
unfolding escaped
escape_entry t h = by_row (row_with (λ (e : Extension). e.code) t extension) (row_stands (λ (e : Extension). e.code) t extension)
  where
    by_row : (o : Option Extension) → Stands (λ (e : Extension). e.code) t extension o → (e : Entry) × (octets_for e ≡ utf8 (character_or (character t) o)) × (length (septets_for e) ≤ 2)
    by_row none s = let w = code_entry t h in (w.0, w.1, omega (arith, w.2))
    by_row (some r) s = (extended s.0 s.1, ap (λ (e : Extension). utf8 e.character) s.2, omega arith)

readables : (ss : List ℕ) → Digits 7 ss → Readable (text_of ss) (length ss) × Readable (after_escape ss) (length ss + 1)
unfolding text_of after_escape character
readables [] d = (nothing, rw (append-nil (utf8 0x20)) at (let w = code_entry 0x20 (omega arith) in onto w.0 0x20 1 w.1 (omega (arith, w.2)) nothing))
readables (s ∷ ss) d =
    let r = readables ss (tail s ss d) in
    let w = escape_entry s (d 0) in
    (by_test (eqb s 0x1b) r, onto w.0 (escaped s) _ w.1 (omega (arith, w.2)) r.0)
  where
    by_test : (t : Bool) → Readable (text_of ss) (length ss) × Readable (after_escape ss) (length ss + 1)
        → Readable (if t then after_escape ss else utf8 (character s) ++ text_of ss) (suc (length ss))
    by_test true r = (r.1.0, r.1.1, omega (arith, r.1.2))
    by_test false r = let w = code_entry s (d 0) in onto w.0 (character s) _ w.1 (omega (arith, w.2)) r.0

-- every octet of text that is read is that of a character of the tables
pub read_spelled : (ss : List ℕ) → Digits 7 ss → (es : List Entry) × (spelled es ≡ text_of ss) × (length (coded es) ≤ length ss)
read_spelled ss d = (readables ss d).0

-- ---- the escapes that are replaced are at most the septets

few_replaced : (ss : List ℕ) → (replaced_in ss ≤ length ss) × (replaced_after ss ≤ length ss + 1)
unfolding replaced_in replaced_after
few_replaced [] = (omega arith, omega arith)
few_replaced (s ∷ ss) = (by_test (eqb s 0x1b) (few_replaced ss), omega (arith, replaced_small s, (few_replaced ss).0))
  where
    by_test : (t : Bool) → (replaced_in ss ≤ length ss) × (replaced_after ss ≤ length ss + 1) → (if t then replaced_after ss else replaced_in ss) ≤ suc (length ss)
    by_test true h = omega arith
    by_test false h = omega arith

pub replaced_at_most : (ss : List ℕ) → replaced_in ss ≤ length ss
replaced_at_most ss = (few_replaced ss).0

-- ---- septets in which none is replaced are the codes of entries of the tables

abbrev Coded : List ℕ → Type 0
Coded ss = (es : List Entry) × (coded es ≡ ss)

-- a code of the extension table, after an escape
listed : (t : ℕ) → replaced t ≡ 0 → {ss : List ℕ} → Coded ss → Coded (0x1b ∷ t ∷ ss)
unfolding replaced coded
listed t none_is {ss} w = by_row (row_with (λ (e : Extension). e.code) t extension) (row_stands (λ (e : Extension). e.code) t extension) none_is
  where
    by_row : (o : Option Extension) → Stands (λ (e : Extension). e.code) t extension o → one_without o ≡ 0 → Coded (0x1b ∷ t ∷ ss)
    by_row none s e = absurd (omega arith)
    by_row (some r) s e = (extended s.0 s.1 ∷ w.0, ap₂ (λ (k : ℕ) (ks : List ℕ). 0x1b ∷ k ∷ ks) (ap (λ (e : Extension). e.code) s.2 ∙ s.3) w.1)

codes_in : (ss : List ℕ) → Digits 7 ss → (replaced_in ss ≡ 0 → Coded ss) × (replaced_after ss ≡ 0 → Coded (0x1b ∷ ss))
unfolding replaced_in replaced_after coded
codes_in [] d = ((λ e. ([], refl)), λ e. absurd (omega arith))
codes_in (s ∷ ss) d =
    let r = codes_in ss (tail s ss d) in
    (by_test (eqb s 0x1b) refl r, λ e. listed s (omega arith) (r.0 (omega arith)))
  where
    by_test : (t : Bool) → eqb s 0x1b ≡ t → (replaced_in ss ≡ 0 → Coded ss) × (replaced_after ss ≡ 0 → Coded (0x1b ∷ ss)) → (if t then replaced_after ss else replaced_in ss) ≡ 0 → Coded (s ∷ ss)
    by_test true p r e = rw (eqb-true s 0x1b p) (r.1 e)
    by_test false p r e = let w = r.0 e in (plain s (d 0) (eqb-false s 0x1b p) ∷ w.0, ap (λ (ks : List ℕ). s ∷ ks) w.1)

pub unreplaced_coded : (ss : List ℕ) → Digits 7 ss → replaced_in ss ≡ 0 → (es : List Entry) × (coded es ≡ ss)
unreplaced_coded ss d = (codes_in ss d).0
