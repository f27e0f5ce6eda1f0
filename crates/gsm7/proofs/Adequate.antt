-- A text is written exactly when it is characters of the two tables, one after the other; and text to septets and back is the text.
-- Assumes nothing.
use Prim.Native.Nat.{ℕ, zero, suc, ◌+◌, ◌-◌, ◌/◌, ◌%◌, ◌<◌, ◌≤◌}
use mathlib.Core.Path.{◌≡◌, refl, sym, ◌∙◌, ap, subst}
use mathlib.Core.Bool.{Bool, true, false}
use mathlib.Core.List.{List, [], ◌∷◌, ◌++◌}
use mathlib.Core.Option.{Option, none, some}
use mathlib.Core.Logic.{◌↔◌}
use native.Mathlib.Omega.{arith}
use native.Mathlib.Nat.{not-suc-le-zero, zero-add}
use borrow.Author.Tests.{ltb-true, ltb-false, ne_eqb, lt-ltb, le-ltb}
use lib.Dec.{ltb}
use lib.ListN.{length, get_or, drop, length-append}
use lib.Seq.{drop-append_seam}
use Rattle.octets.specs.Answers.{Said}
use Rattle.std.specs.Prelude.{if◌then◌else◌, Ok, Err}
use Rattle.octets.specs.declared.Refusal.TheVariants.{NotInAlphabet}
use Rattle.octets.proofs.Table.{below}
use Rattle.septets.specs.Septets.{Digits, septets_in, packed_septets}
use Rattle.septets.proofs.Inverse.{unpack_pack}
use Rattle.gsm7.specs.Alphabet.{alphabet, extension, row, character}
use Rattle.gsm7.specs.Reading.{utf8, text_of, after_escape, replaced_in, replaced_after}
use Rattle.gsm7.specs.Writing.{same, code_of, before, starting_with, scan, septets_of, two_octets, three_octets, first_character}
use Rattle.gsm7.specs.Characters.{Entry, plain, extended, character_of, octets_for, septets_for, spelled, coded}
use Rattle.gsm7.proofs.Utf8.{utf8_one, utf8_two, utf8_three}
use Rattle.gsm7.proofs.FirstCharacter.{two, three, two_read, three_read}
use Rattle.gsm7.proofs.Scanning.{first_width, scan_read}
use Rattle.gsm7.proofs.Tables.{Says, code_says_lem, same_is, alphabet_one_to_one, extension_coded, extension_shown, extension_small, extension_listed}

-- a second and a third octet are at least 128
utf8_second : (c a b : ℕ) (r : List ℕ) → utf8 c ≡ a ∷ b ∷ r → 128 ≤ b
utf8_second c a b r e = by_test (ltb c 0x80) refl (ltb c 0x800) refl
  where
    by_test : (t : Bool) → ltb c 0x80 ≡ t → (u : Bool) → ltb c 0x800 ≡ u → 128 ≤ b
    by_test true p u q = let z : ◌≡◌ {A = ℕ} 0 1 = cc (utf8_one c (ltb-true _ _ p)) in omega arith
    by_test false p true q = let z : b ≡ 128 + c % 64 = cc (utf8_two c (ltb-false _ _ p) (ltb-true _ _ q)) in omega arith
    by_test false p false q = let z : b ≡ 128 + c / 64 % 64 = cc (utf8_three c (ltb-false _ _ q)) in omega arith

utf8_third : (c a b d : ℕ) (r : List ℕ) → utf8 c ≡ a ∷ b ∷ d ∷ r → 128 ≤ d
utf8_third c a b d r e = by_test (ltb c 0x80) refl (ltb c 0x800) refl
  where
    by_test : (t : Bool) → ltb c 0x80 ≡ t → (u : Bool) → ltb c 0x800 ≡ u → 128 ≤ d
    by_test true p u q = let z : ◌≡◌ {A = ℕ} 0 1 = cc (utf8_one c (ltb-true _ _ p)) in omega arith
    by_test false p true q = let z : ◌≡◌ {A = ℕ} 0 1 = cc (utf8_two c (ltb-false _ _ p) (ltb-true _ _ q)) in omega arith
    by_test false p false q = let z : d ≡ 128 + c % 64 = cc (utf8_three c (ltb-false _ _ q)) in omega arith

-- a character that is read: its octets stand at the start of the text
abbrev Starts : List ℕ → Said (ℕ × ℕ) → Type 0
Starts xs (Ok (c, w)) = (xs ≡ utf8 c ++ drop w xs) × (1 ≤ w)
Starts xs (Err why) = Unit

accept : (xs : List ℕ) (c w : ℕ) (t : Bool) → (t ≡ true → Starts xs (Ok (c, w))) → Starts xs (if t then Ok (c, w) else Err NotInAlphabet)
accept xs c w true f = f refl
accept xs c w false f = tt

starts_two : (xs : List ℕ) → 0 < length xs → Starts xs (two_octets (get_or xs 0 0) (get_or xs 1 0))
unfolding two_octets
starts_two [] h = absurd (not-suc-le-zero h)
starts_two (a ∷ []) h = accept (a ∷ []) (two a 0) 2 (same (utf8 (two a 0)) (a ∷ 0 ∷ [])) (λ e. absurd (not-suc-le-zero (utf8_second (two a 0) a 0 [] (same_is _ _ e))))
starts_two (a ∷ b ∷ xs) h = accept (a ∷ b ∷ xs) (two a b) 2 (same (utf8 (two a b)) (a ∷ b ∷ [])) (λ e. (rw (same_is (utf8 (two a b)) (a ∷ b ∷ []) e), omega arith))

starts_three : (xs : List ℕ) → 0 < length xs → Starts xs (three_octets (get_or xs 0 0) (get_or xs 1 0) (get_or xs 2 0))
unfolding three_octets
starts_three [] h = absurd (not-suc-le-zero h)
starts_three (a ∷ []) h =
    accept (a ∷ []) (three a 0 0) 3 (same (utf8 (three a 0 0)) (a ∷ 0 ∷ 0 ∷ [])) (λ e. absurd (not-suc-le-zero (utf8_second (three a 0 0) a 0 (0 ∷ []) (same_is _ _ e))))
starts_three (a ∷ b ∷ []) h =
    accept (a ∷ b ∷ []) (three a b 0) 3 (same (utf8 (three a b 0)) (a ∷ b ∷ 0 ∷ [])) (λ e. absurd (not-suc-le-zero (utf8_third (three a b 0) a b 0 [] (same_is _ _ e))))
starts_three (a ∷ b ∷ d ∷ xs) h =
    accept (a ∷ b ∷ d ∷ xs) (three a b d) 3 (same (utf8 (three a b d)) (a ∷ b ∷ d ∷ [])) (λ e. (rw (same_is (utf8 (three a b d)) (a ∷ b ∷ d ∷ []) e), omega arith))

starts : (x : ℕ) (xs : List ℕ) → Starts (x ∷ xs) (first_character (x ∷ xs))
unfolding first_character
starts x xs = by_first (ltb x 0x80) refl (ltb x 0xe0)
  where
    by_first : (t : Bool) → ltb x 0x80 ≡ t → (u : Bool)
        → Starts (x ∷ xs) (if t then Ok (x, 1) else if u then two_octets x (get_or xs 0 0) else three_octets x (get_or xs 0 0) (get_or xs 1 0))
    by_first true e u = (rw (utf8_one x (ltb-true _ _ e)), omega arith)
    by_first false e true = starts_two (x ∷ xs) (omega arith)
    by_first false e false = starts_three (x ∷ xs) (omega arith)

drop_first : (x : ℕ) (xs : List ℕ) (w : ℕ) → 1 ≤ w → drop w (x ∷ xs) ≡ drop (w - 1) xs
drop_first x xs zero h = absurd (not-suc-le-zero h)
drop_first x xs (suc w) h = let e : suc w - 1 ≡ w = omega arith in rw e

-- ---- a text that has septets is spelled by entries of the tables, and these are their codes

abbrev Entries : List ℕ → Option (List ℕ) → Type 0
Entries xs none = Unit
Entries xs (some ss) = (es : List Entry) × (spelled es ≡ xs) × (coded es ≡ ss)

module _ (x : ℕ) (xs : List ℕ) where
  by_code : (c w : ℕ) → Starts (x ∷ xs) (Ok (c, w)) → (a : Said (List ℕ)) → Says c a → (r : Option (List ℕ)) → Entries (drop (w - 1) xs) r → Entries (x ∷ xs) (before a r)
  unfolding before spelled coded
  by_code c w st (Ok ks) says none b = tt
  by_code c w st (Ok ks) says (some ss) b = (says.0 ∷ b.0, rw (says.1, b.1, ← drop_first x xs w st.1) (sym st.0), rw (says.2, b.2))
  by_code c w st (Err why) says r b = tt

  by_character_lem : (f : Said (ℕ × ℕ)) → Starts (x ∷ xs) f → ((k : ℕ) → Entries (drop k xs) (scan xs k)) → Entries (x ∷ xs) (starting_with f (λ skip. scan xs skip))
  unfolding starting_with
  by_character_lem (Ok (c, w)) st ih = by_code c w st (code_of c) (code_says_lem c) (scan xs (w - 1)) (ih (w - 1))
  by_character_lem (Err why) st ih = tt

entries : (xs : List ℕ) (k : ℕ) → Entries (drop k xs) (scan xs k)
unfolding scan spelled coded
entries [] zero = ([], refl, refl)
entries [] (suc k) = ([], refl, refl)
entries (x ∷ xs) zero = by_character_lem x xs (first_character (x ∷ xs)) (starts x xs) (λ k. entries xs k)
entries (x ∷ xs) (suc k) = entries xs k

pub entries_of : (text ss : List ℕ) → septets_of text ≡ some ss → (es : List Entry) × (spelled es ≡ text) × (coded es ≡ ss)
entries_of text ss e = subst (Entries text) e (entries text 0)

-- ---- what entries spell has their codes as its septets

-- a character is the first one of its UTF-8 and what follows
first_two_octets : (a b : ℕ) (rest : List ℕ) → 0x80 ≤ a → a < 0xe0 → first_character (a ∷ b ∷ rest) ≡ two_octets a b
unfolding first_character
first_two_octets a b rest l h = rw (le-ltb a 0x80 l, lt-ltb a 0xe0 h)

first_three_octets : (a b d : ℕ) (rest : List ℕ) → 0xe0 ≤ a → first_character (a ∷ b ∷ d ∷ rest) ≡ three_octets a b d
unfolding first_character
first_three_octets a b d rest h = let l : 0x80 ≤ a = omega arith in rw (le-ltb a 0x80 l, le-ltb a 0xe0 h)

first_of : (c : ℕ) (rest : List ℕ) → c < 0x10000 → first_character (utf8 c ++ rest) ≡ Ok (c, length (utf8 c))
unfolding first_character
first_of c rest h = by_test (ltb c 0x80) refl (ltb c 0x800) refl
  where
    by_test : (t : Bool) → ltb c 0x80 ≡ t → (u : Bool) → ltb c 0x800 ≡ u → first_character (utf8 c ++ rest) ≡ Ok (c, length (utf8 c))
    by_test true p u q = rw (utf8_one c (ltb-true c 0x80 p), p)
    by_test false p true q =
        let l = ltb-false c 0x80 p in
        let s = ltb-true c 0x800 q in
        let a = 192 + c / 64 in
        let b = 128 + c % 64 in
        let back : two a b ≡ c = omega arith in
        rw (utf8_two c l s)
        (first_two_octets a b rest (omega arith) (omega arith) ∙ two_read a b (omega arith) (rw back) (rw back) ∙ ap (λ (n : ℕ). Ok (n, 2)) back)
    by_test false p false q =
        let l = ltb-false c 0x800 q in
        let a = 224 + c / 4096 in
        let b = 128 + c / 64 % 64 in
        let d = 128 + c % 64 in
        let back : three a b d ≡ c = omega arith in
        rw (utf8_three c l)
        (first_three_octets a b d rest (omega arith) ∙ three_read a b d (omega arith) (rw back) (rw back) (rw back) ∙ ap (λ (n : ℕ). Ok (n, 3)) back)

-- so its code comes first, and then the septets of what follows
pub scan_utf8 : (c : ℕ) (rest : List ℕ) → c < 0x10000 → scan (utf8 c ++ rest) 0 ≡ before (code_of c) (scan rest 0)
scan_utf8 c rest h =
    let some-octet = first_width (utf8 c ++ rest) c (length (utf8 c)) (first_of c rest h) in
    let longer : 0 < length (utf8 c ++ rest) = rw length-append (omega arith) in
    scan_read (utf8 c ++ rest) 0 longer c (length (utf8 c)) (first_of c rest h) ∙ rw (zero-add, drop-append_seam)

-- an entry's character is below 10000 (hexadecimal), and its code is the entry's
character_small : (e : Entry) → character_of e < 0x10000
unfolding character
character_small (plain code h n) = ltb-true _ _ (below (λ k. ltb (get_or alphabet k 0) 0x10000) 128 refl code h)
character_small (extended place h) = ltb-true _ _ (below (λ i. ltb (get_or extension i (row 0 0)).character 0x10000) 10 refl place h)

pub entry_coded : (e : Entry) → code_of (character_of e) ≡ Ok (septets_for e)
entry_coded (plain code h n) = alphabet_one_to_one code h n
entry_coded (extended place h) = extension_coded place h

scan_entry : (e : Entry) (rest : List ℕ) (ss : List ℕ) → scan rest 0 ≡ some ss → scan (octets_for e ++ rest) 0 ≡ some (septets_for e ++ ss)
unfolding before
scan_entry e rest ss p = scan_utf8 (character_of e) rest (character_small e) ∙ rw (entry_coded e, p)

-- what entries spell has their codes as its septets
pub written : (es : List Entry) → septets_of (spelled es) ≡ some (coded es)
unfolding scan spelled coded
written [] = refl
written (e ∷ es) = scan_entry e (spelled es) (coded es) (written es)

-- ---- and reads back as the text

pub read_coded : (es : List Entry) → text_of (coded es) ≡ spelled es
unfolding text_of after_escape spelled coded
read_coded [] = refl
read_coded (plain code h n ∷ es) = rw (ne_eqb code 0x1b n, read_coded es)
read_coded (extended place h ∷ es) = rw (extension_shown place h, read_coded es)

-- no escape of it is replaced
pub none_replaced : (es : List Entry) → replaced_in (coded es) ≡ 0
unfolding replaced_in replaced_after coded
none_replaced [] = refl
none_replaced (plain code h n ∷ es) = rw (ne_eqb code 0x1b n, none_replaced es)
none_replaced (extended place h ∷ es) = rw (extension_listed place h, none_replaced es)

digits_cons : (k : ℕ) (ss : List ℕ) → k < 128 → Digits 7 ss → Digits 7 (k ∷ ss)
digits_cons k ss h d zero = h
digits_cons k ss h d (suc i) = d i

pub coded_septets : (es : List Entry) → Digits 7 (coded es)
unfolding coded
coded_septets [] = λ i. omega arith
coded_septets (plain code h n ∷ es) = digits_cons code (coded es) h (coded_septets es)
coded_septets (extended place h ∷ es) = digits_cons 0x1b ((get_or extension place (row 0 0)).code ∷ coded es) (omega arith) (digits_cons _ (coded es) (extension_small place h) (coded_septets es))

-- ---- the laws

-- a text is written exactly when it is the UTF-8 of entries of the two tables, one after the other, and then its septets are their codes, one after the other
pub adequate : (text ss : List ℕ) → (septets_of text ≡ some ss) ↔ ((es : List Entry) × (spelled es ≡ text) × (coded es ≡ ss))
adequate text ss = (entries_of text ss, λ w. ap septets_of (sym w.1) ∙ written w.0 ∙ ap some w.2)

-- text → septets → text
pub text_septets_text : (text ss : List ℕ) → septets_of text ≡ some ss → text_of ss ≡ text
text_septets_text text ss e = let w = entries_of text ss e in ap text_of (sym w.2) ∙ read_coded w.0 ∙ w.1

-- no escape in the septets of a text is replaced
pub written_none_replaced : (text ss : List ℕ) → septets_of text ≡ some ss → replaced_in ss ≡ 0
written_none_replaced text ss e = let w = entries_of text ss e in ap replaced_in (sym w.2) ∙ none_replaced w.0

-- the septets of a text are septets
pub septets_digits : (text ss : List ℕ) → septets_of text ≡ some ss → Digits 7 ss
septets_digits text ss e = let w = entries_of text ss e in subst (Digits 7) w.2 (coded_septets w.0)

-- a text packed and unpacked again
pub text_packed_text : (f : ℕ) (text ss : List ℕ) → septets_of text ≡ some ss → text_of (septets_in (packed_septets f ss) f (length ss)) ≡ text
text_packed_text f text ss e = rw (unpack_pack f ss (septets_digits text ss e)) (text_septets_text text ss e)

pub packed_none_replaced : (f : ℕ) (text ss : List ℕ) → septets_of text ≡ some ss → replaced_in (septets_in (packed_septets f ss) f (length ss)) ≡ 0
packed_none_replaced f text ss e = rw (unpack_pack f ss (septets_digits text ss e)) (written_none_replaced text ss e)
