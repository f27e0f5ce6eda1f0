-- The septets of what is left of a text, one character at a time.
-- Assumes nothing.
use Prim.Native.Nat.{ℕ, zero, suc, ◌+◌, ◌-◌, ◌<◌, ◌≤◌}
use mathlib.Core.Path.{◌≡◌, refl, sym, ◌∙◌, ap}
use mathlib.Core.Bool.{Bool, true, false}
use mathlib.Core.List.{List, [], ◌∷◌, ◌++◌}
use mathlib.Core.Option.{Option, none, some}
use native.Mathlib.Omega.{arith}
use lib.Dec.{ltb}
use lib.ListN.{length, get_or, take, drop, replicate, length-append, drop_of_length-le}
use lib.Seq.{drop-cons, drop-drop, sets, length-sets}
use Rattle.octets.specs.Answers.{Said}
use Rattle.std.specs.Prelude.{if◌then◌else◌, Ok, Err, None, Some, ok_or, Option as Maybe}
use Rattle.octets.specs.Lent.{Wrote}
use Rattle.octets.specs.declared.Refusal.{Refusal}
use Rattle.octets.specs.declared.Refusal.TheVariants.{NotInAlphabet}
use Rattle.octets.proofs.Laws.{sets_append, sets_zeros, take_pad}
use Rattle.octets.proofs.Checks.{never}
use Rattle.gsm7.specs.Characters.{Entry, plain, extended, septets_for}
use Rattle.gsm7.specs.Reading.{utf8}
use Rattle.gsm7.specs.Writing.{same, code_of, two_octets, three_octets, first_character, before, starting_with, scan}
use Rattle.gsm7.specs.Internal.{ScannedAs, AddedAs}
use Rattle.gsm7.proofs.FirstCharacter.{two, three}
use Rattle.gsm7.proofs.Tables.{Says, code_says_lem}

-- a character has one to three octets
abbrev width : Said (ℕ × ℕ) → ℕ
width (Ok (c, w)) = w
width (Err why) = 1

abbrev Narrow : Said (ℕ × ℕ) → Type 0
Narrow s = (1 ≤ width s) × (width s ≤ 3)

narrow_or : (t : Bool) (a b : Said (ℕ × ℕ)) → Narrow a → Narrow b → Narrow (if t then a else b)
narrow_or true a b p q = p
narrow_or false a b p q = q

narrow_two : (a b : ℕ) → Narrow (two_octets a b)
unfolding two_octets
narrow_two a b = narrow_or (same (utf8 (two a b)) (a ∷ b ∷ [])) (Ok (two a b, 2)) (Err NotInAlphabet) (omega arith) (omega arith)

narrow_three : (a b d : ℕ) → Narrow (three_octets a b d)
unfolding three_octets
narrow_three a b d = narrow_or (same (utf8 (three a b d)) (a ∷ b ∷ d ∷ [])) (Ok (three a b d, 3)) (Err NotInAlphabet) (omega arith) (omega arith)

narrow : (xs : List ℕ) → Narrow (first_character xs)
unfolding first_character
narrow xs =
    let a = get_or xs 0 0 in
    narrow_or (ltb a 0x80) (Ok (a, 1)) (if ltb a 0xe0 then two_octets a (get_or xs 1 0) else three_octets a (get_or xs 1 0) (get_or xs 2 0)) (omega arith)
    (narrow_or (ltb a 0xe0) (two_octets a (get_or xs 1 0)) (three_octets a (get_or xs 1 0) (get_or xs 2 0)) (narrow_two a (get_or xs 1 0)) (narrow_three a (get_or xs 1 0) (get_or xs 2 0)))

pub first_width : (xs : List ℕ) (c w : ℕ) → first_character xs ≡ Ok (c, w) → (1 ≤ w) × (w ≤ 3)
first_width xs c w e = rw e at (narrow xs)

scan_skip : (xs : List ℕ) (k : ℕ) → scan xs k ≡ scan (drop k xs) 0
unfolding scan
scan_skip [] zero = refl
scan_skip [] (suc k) = refl
scan_skip (x ∷ xs) zero = refl
scan_skip (x ∷ xs) (suc k) = scan_skip xs k

-- septets stored after `count` others, with their number
pub settled : List ℕ → ℕ → Option (List ℕ) → Option (List ℕ × ℕ)
settled codes count none = none
settled codes count (some ss) = some (sets codes count ss, count + length ss)

-- an entry has one septet or two
pub entry_few : (e : Entry) → (1 ≤ length (septets_for e)) × (length (septets_for e) ≤ 2)
entry_few (plain code h n) = omega arith
entry_few (extended place h) = omega arith

-- the septets of a character stored, the rest is stored after them
module _ {codes after : List ℕ} {count next : ℕ} where
  pub settled_before : (ks : List ℕ) → Wrote count ks codes next after → (o : Option (List ℕ)) → settled codes count (before (Ok ks) o) ≡ settled after next o
  unfolding settled before
  settled_before ks w none = refl
  settled_before ks w (some ss) =
      let p : sets codes count (ks ++ ss) ≡ sets after next ss = rw (w.place, w.list) (sym (sets_append ks ss codes count)) in
      let q : count + length (ks ++ ss) ≡ next + length ss = rw (w.place, length-append) (omega arith) in
      λ i. some (p i, q i)

-- a character that is added has one septet or two; one that is not has none
abbrev pub Added : Said (List ℕ) → ℕ → ℕ → List ℕ → List ℕ → Type 0
Added a count next codes after = (ks : List ℕ) × (a ≡ Ok ks) × Wrote count ks codes next after × (count < next) × (next ≤ count + 2)

module _ (c count : ℕ) (codes after : List ℕ) where
  some_by : (next : ℕ) (a : Said (List ℕ)) → Says c a → AddedAs a count (Some next) codes after → Added a count next codes after
  some_by next (Ok ks) s (n, is, w) =
      let same : next ≡ n = cc in
      let few = rw s.2 at (entry_few s.0) in
      (ks, refl, rw same w, omega (arith, same, w.place), omega (arith, same, w.place))
  some_by next (Err why) s h = let q = h.0 in let z : ◌≡◌ {A = ℕ} 0 1 = cc in absurd (omega arith)

  none_by : (a : Said (List ℕ)) → Says c a → AddedAs a count None codes after → a ≡ Err NotInAlphabet
  none_by (Ok ks) s h = let q = h.1 in let z : ◌≡◌ {A = ℕ} 0 1 = cc in absurd (omega arith)
  none_by (Err why) s h = ap Err s

  pub added : (o : Maybe ℕ) → AddedAs (code_of c) count o codes after → {next : ℕ} → Ok next ≡ ok_or o NotInAlphabet → Added (code_of c) count next codes after
  added None h e = absurd (never e)
  added (Some n) h {next} e = let same : next ≡ n = cc in rw same (some_by n (code_of c) (code_says_lem c) h)

  pub not_added : (o : Maybe ℕ) → AddedAs (code_of c) count o codes after → {why : Refusal} → Err why ≡ ok_or o NotInAlphabet → (why ≡ NotInAlphabet) × (code_of c ≡ Err NotInAlphabet)
  not_added None h e = ((cc), none_by (code_of c) (code_says_lem c) h)
  not_added (Some n) h e = absurd (never (sym e))

module _ (text : List ℕ) (i : ℕ) where
  pub scan_end : length text ≤ i → scan (drop i text) 0 ≡ some []
  unfolding scan
  scan_end h = rw (drop_of_length-le text h)

  module _ (h : i < length text) where
    pub scan_broken : {why : Refusal} → first_character (drop i text) ≡ Err why → scan (drop i text) 0 ≡ none
    unfolding scan starting_with
    scan_broken {why} e =
        let e' : first_character (get_or text i 0 ∷ drop (suc i) text) ≡ Err why = rw (drop-cons text i 0 h) at e in
        rw (drop-cons text i 0 h, e')

    module _ (c w : ℕ) (e : first_character (drop i text) ≡ Ok (c, w)) where
      pub scan_read : scan (drop i text) 0 ≡ before (code_of c) (scan (drop (i + w) text) 0)
      unfolding scan starting_with
      scan_read =
          let e' : first_character (get_or text i 0 ∷ drop (suc i) text) ≡ Ok (c, w) = rw (drop-cons text i 0 h) at e in
          let wide = first_width (drop i text) c w e in
          let far : suc i + (w - 1) ≡ i + w = omega arith in
          rw (drop-cons text i 0 h, e') (ap (before (code_of c)) (scan_skip (drop (suc i) text) (w - 1) ∙ rw (drop-drop, far)))

      pub scan_absent : {why : Refusal} → code_of c ≡ Err why → scan (drop i text) 0 ≡ none
      unfolding before
      scan_absent p = scan_read ∙ rw p

      -- the turn of a loop that stores the septets of the next character
      pub scan_more : {codes after : List ℕ} {count next : ℕ} (ks : List ℕ) → code_of c ≡ Ok ks → Wrote count ks codes next after
          → {whole : Option (List ℕ × ℕ)} → settled codes count (scan (drop i text) 0) ≡ whole → settled after next (scan (drop (i + w) text) 0) ≡ whole
      scan_more ks p written inv = sym (settled_before ks written (scan (drop (i + w) text) 0)) ∙ rw (scan_read, p) at inv

-- what a scan answers, once all is settled
pub scanned_none : (o : Option (List ℕ)) (codes a b : List ℕ) (count : ℕ) (rest : Option (List ℕ)) → rest ≡ none → settled codes count rest ≡ settled a 0 o → ScannedAs o (Err NotInAlphabet) a b
unfolding settled
scanned_none none codes a b count rest e p = refl
scanned_none (some ss) codes a b count rest e p = let q = rw e at p in let z : ◌≡◌ {A = ℕ} 0 1 = cc in absurd (omega arith)

pub scanned_done : (o : Option (List ℕ)) (codes a : List ℕ) (count : ℕ) (rest : Option (List ℕ)) → rest ≡ some [] → settled codes count rest ≡ settled a 0 o → ScannedAs o (Ok count) a codes
unfolding settled
scanned_done none codes a count rest e p = let q = rw e at p in let z : ◌≡◌ {A = ℕ} 0 1 = cc in absurd (omega arith)
scanned_done (some ss) codes a count rest e p =
    let q : ◌≡◌ {A = Option (List ℕ × ℕ)} (some (codes, count + 0)) (some (sets a 0 ss, 0 + length ss)) = rw e at p in
    let r : ◌≡◌ {A = List ℕ × ℕ} (codes, count + 0) (sets a 0 ss, 0 + length ss) = cc in
    let n : count ≡ length ss = omega (arith, ap (λ (x : List ℕ × ℕ). x.1) r) in
    (ap Ok n, ap (λ (x : List ℕ × ℕ). x.0) r)

-- what a scan's answer says of the septets
pub scanned_some : (o : Option (List ℕ)) {r : Said ℕ} (a b : List ℕ) {n : ℕ} → ScannedAs o r a b → r ≡ Ok n
    → (ss : List ℕ) × (o ≡ some ss) × (n ≡ length ss) × (b ≡ sets a 0 ss)
scanned_some none a b h e = let q = sym e ∙ h in let z : ◌≡◌ {A = ℕ} 0 1 = cc in absurd (omega arith)
scanned_some (some ss) a b h e = let q = sym e ∙ h.0 in (ss, refl, (cc), h.1)

pub scanned_not : (o : Option (List ℕ)) {why : Refusal} (a b : List ℕ) → ScannedAs o (Err why) a b → (o ≡ none) × (why ≡ NotInAlphabet)
scanned_not none a b h = (refl, (cc))
scanned_not (some ss) a b h = absurd (never (sym h.0))

-- the septets that fit the array stand at its start
pub codes_are : (ss : List ℕ) {b : List ℕ} {n : ℕ} → n ≡ length ss → b ≡ sets (replicate 255 0) 0 ss → n ≤ 255 → take n b ≡ ss
codes_are ss e h l = rw (h, sets_zeros 255 ss (omega arith), e) (take_pad 255 ss)

-- where the septets are counted: they are known, the array keeps its length, and those that fit it stand at its start
module _ (o : Option (List ℕ)) (codes : List ℕ) (n : ℕ) (scan : ScannedAs o (Ok n) (replicate 255 0) codes) where
  pub scanned_codes : (ss : List ℕ) × (o ≡ some ss) × (n ≡ length ss) × (codes ≡ sets (replicate 255 0) 0 ss)
  scanned_codes = scanned_some o (replicate 255 0) codes scan refl

  pub codes_long : length codes ≡ 255
  codes_long = ap length scanned_codes.3 ∙ length-sets (replicate 255 0) 0 scanned_codes.0

  pub codes_first : n ≤ 255 → take n codes ≡ scanned_codes.0
  codes_first few = codes_are scanned_codes.0 scanned_codes.2 scanned_codes.3 few
