-- What is left to convert, one character at a time.
-- Assumes nothing.
use Rattle.std.specs.Prelude.{Ok, Err, if◌then◌else◌}
use Prim.Native.Nat.{ℕ, suc, ◌+◌, ◌*◌, ◌<◌, ◌≤◌}
use mathlib.Core.Path.{◌≡◌, refl, sym, ◌∙◌}
use mathlib.Core.Bool.{Bool, true, false}
use lib.Dec.{eqb}
use mathlib.Core.List.{List, [], ◌∷◌, ◌++◌}
use mathlib.Core.Option.{Option, none, some}
use native.Mathlib.Omega.{arith}
use native.Mathlib.Nat.{zero-add}
use native.Mathlib.Numerals.{add-one, add-two}
use lib.ListN.{length, get_or, take, drop, replicate, length-drop}
use lib.Seq.{drop-cons}
use Rattle.octets.specs.Lent.{Wrote}
use Rattle.octets.specs.declared.Refusal.{Refusal}
use Rattle.octets.proofs.Laws.{sets_zeros, take_pad}
use Rattle.septets.specs.Septets.{septets_in}
use Rattle.septets.proofs.Inverse.{length_septets}
use Rattle.gsm7.specs.Alphabet.{character}
use Rattle.gsm7.specs.Internal.{shown_by, shown_after}
use Rattle.gsm7.specs.Writing.{code_of, before}
use Rattle.gsm7.proofs.Scanning.{settled, settled_before}
use Rattle.ucs2.specs.Ucs2.{pair, characters_in, ucs2_of, codes_of, characters_of, after_escape}
use Rattle.ucs2.proofs.Characters.{length_ucs2}
use Rattle.ucs2.proofs.Shown.{characters_fewer}

-- ---- the septets of what is left of UCS2

lone : (os : List ℕ) → length os ≤ 1 → characters_in os ≡ []
unfolding characters_in
lone [] h = refl
lone (x ∷ []) h = refl
lone (x ∷ y ∷ os) h = absurd (omega arith)

module _ (os : List ℕ) (i : ℕ) where
  pub codes_end : length os ≤ i + 1 → codes_of (characters_in (drop i os)) ≡ some []
  unfolding codes_of
  codes_end h = let e : length (drop i os) ≤ 1 = rw length-drop (omega arith) in rw (lone (drop i os) e)

  abbrev pub next : ℕ
  next = get_or os i 0 * 256 + get_or os (i + 1) 0

  module _ (h : i + 1 < length os) where
    codes_next : codes_of (characters_in (drop i os)) ≡ before (code_of next) (codes_of (characters_in (drop (i + 2) os)))
    unfolding codes_of characters_in
    codes_next =
        let h₁ : i < length os = omega arith in
        let h₂ : suc i < length os = omega arith in
        rw (drop-cons os i 0 h₁, drop-cons os (suc i) 0 h₂, add-one, add-two)

    pub codes_absent : {why : Refusal} → code_of next ≡ Err why → codes_of (characters_in (drop i os)) ≡ none
    unfolding before
    codes_absent p = codes_next ∙ rw p

    -- the turn of a loop that stores the septets of the next character
    pub codes_more : {array after : List ℕ} {count place : ℕ} (ks : List ℕ) → code_of next ≡ Ok ks → Wrote count ks array place after
        → {whole : Option (List ℕ × ℕ)} → settled array count (codes_of (characters_in (drop i os))) ≡ whole → settled after place (codes_of (characters_in (drop (i + 2) os))) ≡ whole
    codes_more ks p written inv = sym (settled_before ks written (codes_of (characters_in (drop (i + 2) os)))) ∙ rw (codes_next, p) at inv

-- ---- the UCS2 of septets

-- it is their characters, two octets each
ucs2_shown_by : (ss : List ℕ) → (ucs2_of (characters_of ss) ≡ shown_by pair ss) × (ucs2_of (after_escape ss) ≡ shown_after pair ss)
unfolding ucs2_of characters_of after_escape shown_by shown_after
ucs2_shown_by [] = (refl, refl)
ucs2_shown_by (s ∷ ss) = (by_test (eqb s 0x1b) (ucs2_shown_by ss), rw (ucs2_shown_by ss).0)
  where
    by_test : (t : Bool) → (ucs2_of (characters_of ss) ≡ shown_by pair ss) × (ucs2_of (after_escape ss) ≡ shown_after pair ss)
        → ucs2_of (if t then after_escape ss else character s ∷ characters_of ss) ≡ (if t then shown_after pair ss else pair (character s) ++ shown_by pair ss)
    by_test true e = e.1
    by_test false e = rw e.0

pub characters_pairs : (ss : List ℕ) → ucs2_of (characters_of ss) ≡ shown_by pair ss
characters_pairs ss = (ucs2_shown_by ss).0

-- at most two octets a septet
pub ucs2_fits : (os : List ℕ) (n : ℕ) → n ≤ 255 → length (ucs2_of (characters_of (septets_in os 0 n))) ≤ 510
ucs2_fits os n h = rw length_ucs2 (omega (arith, characters_fewer (septets_in os 0 n), length_septets os 0 n))

-- octets stored from the start of an array of zeros
pub stored_are : (n : ℕ) {xs array : List ℕ} {at : ℕ} → length xs ≤ n → Wrote 0 xs (replicate n 0) at array → take at array ≡ xs
stored_are n {xs} h w = rw (w.place, w.list, zero-add, sets_zeros n xs h) (take_pad n xs)
