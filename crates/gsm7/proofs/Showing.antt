-- Septets written as characters, step by step: what is written so far, and what the septets of a step give.
-- Assumes nothing.
use Prim.Native.Nat.{ℕ, ◌+◌, ◌*◌, ◌<◌, ◌≤◌}
use mathlib.Core.Path.{◌≡◌, refl, sym, ap, ◌∙◌}
use mathlib.Core.Bool.{Bool, true, false, not}
use mathlib.Core.Option.{Option, none, some}
use mathlib.Core.List.{List, ◌++◌, append-nil}
use native.Mathlib.Nat.{add-zero}
use native.Mathlib.Omega.{arith}
use lib.ListN.{length}
use lib.Seq.{sets}
use mir.Val.{bool_byte}
use Rattle.std.specs.Prelude.{unwrap_or, is_some, Option as Maybe}
use Rattle.octets.specs.Lent.{Wrote}
use Rattle.octets.proofs.Laws.{Left, left_start as stored_start, left_step as stored_step, left_end as stored_end, left_fits as stored_fits, kept_by}
use Rattle.septets.specs.Septets.{septets_in, septet_from, septet_at, bit_place, bit_of, place_after, in_window}
use Rattle.septets.specs.declared.BitPlace.{BitPlace}
use Rattle.septets.proofs.BitPlaces.{place_is, septet_after}
use Rattle.gsm7.specs.declared.decode.Extension.{Extension}
use Rattle.gsm7.specs.Alphabet.{extension, row_with, character, character_or, character_of, extension_character, escaped, one_without, replaced as replaced_by}
use Rattle.gsm7.specs.Reading.{replaced_in}
use Rattle.gsm7.specs.Internal.{four_plain, four_characters, written_by, shown_by}
use Rattle.gsm7.proofs.Reading.{rest, rest_done, rest_plain, rest_four, rest_escape, rest_last, rest_start, rest_replaced, replaced_done, replaced_plain, replaced_escape, replaced_last, replaced_start}
use Rattle.gsm7.proofs.TableSizes.{replaced_small}

-- where the characters of n septets after f bits go: from `at` on, in what was `before`
module _ (form : ℕ → List ℕ) (os : List ℕ) (f n at : ℕ) (before : List ℕ) where
  abbrev whole : List ℕ
  whole = shown_by form (septets_in os f n)

  -- those of i septets are written, and the place is that of the next
  pub record Shows (text : List ℕ) (end replaced i : ℕ) (place : BitPlace) : Type 0 where
    pub within : i ≤ n
    pub kept : length text ≡ length before
    pub stored : Left (sets before at whole) (at + length whole) text end (rest form os f n i)
    pub placed : place ≡ bit_place (f + i * 7)
    pub counted : replaced + rest_replaced os f n i ≡ replaced_in (septets_in os f n)
    pub few : replaced ≤ i

  pub shows_start : f < 8 → Shows before at 0 0 (record { octet = 0; shift = f })
  shows_start h =
      record {
        within = omega arith;
        kept = refl;
        stored = rw rest_start (stored_start _ _ _);
        placed = place_is _ _ _ (omega arith) h;
        counted = rw replaced_start (omega arith);
        few = omega arith;
      }

-- what a look-up in the extension table tells of a code that follows an escape
module _ (code : ℕ) {e : Maybe ℕ} (is : e ≡ extension_character code) where
  pub escaped_is : {d c : ℕ} → d ≡ character code → c ≡ unwrap_or e d → c ≡ escaped code
  unfolding escaped extension_character
  escaped_is shown known = known ∙ rw (is, shown) (by_row (row_with (λ (e : Extension). e.code) code extension))
    where
      by_row : (o : Option Extension) → unwrap_or (character_of o) (character code) ≡ character_or (character code) o
      by_row none = refl
      by_row (some e) = refl

  pub replaced_is : (b : Bool) → is_some e ≡ not b → bool_byte b ≡ replaced_by code
  unfolding replaced_by extension_character
  replaced_is b known = by_row (row_with (λ (e : Extension). e.code) code extension) b (rw is at known)
    where
      by_row : (o : Option Extension) (b : Bool) → is_some (character_of o) ≡ not b → bool_byte b ≡ one_without o
      by_row none true p = refl
      by_row none false p = let never : ◌≡◌ {A = ℕ} 0 1 = ap bool_byte p in absurd (omega (arith, never))
      by_row (some e) true p = let never : ◌≡◌ {A = ℕ} 1 0 = ap bool_byte p in absurd (omega (arith, never))
      by_row (some e) false p = refl

-- k septets from septet i on, which give xs, with r escapes replaced
pub record Step (form : ℕ → List ℕ) (os : List ℕ) (f n i : ℕ) (xs : List ℕ) (k r : ℕ) : Type 0 where
  pub gives : rest form os f n i ≡ xs ++ rest form os f n (i + k)
  pub counts : rest_replaced os f n i ≡ r + rest_replaced os f n (i + k)
  pub most : r ≤ k
  pub there : i + k ≤ n

module _ {form : ℕ → List ℕ} {os : List ℕ} {f n at : ℕ} {before text : List ℕ} {end replaced i : ℕ} {place : BitPlace} (s : Shows form os f n at before text end replaced i place) where
  pub step_fits : {xs : List ℕ} {k r : ℕ} → Step form os f n i xs k r → at + length (shown_by form (septets_in os f n)) ≤ length before → end + length xs ≤ length text
  step_fits {xs} {k} {r} t room = stored_fits xs _ s.stored t.gives (omega (arith, s.kept, room))

  pub step_more : {xs : List ℕ} {k r next : ℕ} {after : List ℕ} → Step form os f n i xs k r → Wrote end xs text next after → (replaced' : ℕ) → replaced' ≡ replaced + r
      → (place' : BitPlace) → place' ≡ bit_place (f + (i + k) * 7) → Shows form os f n at before after next replaced' (i + k) place'
  step_more {xs} {k} {r} {next} {after} t w replaced' e place' p =
      record {
        within = t.there;
        kept = kept_by w ∙ s.kept;
        stored = stored_step _ s.stored w t.gives;
        placed = p;
        counted = omega (arith, e, s.counted, t.counts);
        few = omega (arith, e, s.few, t.most);
      }

  pub shows_end : n ≤ i → Wrote at (shown_by form (septets_in os f n)) before end text × (replaced ≡ replaced_in (septets_in os f n))
  shows_end h =
      let done = stored_end s.stored (rest_done os f n i form h) in
      (record { place = done.0; list = done.1 }, omega (arith, s.counted, replaced_done os f n i h))

  -- a window is read at the place
  module _ (w : ℕ) (reads : (k : ℕ) → k < 8 → in_window w k ≡ septet_from os (bit_of (place_after place k))) where
    windowed : (k : ℕ) → k < 8 → in_window w k ≡ septet_at os f (i + k)
    windowed k h = septet_after f i s.placed os k (reads k h)

    first : in_window w 0 ≡ septet_at os f i
    first = rw add-zero at (windowed 0 (omega arith))

    pub step_plain : {code : ℕ} → code ≡ in_window w 0 → i < n → (code ≡ 0x1b → ⊥) → Step form os f n i (form (character code)) 1 0
    step_plain is h p =
        let here = is ∙ first in
        record { gives = rest_plain os f n i here h p form; counts = omega (arith, replaced_plain os f n i here h p); most = omega arith; there = omega arith }

    pub step_four : i + 4 ≤ n → four_plain w ≡ true → Step form os f n i (written_by form (four_characters w)) 4 0
    step_four h p = let four = rest_four form os f n i w windowed h p in record { gives = four.0; counts = omega (arith, four.1); most = omega arith; there = h }

    pub step_escape : {code next c r : ℕ} → code ≡ in_window w 0 → next ≡ in_window w 1 → c ≡ escaped next → r ≡ replaced_by next
        → i < n → (i + 1 ≡ n → ⊥) → code ≡ 0x1b → Step form os f n i (form c) 2 r
    step_escape {code} {next} is that shown one h more p =
        let here = is ∙ first in
        let there = that ∙ windowed 1 (omega arith) in
        record {
          gives = rest_escape os f n i here (omega (arith, more)) p there form shown;
          counts = replaced_escape os f n i here (omega (arith, more)) p there one;
          most = omega (arith, one, replaced_small next);
          there = omega (arith, more);
        }

    pub step_last : {code : ℕ} → code ≡ in_window w 0 → i + 1 ≡ n → code ≡ 0x1b → Step form os f n i (form 0x20) 1 1
    step_last is h p =
        let here = is ∙ first in
        let none = rest_done os f n (i + 1) form (omega arith) in
        record {
          gives = rest_last os f n i here h p form ∙ sym (rw none (append-nil _));
          counts = omega (arith, replaced_last os f n i here h p, replaced_done os f n (i + 1) (omega arith));
          most = omega arith;
          there = omega arith;
        }
