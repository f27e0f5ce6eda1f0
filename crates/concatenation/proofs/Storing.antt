-- A part stored character by character: it is whole where the next character passes 153 septets, or where the text ends.
-- Assumes nothing.
use Rattle.std.specs.Prelude.{Ok}
use Prim.Native.Nat.{ℕ, ◌+◌, ◌-◌, ◌*◌, ◌<◌, ◌≤◌}
use mathlib.Core.Path.{◌≡◌, refl, sym, ◌∙◌, ap, subst}
use mathlib.Core.Bool.{Bool, true, false}
use mathlib.Core.List.{List, [], ◌∷◌, ◌++◌, append-nil, append_assoc}
use mathlib.Core.Option.{Option, none, some}
use native.Mathlib.Omega.{arith}
use borrow.Author.Tests.{eq-eqb, leb-true, leb-false}
use lib.Dec.{leb}
use lib.ListN.{length, get_or, take, drop, length-append}
use lib.Seq.{sets-eq, take_at, length-take-le, get_or_at, get_or-append-add}
use Rattle.octets.specs.Lent.{Wrote}
use Rattle.octets.proofs.Laws.{kept_by}
use Rattle.gsm7.specs.Alphabet.{extension, row}
use Rattle.gsm7.specs.Characters.{Entry, plain, extended, character_of, septets_for}
use Rattle.gsm7.specs.Writing.{code_of, first_character, before, scan}
use Rattle.gsm7.proofs.Tables.{Says, code_says_lem}
use Rattle.gsm7.proofs.Scanning.{first_width, entry_few, scan_end, scan_read}
use Rattle.concatenation.specs.Cutting.{Part, most, parts_of}
use Rattle.concatenation.specs.Internal.{with_rest, PartAt, StoredAs}
use Rattle.concatenation.proofs.Escapes.{extended_code_lem}
use Rattle.concatenation.proofs.Taken.{longest, most_near}
use Rattle.concatenation.proofs.InTurn.{no_parts, parts_next, parts_last}

-- septets p are those of the characters from `from` to `i`
pub record Storing (text : List ℕ) (from : ℕ) (p : List ℕ) (i : ℕ) : Type 0 where
  pub septets : scan (drop from text) 0 ≡ with_rest p (scan (drop i text) 0)
  pub part : Part p
  pub long : (i ≤ from + 3 * length p) × (length p + 2 * from ≤ 2 * i) × (length p + 2 * from ≤ 2 * length text)

pub storing_start : (text : List ℕ) (from : ℕ) → from < length text → Storing text from [] from
storing_start text from h = record { septets = alone (scan (drop from text) 0); part = (omega arith, λ e. omega arith); long = (omega arith, omega arith, omega arith) }
  where
    alone : (o : Option (List ℕ)) → o ≡ with_rest [] o
    alone none = refl
    alone (some ss) = refl

-- ---- the septets of a character

-- the last one is no escape
with_entry : (p : List ℕ) (e : Entry) → length p + length (septets_for e) ≤ 153 → Part (p ++ septets_for e)
with_entry p (plain k h n) room =
    let i : length (p ++ (k ∷ [])) - 1 ≡ length p = rw length-append (omega arith) in
    (rw length-append room, λ q. n (sym (get_or_at p k [] 0 (length p) refl) ∙ rw i at q))
with_entry p (extended place h) room =
    let k = (get_or extension place (row 0 0)).code in
    let i : length (p ++ (0x1b ∷ k ∷ [])) - 1 ≡ length p + 1 = rw length-append (omega arith) in
    (rw length-append room, λ q. extended_code_lem place h (sym (get_or-append-add p (0x1b ∷ k ∷ []) 1 0) ∙ rw i at q))

-- what one part can hold ends before a character that passes 153 septets
before_escape : (p rest : List ℕ) → length p ≡ 152 → length p ≡ most (p ++ (0x1b ∷ rest))
unfolding most
before_escape p rest e = rw (eq-eqb _ _ (get_or_at p 0x1b rest 0 152 e)) e

most_before : (p rest : List ℕ) (e : Entry) → Part p → 153 < length p + length (septets_for e) → length p ≡ most (p ++ (septets_for e ++ rest))
most_before p rest e part over = by_length (leb (length p) 152) refl e over
  where
    by_length : (t : Bool) → leb (length p) 152 ≡ t → (e : Entry) → 153 < length p + length (septets_for e) → length p ≡ most (p ++ (septets_for e ++ rest))
    by_length true q (plain k h n) over = absurd (omega (arith, leb-true (length p) 152 q))
    by_length true q (extended place h) over = before_escape p ((get_or extension place (row 0 0)).code ∷ rest) (omega (arith, leb-true (length p) 152 q))
    by_length false q e over =
        omega (arith, leb-false (length p) 152 q, longest p (septets_for e ++ rest) part, most_near (p ++ (septets_for e ++ rest)))

before_some : (ks : List ℕ) (o : Option (List ℕ)) (rest : List ℕ) → before (Ok ks) o ≡ some rest → (rest' : List ℕ) × (rest ≡ ks ++ rest')
unfolding before
before_some ks none rest e = let z : ◌≡◌ {A = ℕ} 0 1 = cc in absurd (omega arith)
before_some ks (some ss) rest e = (ss, cc)

with_before : (p ks : List ℕ) (o : Option (List ℕ)) → with_rest p (before (Ok ks) o) ≡ with_rest (p ++ ks) o
unfolding before
with_before p ks none = refl
with_before p ks (some ss) = ap some (sym (append_assoc p ks ss))

-- ---- character by character

module _ (text : List ℕ) (from : ℕ) (p : List ℕ) (i : ℕ) (s : Storing text from p i) where
  pub storing_none : scan (drop i text) 0 ≡ none → scan (drop from text) 0 ≡ none
  storing_none e = s.septets ∙ ap (with_rest p) e

  whole : 0 < length p → ((rest : List ℕ) → scan (drop i text) 0 ≡ some rest → parts_of (p ++ rest) ≡ p ∷ parts_of rest) → PartAt text from p i
  whole pos first = record { septets = s.septets; first = first; small = s.part.0; on = omega (arith, s.long); few = (s.long.1, s.long.2) }

  -- the text ends
  part_ended : from < length text → length text ≤ i → PartAt text from p i
  part_ended h l = whole pos (λ rest e. last rest (let q = sym e ∙ scan_end text i l in cc))
    where
      pos : 0 < length p
      pos = omega (arith, s.long)

      last : (rest : List ℕ) → rest ≡ [] → parts_of (p ++ rest) ≡ p ∷ parts_of rest
      last rest e = rw (e, append-nil) (parts_last p pos s.part ∙ ap (λ (l : List (List ℕ)). p ∷ l) (sym no_parts))

  module _ (h : i < length text) {c w : ℕ} (e : first_character (drop i text) ≡ Ok (c, w)) {ks : List ℕ} (is : code_of c ≡ Ok ks) where
    rest_is : scan (drop i text) 0 ≡ before (Ok ks) (scan (drop (i + w) text) 0)
    rest_is = scan_read text i h c w e ∙ rw is

    entry_of : (e : Entry) × (character_of e ≡ c) × (septets_for e ≡ ks)
    entry_of = subst (Says c) is (code_says_lem c)

    -- there is room for one character more
    storing_more : length p + length ks ≤ 153 → Storing text from (p ++ ks) (i + w)
    storing_more room =
        let (en, octets, same) = entry_of in record {
          septets = s.septets ∙ ap (with_rest p) rest_is ∙ with_before p ks (scan (drop (i + w) text) 0);
          part = rw same at (with_entry p en (rw same room));
          long = omega (arith, length-append p ks, rw same at (entry_few en), first_width (drop i text) c w e, s.long);
        }

    -- there is none
    part_full : 153 < length p + length ks → PartAt text from p i
    part_full over = whole pos first
      where
        pos : 0 < length p
        pos = let (en, octets, same) = entry_of in omega (arith, rw same at (entry_few en))

        first : (rest : List ℕ) → scan (drop i text) 0 ≡ some rest → parts_of (p ++ rest) ≡ p ∷ parts_of rest
        first rest q =
            let (rest', r) = before_some ks (scan (drop (i + w) text) 0) rest (sym rest_is ∙ q) in
            let (en, octets, same) = entry_of in
            parts_next p rest pos (rw r (rw same at (most_before p rest' en s.part (rw same over))))

-- ---- in the array

-- the septets so far stand at the array's start
pub record Stores (text : List ℕ) (from : ℕ) (codes : List ℕ) (count i : ℕ) : Type 0 where
  pub array : length codes ≡ 255
  pub room : count ≤ 153
  pub is : Storing text from (take count codes) i

module _ {text : List ℕ} {from : ℕ} {codes : List ℕ} {count i : ℕ} (s : Stores text from codes count i) where
  stored_size : length (take count codes) ≡ count
  stored_size = length-take-le count codes (omega (arith, s.array, s.room))

  pub stores_end : from < length text → length text ≤ i → StoredAs text from codes (Ok (count, i))
  stores_end h l = (part_ended text from (take count codes) i s.is h l, stored_size, s.array)

  module _ (h : i < length text) {c w : ℕ} (e : first_character (drop i text) ≡ Ok (c, w)) {ks : List ℕ} (is : code_of c ≡ Ok ks) where
    pub stores_full : 153 < count + length ks → StoredAs text from codes (Ok (count, i))
    stores_full over = (part_full text from (take count codes) i s.is h e is (rw stored_size over), stored_size, s.array)

    module _ {next : ℕ} {after : List ℕ} (wrote : Wrote count ks codes next after) where
      laid : next ≤ 255 → after ≡ take count codes ++ ks ++ drop next codes
      laid room = let e : count + length ks ≤ length codes = omega (arith, wrote.place, s.array) in wrote.list ∙ sets-eq ks codes count e ∙ rw wrote.place

      pub stores_more : next ≤ 153 → Stores text from after next (i + w)
      stores_more room =
          let size : length (take count codes ++ ks) ≡ next = length-append (take count codes) ks ∙ rw stored_size (sym wrote.place) in
          let front : take next after ≡ take count codes ++ ks = ap (take next) (laid (omega arith)) ∙ take_at (take count codes ++ ks) (drop next codes) next size in
          record {
            array = kept_by wrote ∙ s.array;
            room = room;
            is = rw front (storing_more text from (take count codes) i s.is h e is (rw stored_size (omega (arith, wrote.place))));
          }

      -- septets that were stored after the part are not of it
      pub stores_over : 153 < next → next ≤ 255 → StoredAs text from after (Ok (count, i))
      stores_over over room =
          let front : take count after ≡ take count codes = ap (take count) (laid room ∙ append_assoc (take count codes) ks (drop next codes)) ∙ take_at (take count codes) (ks ++ drop next codes) count stored_size in
          let full = stores_full (omega (arith, wrote.place)) in
          (rw front full.0, rw front full.1, kept_by wrote ∙ s.array)
