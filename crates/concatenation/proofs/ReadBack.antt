-- What was written reads back: the octets taken apart at every 141st, and each message read, give the text.
-- Assumes nothing.
use Prim.Native.Nat.{ℕ, zero, suc, ◌+◌, ◌-◌, ◌*◌, ◌<◌, ◌≤◌}
use mathlib.Core.Path.{◌≡◌, refl, sym, ◌∙◌, ap}
use mathlib.Core.Bool.{Bool, true, false}
use mathlib.Core.List.{List, [], ◌∷◌, ◌++◌, append-nil}
use mathlib.Core.Option.{some}
use mathlib.Core.Logic.{◌⊎◌, inl, inr}
use native.Mathlib.Omega.{arith}
use native.Mathlib.Nat.{add-zero}
use lib.Dec.{leb}
use lib.ListN.{length, get_or, take, drop}
use lib.Seq.{take_at, take_all, drop-append-add}
use Rattle.std.specs.Prelude.{if◌then◌else◌, Ok, Err}
use Rattle.octets.specs.Answers.{Said}
use Rattle.octets.specs.Lent.{Making, refused, made, lend}
use Rattle.octets.specs.declared.Refusal.TheVariants.{OutputTooShort}
use Rattle.octets.proofs.Checks.{never}
use Rattle.octets.proofs.Places.{given}
use Rattle.gsm7.specs.Reading.{text_of, text_given}
use Rattle.gsm7.specs.Writing.{septets_of}
use Rattle.gsm7.specs.Packing.{octets_after}
use Rattle.gsm7.proofs.PackingCases.{packing_done}
use Rattle.gsm7.proofs.PackingLaws.{packed_reads as plain-reads}
use Rattle.user_data_header.specs.Header.{header_given, packing_with_header}
use Rattle.user_data_header.proofs.Inverse.{packed_reads}
use Rattle.concatenation.specs.Cutting.{Parts, parts_of}
use Rattle.concatenation.specs.Messages.{message, part_header, numbered, sent_as, concatenating}
use Rattle.concatenation.specs.declared.Concatenated.{Concatenated}
use Rattle.concatenation.specs.Received.{message_at, read, read_with_header, Received}
use Rattle.concatenation.proofs.Taken.{text_taken}
use Rattle.concatenation.proofs.Texts.{Texts, cut_texts}
use Rattle.concatenation.proofs.Sizes.{Full, parts_full, full_size, under_size, parts_under, one_size}
use Rattle.concatenation.proofs.Laws.{Case, uncoded, one, many, parts, case}

-- ---- one message at a time

-- with no header it reads as the text
one_reads : (text ss : List ℕ) → septets_of text ≡ some ss → length ss ≤ 160 → read (message [] ss) ≡ Ok (text_given text 0)
one_reads text ss e h = plain-reads text (octets_after [] ss) _ (packing_done [] text ss e (omega arith))

-- a part reads as its header and its text
part_reads : (reference total number : ℕ) (p : List ℕ) → septets_of (text_of p) ≡ some p → length p ≤ 153
    → read_with_header (message (part_header reference total number) p) ≡ Ok (header_given (part_header reference total number) (text_of p) 0)
unfolding packing_with_header
part_reads reference total number p e h =
    let header = part_header reference total number in
    let xs = octets_after header p in
    packed_reads header (text_of p) xs _ (packing_done header (text_of p) p e (omega arith))

-- ---- part k starts at octet 141 (k - 1)

first_141 : (m rest : List ℕ) → length m ≤ 141 → (length m ≡ 141) ⊎ (rest ≡ []) → take 141 (m ++ rest) ≡ m
first_141 m rest h (inl e) = take_at m rest 141 e
first_141 m rest h (inr e) = rw (e, append-nil) (take_all 141 m h)

next_141 : (m rest : List ℕ) (j : ℕ) → length m ≡ 141 → drop (141 * suc j) (m ++ rest) ≡ drop (141 * j) rest
next_141 m rest j e =
    let i : 141 * suc j ≡ length m + 141 * j = omega arith in
    rw i (drop-append-add m rest (141 * j))

module _ (reference total : ℕ) where
  place : (n : ℕ) (ps : List (List ℕ)) → Parts ps → Full ps → (j : ℕ) → j < length ps
      → take 141 (drop (141 * j) (numbered reference total n ps)) ≡ message (part_header reference total (n + j)) (get_or ps j [])
  unfolding numbered
  place n [] h f j l = absurd (omega arith)
  place n (p ∷ ps) h f zero l =
      first_141 (message (part_header reference total n) p) (numbered reference total (n + 1) ps) (under_size reference total n p h.0.0) (full ps f.0)
      ∙ ap (λ (number : ℕ). message (part_header reference total number) p) (sym (add-zero n))
    where
      full : (ps : List (List ℕ)) → (0 < length ps → 152 ≤ length p) → (length (message (part_header reference total n) p) ≡ 141) ⊎ (numbered reference total (n + 1) ps ≡ [])
      full [] g = inr refl
      full (q ∷ ps) g = inl (full_size reference total n p (g (omega arith)) h.0.0)
  place n (p ∷ ps) h f (suc j) l =
      let number : n + 1 + j ≡ n + suc j = omega arith in
      ap (take 141) (next_141 (message (part_header reference total n) p) (numbered reference total (n + 1) ps) j (full_size reference total n p (f.0 (omega arith)) h.0.0))
      ∙ place (n + 1) ps h.1 f.1 j (omega arith) ∙ ap (λ (number : ℕ). message (part_header reference total number) (get_or ps j [])) number

  pub part_at : (ps : List (List ℕ)) → Parts ps → Full ps → (k : ℕ) → 1 ≤ k → k ≤ length ps
      → message_at (numbered reference total 1 ps) k ≡ message (part_header reference total k) (get_or ps (k - 1) [])
  part_at ps h f k low high =
      let number : 1 + (k - 1) ≡ k = omega arith in
      place 1 ps h f (k - 1) (omega arith) ∙ ap (λ (n : ℕ). message (part_header reference total n) (get_or ps (k - 1) [])) number

-- ---- all of them

part_of : (ps : List (List ℕ)) → Parts ps → (j : ℕ) → length (get_or ps j []) ≤ 153
part_of [] h j = omega arith
part_of (p ∷ ps) h zero = h.0.0
part_of (p ∷ ps) h (suc j) = part_of ps h.1 j

text_of_lem : (ps : List (List ℕ)) → Texts ps → (j : ℕ) → j < length ps → septets_of (text_of (get_or ps j [])) ≡ some (get_or ps j [])
text_of_lem [] t j l = absurd (omega arith)
text_of_lem (p ∷ ps) t zero l = t.0
text_of_lem (p ∷ ps) t (suc j) l = text_of_lem ps t.1 j (omega arith)

module _ (reference : ℕ) (text ss : List ℕ) (e : septets_of text ≡ some ss) where
  one_received : length ss ≤ 160 → Received reference text (message [] ss) 1
  one_received h = record {
    septets = (ss, e);
    size = omega (arith, one_size ss);
    how = inl (record { few = h; one = refl; is = refl; reads = one_reads text ss e h });
  }

  parts_received : 160 < length ss → length (parts_of ss) ≤ 255 → Received reference text (numbered reference (length (parts_of ss)) 1 (parts_of ss)) (length (parts_of ss))
  parts_received long h =
      let t = text_taken text ss e in
      let parts = t.cutting.parts in
      let texts = cut_texts text ss e (parts_of ss) t.cutting in
      let total = length (parts_of ss) in
      let own : (k : ℕ) → 1 ≤ k → k ≤ length (parts_of ss) → septets_of (text_of (get_or (parts_of ss) (k - 1) [])) ≡ some (get_or (parts_of ss) (k - 1) []) = λ k low high. text_of_lem (parts_of ss) texts.0 (k - 1) (omega arith) in
      record {
        septets = (ss, e);
        size = omega (arith, parts_under reference total 1 (parts_of ss) parts);
        how = inr (record {
          many = long;
          parts = parts_of ss;
          taken = t;
          number = (refl, h);
          is = part_at reference total (parts_of ss) parts (parts_full ss);
          reads = λ k low high.
              ap read_with_header (part_at reference total (parts_of ss) parts (parts_full ss) k low high)
              ∙ part_reads reference total k (get_or (parts_of ss) (k - 1) []) (own k low high) (part_of (parts_of ss) parts (k - 1));
          own = own;
          whole = texts.1;
        });
      }

-- ---- over the octets that were written to a lent buffer

-- where counts are answered, octets were made, and stand at the buffer's start
lent_octets : {A : Type 0} (m : Making A) (buffer : List ℕ) {a : A} {after : List ℕ} → ◌≡◌ {A = Said A × List ℕ} (Ok a, after) (lend m buffer)
    → (xs : List ℕ) × (m ≡ made xs a) × (after ≡ xs ++ drop (length xs) buffer)
unfolding lend
lent_octets {A} (refused why) buffer p = absurd (never (ap (λ (x : Said A × List ℕ). x.0) p))
lent_octets {A} (made xs b) buffer {a} {after} p = by_room (leb (length xs) (length buffer)) p
  where
    by_room : (t : Bool) → ◌≡◌ {A = Said A × List ℕ} (Ok a, after) (if t then (Ok b, xs ++ drop (length xs) buffer) else (Err OutputTooShort, buffer))
        → (ys : List ℕ) × (made xs b ≡ made ys a) × (after ≡ ys ++ drop (length ys) buffer)
    by_room true q = (xs, ap (λ (x : A). made xs x) (sym (given (ap (λ (x : Said A × List ℕ). x.0) q))), ap (λ (x : Said A × List ℕ). x.1) q)
    by_room false q = absurd (never (ap (λ (x : Said A × List ℕ). x.0) q))

-- the octets that `pack_gsm7_concatenated` wrote are as many as it answers, and reading them gives the text
module _ (reference : ℕ) (text buffer : List ℕ) {told : Concatenated} {after : List ℕ} (p : ◌≡◌ {A = Said Concatenated × List ℕ} (Ok told, after) (lend (concatenating reference text) buffer)) where
  abbrev Back : Type 0
  Back = (length (take told.octets after) ≡ told.octets) × Received reference text (take told.octets after) told.messages

  written : (xs : List ℕ) × (concatenating reference text ≡ made xs told) × (after ≡ xs ++ drop (length xs) buffer)
  written = lent_octets (concatenating reference text) buffer p

  as_told : (xs : List ℕ) (n : ℕ) → concatenating reference text ≡ made xs (sent_as xs n) → Received reference text xs n → Back
  as_told xs n m r =
      let is : told ≡ sent_as xs n = let w = written.1 in cc in
      let long : told.octets ≡ length xs = ap (λ (c : Concatenated). c.octets) is in
      let number : told.messages ≡ n = ap (λ (c : Concatenated). c.messages) is in
      let same : written.0 ≡ xs = let w = written.1 in cc in
      let front : take told.octets after ≡ xs = rw (long, written.2, same) (take_at xs (drop (length xs) buffer) (length xs) refl) in
      (rw (front, long), rw (front, number) r)

  pub received : Back
  received = by (case reference text)
    where
      by : Case reference text → Back
      by (uncoded e m) = let w = written.1 in let z : ◌≡◌ {A = ℕ} 0 1 = cc in absurd (omega arith)
      by (one ss e h m) = as_told (message [] ss) 1 m (one_received reference text ss e h)
      by (many ss e h m) = let w = written.1 in let z : ◌≡◌ {A = ℕ} 0 1 = cc in absurd (omega arith)
      by (parts ss e l h m) = as_told (numbered reference (length (parts_of ss)) 1 (parts_of ss)) (length (parts_of ss)) m (parts_received reference text ss e l h)
