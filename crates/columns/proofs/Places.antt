-- Where the octets of a string stand in the columns.
-- Assumes nothing.
use Prim.Native.Nat.{ℕ, zero, suc, ◌+◌, ◌-◌, ◌<◌, ◌≤◌}
use mathlib.Core.Path.{◌≡◌, refl, sym, ◌∙◌, ap, ap₂}
use mathlib.Core.Bool.{Bool, true, false}
use mathlib.Core.List.{List, [], ◌∷◌}
use mathlib.Core.Logic.{◌⊎◌, inl, inr, ⊎_elim}
use native.Mathlib.Omega.{arith}
use native.Mathlib.Nat.{not-suc-le-zero, zero-add, add_assoc}
use borrow.Author.Tests.{lt-ltb, le-ltb, ltb-true, ltb-false}
use lib.Dec.{ltb}
use lib.ListN.{length, get_or, take, drop, length-drop, length-map}
use lib.Seq.{get_or-drop, get_or-take, take_all}
use Rattle.std.specs.Prelude.{if◌then◌else◌}
use Rattle.columns.specs.Blocks.{strings_in, lengths, sum, columns, going, fronted, dealt}
use Rattle.columns.specs.Internal.{has, longer_than, start_of, place_of, Raised, SummedUp, Starts}
use Rattle.columns.proofs.Columns.{AtMost, less, at_most_less, sum_less, length_columns, dealt_columns, columns_dealt}
use Rattle.columns.proofs.Laws.{lengths_in}

-- ---- how many octets a column has

pub has_cases : (k n : ℕ) → ((k < n) × (has k n ≡ 1)) ⊎ ((n ≤ k) × (has k n ≡ 0))
has_cases k n = by_test (ltb k n) refl
  where
    by_test : (t : Bool) → ltb k n ≡ t → ((k < n) × (◌≡◌ {A = ℕ} (if t then 1 else 0) 1)) ⊎ ((n ≤ k) × (◌≡◌ {A = ℕ} (if t then 1 else 0) 0))
    by_test true e = inl (ltb-true k n e, refl)
    by_test false e = inr (ltb-false k n e, refl)

pub has_one : (k n : ℕ) → k < n → has k n ≡ 1
has_one k n h = rw (lt-ltb k n h)

pub has_none : (k n : ℕ) → n ≤ k → has k n ≡ 0
has_none k n h = rw (le-ltb k n h)

pub has_next : (j k : ℕ) → (j ≡ k → ⊥) → has j (k + 1) ≡ has j k
has_next j k d = ⊎_elim (λ h. has_one j (k + 1) (omega (arith, h.0)) ∙ sym h.1) (λ h. has_none j (k + 1) (later h.0) ∙ sym h.1) (has_cases j k)
  where
    later : k ≤ j → k + 1 ≤ j
    later h = omega (arith, d)

has_less : (k n : ℕ) → has (suc k) n ≡ has k (n - 1)
has_less k n = ⊎_elim (λ h. omega (arith, h.0, h.1, has_one k (n - 1) (omega (arith, h.0)))) (λ h. omega (arith, h.0, h.1, has_none k (n - 1) (omega (arith, h.0)))) (has_cases (suc k) n)

going_longer : (ns : List ℕ) → going ns ≡ longer_than 0 ns
unfolding going longer_than
going_longer [] = refl
going_longer (zero ∷ ns) = omega (arith, has_none 0 0 (omega arith), going_longer ns)
going_longer (suc n ∷ ns) = omega (arith, has_one 0 (suc n) (omega arith), going_longer ns)

longer_less : (k : ℕ) (ns : List ℕ) → longer_than (suc k) ns ≡ longer_than k (less ns)
unfolding longer_than
longer_less k [] = refl
longer_less k (n ∷ ns) = ap₂ ◌+◌ (has_less k n) (longer_less k ns)

-- of the first strings, and of one more
longer_take : (k i : ℕ) (ns : List ℕ) → longer_than k (take i ns) ≤ longer_than k ns
unfolding longer_than
longer_take k zero ns = omega arith
longer_take k (suc i) [] = omega arith
longer_take k (suc i) (n ∷ ns) = omega (arith, longer_take k i ns)

longer_few : (k : ℕ) (ns : List ℕ) → longer_than k ns ≤ length ns
unfolding longer_than
longer_few k [] = omega arith
longer_few k (n ∷ ns) = ⊎_elim (λ h. omega (arith, h.1, longer_few k ns)) (λ h. omega (arith, h.1, longer_few k ns)) (has_cases k n)

-- at most as many as there are strings
pub longer_within : (k i : ℕ) (ns : List ℕ) → longer_than k (take i ns) ≤ length ns
longer_within k i ns = omega (arith, longer_take k i ns, longer_few k ns)

pub longer_next : (k i : ℕ) (ns : List ℕ) → i < length ns → longer_than k (take (suc i) ns) ≡ longer_than k (take i ns) + has k (get_or ns i 0)
unfolding longer_than
longer_next k i [] h = absurd (not-suc-le-zero h)
longer_next k zero (n ∷ ns) h = omega arith
longer_next k (suc i) (n ∷ ns) h = omega (arith, longer_next k i ns (omega arith))

-- ---- where columns start

pub start_first : (ns : List ℕ) → start_of 0 ns ≡ 0
unfolding start_of
start_first ns = refl

pub start_next : (k : ℕ) (ns : List ℕ) → start_of (suc k) ns ≡ start_of k ns + longer_than k ns
unfolding start_of
start_next k ns = refl

start_less : (k : ℕ) (ns : List ℕ) → start_of (suc k) ns ≡ going ns + start_of k (less ns)
start_less zero ns = omega (arith, start_next 0 ns, start_first ns, start_first (less ns), going_longer ns)
start_less (suc k) ns = omega (arith, start_next (suc k) ns, start_less k ns, longer_less k ns, start_next k (less ns))

pub start_within : (k : ℕ) (ns : List ℕ) → start_of k ns ≤ sum ns
start_within zero ns = omega (arith, start_first ns)
start_within (suc k) ns = omega (arith, start_less k ns, sum_less ns, start_within k (less ns))

-- the last column ends where the octets do
pub start_all : (k : ℕ) (ns : List ℕ) → AtMost k ns → start_of k ns ≡ sum ns
unfolding sum
start_all zero [] h = start_first []
start_all zero (n ∷ ns) h = omega (arith, h.0, start_first (n ∷ ns), start_first ns, start_all zero ns h.1)
start_all (suc k) ns h = omega (arith, start_less k ns, sum_less ns, start_all k (less ns) (at_most_less k ns h))

-- ---- where an octet stands

module _ (ns : List ℕ) (i k : ℕ) (l : i < length ns) where
  pub place_next : place_of ns (suc i) k ≡ place_of ns i k + has k (get_or ns i 0)
  place_next = omega (arith, longer_next k i ns l)

  pub place_before : k < get_or ns i 0 → place_of ns i k < start_of (suc k) ns
  place_before h = omega (arith, start_next k ns, longer_next k i ns l, longer_take k (suc i) ns, has_one k (get_or ns i 0) h)

  pub place_inside : k < get_or ns i 0 → place_of ns i k < sum ns
  place_inside h = omega (arith, place_before h, start_within (suc k) ns)

-- before the first string, and after the last
module _ (ns : List ℕ) (k : ℕ) where
  pub place_first : place_of ns 0 k ≡ start_of k ns
  unfolding longer_than
  place_first = omega arith

  pub place_last : (i : ℕ) → length ns ≤ i → place_of ns i k ≡ start_of (suc k) ns
  place_last i h = rw (take_all i ns h) (sym (start_next k ns))

take_less : (i : ℕ) (ns : List ℕ) → take i (less ns) ≡ less (take i ns)
take_less zero ns = refl
take_less (suc i) [] = refl
take_less (suc i) (n ∷ ns) = ap (λ (l : List ℕ). (n - 1) ∷ l) (take_less i ns)

-- ---- the octet there

-- the first octet of string i, and the later ones
module _ where
  front_first : (ns os : List ℕ) (ss : List (List ℕ)) → length ss ≡ length ns → going ns ≤ length os → (i : ℕ) → i < length ns → 0 < get_or ns i 0
      → get_or (get_or (fronted ns os ss) i []) 0 0 ≡ get_or os (longer_than 0 (take i ns)) 0
  unfolding fronted going longer_than
  front_first [] os ss e g i h p = absurd (not-suc-le-zero h)
  front_first (n ∷ ns) os [] e g i h p = absurd (omega arith)
  front_first (zero ∷ ns) os (s ∷ ss) e g zero h p = absurd (not-suc-le-zero p)
  front_first (zero ∷ ns) os (s ∷ ss) e g (suc i) h p = rw (has_none 0 0 (omega arith), zero-add) (front_first ns os ss (omega arith) g i (omega arith) p)
  front_first (suc n ∷ ns) [] (s ∷ ss) e g i h p = absurd (omega arith)
  front_first (suc n ∷ ns) (o ∷ os) (s ∷ ss) e g zero h p = refl
  front_first (suc n ∷ ns) (o ∷ os) (s ∷ ss) e g (suc i) h p =
      let one : has 0 (suc n) + longer_than 0 (take i ns) ≡ suc (longer_than 0 (take i ns)) = omega (arith, has_one 0 (suc n) (omega arith)) in
      rw one (front_first ns os ss (omega arith) (omega arith) i (omega arith) p)

  front_later : (ns os : List ℕ) (ss : List (List ℕ)) → length ss ≡ length ns → going ns ≤ length os → (i j : ℕ) → i < length ns → 0 < get_or ns i 0
      → get_or (get_or (fronted ns os ss) i []) (suc j) 0 ≡ get_or (get_or ss i []) j 0
  unfolding fronted going
  front_later [] os ss e g i j h p = absurd (not-suc-le-zero h)
  front_later (n ∷ ns) os [] e g i j h p = absurd (omega arith)
  front_later (zero ∷ ns) os (s ∷ ss) e g zero j h p = absurd (not-suc-le-zero p)
  front_later (zero ∷ ns) os (s ∷ ss) e g (suc i) j h p = front_later ns os ss (omega arith) g i j (omega arith) p
  front_later (suc n ∷ ns) [] (s ∷ ss) e g i j h p = absurd (omega arith)
  front_later (suc n ∷ ns) (o ∷ os) (s ∷ ss) e g zero j h p = refl
  front_later (suc n ∷ ns) (o ∷ os) (s ∷ ss) e g (suc i) j h p = front_later ns os ss (omega arith) (omega arith) i j (omega arith) p

pub at_most_at : (k : ℕ) (ns : List ℕ) → AtMost k ns → (i : ℕ) → get_or ns i 0 ≤ k
at_most_at k [] h i = omega arith
at_most_at k (n ∷ ns) h zero = h.0
at_most_at k (n ∷ ns) h (suc i) = at_most_at k ns h.1 i

get_d_less : (ns : List ℕ) (i : ℕ) → get_or (less ns) i 0 ≡ get_or ns i 0 - 1
get_d_less [] i = refl
get_d_less (n ∷ ns) zero = refl
get_d_less (n ∷ ns) (suc i) = get_d_less ns i

-- strings that are read from columns
pub octet_at_place : (k : ℕ) (ns os : List ℕ) → AtMost k ns → length os ≡ sum ns → (i j : ℕ) → i < length ns → j < get_or ns i 0
    → get_or (get_or (dealt k ns os) i []) j 0 ≡ get_or os (place_of ns i j) 0
unfolding dealt
octet_at_place zero ns os h e i j l p = absurd (omega (arith, at_most_at 0 ns h i))
octet_at_place (suc k) ns os h e i j l p =
    let left : length (drop (going ns) os) ≡ sum (less ns) = length-drop (going ns) os ∙ omega (arith, sum_less ns) in
    by_octet j p left (λ j' p'. octet_at_place k (less ns) (drop (going ns) os) (at_most_less k ns h) left i j' (rw length-map l) p')
  where
    rest : List (List ℕ)
    rest = dealt k (less ns) (drop (going ns) os)

    size : length rest ≡ length ns
    size = sym (length-map rest length) ∙ ap length (columns_dealt k (less ns) (drop (going ns) os) (at_most_less k ns h) (length-drop (going ns) os ∙ omega (arith, sum_less ns))).1 ∙ length-map ns (λ n. n - 1)

    place : (j : ℕ) → going ns + place_of (less ns) i j ≡ place_of ns i (suc j)
    place j = rw (start_less j ns, longer_less j (take i ns), take_less i ns) (sym (add_assoc _ _ _))

    by_octet : (j : ℕ) → j < get_or ns i 0 → length (drop (going ns) os) ≡ sum (less ns) → ((j : ℕ) → j < get_or (less ns) i 0 → get_or (get_or rest i []) j 0 ≡ get_or (drop (going ns) os) (place_of (less ns) i j) 0)
        → get_or (get_or (fronted ns os rest) i []) j 0 ≡ get_or os (place_of ns i j) 0
    by_octet zero p left ih = front_first ns os rest size (omega (arith, sum_less ns)) i l p ∙ rw (start_first ns) (ap (λ (k : ℕ). get_or os k 0) (sym (zero-add _)))
    by_octet (suc j) p left ih =
        let under : j < get_or (less ns) i 0 = rw get_d_less (omega arith) in
        front_later ns os rest size (omega (arith, sum_less ns)) i j l (omega arith) ∙ ih j under ∙ get_or-drop (going ns) os (place_of (less ns) i j) 0
        ∙ ap (λ (k : ℕ). get_or os k 0) (place j)

-- columns of strings that lie end to end
octet_in : (ns os : List ℕ) (i j : ℕ) → i < length ns → j < get_or ns i 0 → get_or (get_or (strings_in ns os) i []) j 0 ≡ get_or os (sum (take i ns) + j) 0
unfolding strings_in sum
octet_in [] os i j l p = absurd (not-suc-le-zero l)
octet_in (n ∷ ns) os zero j l p = rw (zero-add, get_or-take n os j 0 p)
octet_in (n ∷ ns) os (suc i) j l p = octet_in ns (drop n os) i j (omega arith) p ∙ rw (get_or-drop, add_assoc)

pub column_octet : (k : ℕ) (ns os : List ℕ) → AtMost k ns → sum ns ≤ length os → (i j : ℕ) → i < length ns → j < get_or ns i 0
    → get_or (columns k (strings_in ns os)) (place_of ns i j) 0 ≡ get_or os (sum (take i ns) + j) 0
column_octet k ns os h e i j l p =
    let ss = strings_in ns os in
    let en = lengths_in ns os e in
    let m : AtMost k (lengths ss) = rw en h in
    let there : get_or (get_or (dealt k (lengths ss) (columns k ss)) i []) j 0 ≡ get_or (columns k ss) (place_of (lengths ss) i j) 0 =
    octet_at_place k (lengths ss) (columns k ss) m (length_columns k ss m) i j (rw en l) (rw en p) in
    sym (rw (dealt_columns k ss m, en) at there) ∙ octet_in ns os i j l p

-- ---- the places that the code holds

-- counts of all columns, added up
pub sum_next : (k : ℕ) (xs : List ℕ) → sum (take (suc k) xs) ≡ sum (take k xs) + get_or xs k 0
unfolding sum
sum_next k [] = rw (take_none k) (omega arith)
  where
    take_none : (k : ℕ) → take {A = ℕ} k [] ≡ []
    take_none zero = refl
    take_none (suc k) = refl
sum_next zero (x ∷ xs) = omega arith
sum_next (suc k) (x ∷ xs) = omega (arith, sum_next k xs)

pub sum_take : (k : ℕ) (xs : List ℕ) → sum (take k xs) ≤ sum xs
unfolding sum
sum_take zero xs = omega arith
sum_take (suc k) [] = omega arith
sum_take (suc k) (x ∷ xs) = omega (arith, sum_take k xs)

module _ (ns counts : List ℕ) (each : (k : ℕ) → get_or counts k 0 ≡ longer_than k ns) where
  sum_counts : (k : ℕ) → sum (take k counts) ≡ start_of k ns
  unfolding sum
  sum_counts zero = sym (start_first ns)
  sum_counts (suc k) = omega (arith, sum_next k counts, sum_counts k, each k, start_next k ns)

  pub counts_within : length counts ≡ 255 → sum counts ≤ sum ns
  counts_within e = omega (arith, ap sum (sym (take_all 255 counts (omega arith))), sum_counts 255, start_within 255 ns)

  pub starts_first : {body : ℕ} {places : List ℕ} → SummedUp body counts places → Starts ns body 0 places
  starts_first {body} s = record { size = s.size; each = λ k h. omega (arith, s.each k h, sum_counts k, place_first ns k) }

-- one string more
pub starts_next : {ns places after : List ℕ} {body i : ℕ} → Starts ns body i places → i < length ns → Raised (get_or ns i 0) places after → Starts ns body (suc i) after
starts_next {ns} {i = i} s l r = record { size = r.size; each = λ k h. omega (arith, r.each k, s.each k h, place_next ns i k l) }
