-- The writer's loops: octets of each identifier counted and summed up, and elements put where those of their identifier go on.
-- Assumes nothing.
use Prim.Native.Nat.{ℕ, zero, suc, ◌+◌, ◌*◌, ◌≤◌, ◌<◌}
use mathlib.Core.Path.{◌≡◌, refl, sym, ap, ◌∙◌}
use mathlib.Core.Bool.{Bool, true, false}
use mathlib.Core.List.{List, [], ◌∷◌, ◌++◌}
use native.Mathlib.Nat.{zero-add, le_refl}
use native.Mathlib.Numerals.{add-one}
use native.Mathlib.Omega.{arith}
use borrow.Author.Tests.{eqb-true, eqb-false, eq-eqb, ne_eqb, leb-true, leb-false}
use lib.Dec.{eqb, leb}
use lib.ListN.{length, get_or, set, take, drop, replicate, length-append, length-drop, length-set, get_or-replicate}
use lib.Seq.{sets, length-take-le, take_all}
use Rattle.std.specs.Prelude.{if◌then◌else◌}
use Rattle.std.specs.List.{sum}
use Rattle.std.proofs.lemmas.List.{nil_from_length, set_comm, get_or-set_same, get_or-set_other}
use Rattle.std.proofs.lemmas.List.Sums.{sum_by-cons, sum_by_more, sum_by-take-le}
use Rattle.octets.specs.Each.{Octets}
use Rattle.octets.specs.Lent.{Wrote}
use Rattle.octets.proofs.Laws.{sets_append, sets_full, kept_by}
use Rattle.header_elements.specs.Elements.{Element, element, joined}
use Rattle.header_elements.specs.Order.{having, below, ordered}
use Rattle.header_elements.specs.Record.{elements_with, total}
use Rattle.header_elements.specs.Internal.{octets_with, Counted, SummedUp}
use Rattle.header_elements.proofs.Order.{having_one, having_not, joined_append}

-- ---- the lengths added up

pub total_sum : (ns : List ℕ) → total ns ≡ sum ns
unfolding total
total_sum [] = refl
total_sum (n ∷ ns) = rw (total_sum ns) (sym (sum_by-cons (λ x. x) n ns))

-- ---- a number stored: what holds of every place

at_each : (P : ℕ → ℕ → Type 0) (xs : List ℕ) (k x : ℕ) → k < length xs → P k x → ((i : ℕ) → (i ≡ k → ⊥) → P i (get_or xs i 0)) → (i : ℕ) → P i (get_or (set xs k x) i 0)
at_each P xs k x h here others i = by (eqb i k) refl
  where
    by : (t : Bool) → eqb i k ≡ t → P i (get_or (set xs k x) i 0)
    by true t = rw (eqb-true i k t, get_or-set_same xs k x 0 h) here
    by false t = let ne = eqb-false i k t in rw (get_or-set_other xs k i x 0 ne) (others i ne)

-- ---- octets counted

module _ (i : ℕ) where
  -- no more than those of all
  octets_within : (is ns : List ℕ) → octets_with i is ns ≤ 2 * length ns + total ns
  unfolding octets_with total
  octets_within [] ns = omega arith
  octets_within (k ∷ is) [] = omega arith
  octets_within (k ∷ is) (n ∷ ns) = by (octets_within is ns) (eqb k i)
    where
      by : octets_with i is ns ≤ 2 * length ns + total ns → (t : Bool) → (if t then 2 + n else 0) + octets_with i is ns ≤ 2 * suc (length ns) + (n + total ns)
      by h true = omega arith
      by h false = omega arith

  -- they are those of the elements
  octets_are : (is ns s : List ℕ) → length ns ≡ length is → total ns ≤ length s → octets_with i is ns ≡ length (joined (having i (elements_with is ns s)))
  unfolding octets_with elements_with having joined total
  octets_are [] ns s same h = refl
  octets_are (k ∷ is) [] s same h = absurd (omega arith)
  octets_are (k ∷ is) (n ∷ ns) s same h =
      by (octets_are is ns (drop n s) (omega arith) (rw length-drop (omega arith))) (eqb k i)
    where
      by : octets_with i is ns ≡ length (joined (having i (elements_with is ns (drop n s)))) → (t : Bool)
          → (if t then 2 + n else 0) + octets_with i is ns
          ≡ length (joined (if t then element k (take n s) ∷ having i (elements_with is ns (drop n s)) else having i (elements_with is ns (drop n s))))
      by e true = rw (length-append, length-take-le n s (omega arith), e) (omega arith)
      by e false = rw (e, zero-add)

-- the octets of those that are left are still to be counted
pub record Counting (is ns is' ns' counts : List ℕ) : Type 0 where
  pub each : (i : ℕ) → i < 256 → get_or counts i 0 + octets_with i is' ns' ≡ octets_with i is ns
  pub size : length counts ≡ 256
  pub same : length ns' ≡ length is'
  pub octets : Octets is'

module _ {is ns : List ℕ} where
  pub counting_start : {is' ns' : List ℕ} → is' ≡ is → ns' ≡ ns → length ns ≡ length is → Octets is → Counting is ns is' ns' (replicate 256 0)
  counting_start e f same octets = record { each = λ i h. rw (get_or-replicate {A = ℕ} 256 i 0 0 h, zero-add, e, f); size = refl; same = rw (e, f) same; octets = rw e octets }

  module _ {is' ns' counts : List ℕ} (c : Counting is ns is' ns' counts) where
    module _ {k n : ℕ} {is'' ns'' : List ℕ} (e : is' ≡ k ∷ is'') (f : ns' ≡ n ∷ ns'') where
      octet : k < 256
      octet = rw e at (c.octets 0)

      first_with : (i : ℕ) → octets_with i is' ns' ≡ (if eqb k i then 2 + n else 0) + octets_with i is'' ns''
      unfolding octets_with
      first_with i = rw (e, f)

      this_first : octets_with k is' ns' ≡ n + 2 + octets_with k is'' ns''
      this_first = first_with k ∙ rw (eq-eqb k k refl) (omega arith)

      pub count_inside : get_or counts k 0 + (n + 2) ≤ 2 * length ns + total ns
      count_inside = omega (arith, c.each k octet, this_first, octets_within k is ns)

      pub counting_step : Counting is ns is'' ns'' (set counts k (get_or counts k 0 + (n + 2)))
      counting_step = record {
        each = at_each (λ i v. i < 256 → v + octets_with i is'' ns'' ≡ octets_with i is ns) counts k (get_or counts k 0 + (n + 2)) (omega (arith, octet, c.size))
            (λ h. omega (arith, c.each k octet, this_first))
            (λ i ne h. omega (arith, c.each i h, rw (ne_eqb k i (λ q. ne (sym q))) at (first_with i)));
        size = length-set _ _ _ ∙ c.size;
        same = omega (arith, c.same, ap length e, ap length f);
        octets = λ j. rw e at (c.octets (suc j));
      }

    pub counting_end : length is' ≡ 0 → Counted is ns counts
    unfolding octets_with
    counting_end e = record { each = λ i l. omega (arith, rw (nil_from_length is' e) at (c.each i l)); size = c.size }

-- ---- counts summed up

-- the first k places have the sums of what stood there, and the others what stood there
pub record Summing (before counts : List ℕ) (place k : ℕ) : Type 0 where
  pub size : length counts ≡ 256
  pub here : place ≡ sum (take k before)
  pub first : (j : ℕ) → j < k → get_or counts j 0 ≡ sum (take j before)
  pub rest : (j : ℕ) → k ≤ j → get_or counts j 0 ≡ get_or before j 0

pub summing_start : (counts : List ℕ) → length counts ≡ 256 → Summing counts counts 0 0
summing_start counts e = record { size = e; here = refl; first = λ j h. absurd (omega arith); rest = λ j h. refl }

module _ {before counts : List ℕ} {place k : ℕ} (s : Summing before counts place k) (long : length before ≡ 256) (h : k < 256) where
  summing_here : sum (take (k + 1) before) ≡ place + get_or counts k 0
  summing_here = sum_by_more (λ x. x) before k 0 (omega arith) ∙ rw (s.here, s.rest k (le_refl k))

  pub summing_within : place + get_or counts k 0 ≤ sum before
  summing_within = omega (arith, summing_here, sum_by-take-le (λ x. x) before (k + 1))

  pub summing_next : Summing before (set counts k place) (place + get_or counts k 0) (k + 1)
  summing_next = record {
    size = length-set counts k place ∙ s.size;
    here = sym summing_here;
    first = at_each (λ j v. j < k + 1 → v ≡ sum (take j before)) counts k place (omega (arith, s.size)) (λ l. s.here) (λ j ne l. s.first j (omega (arith, ne)));
    rest = λ j l. get_or-set_other counts k j place 0 (λ e. omega arith) ∙ s.rest j (omega arith);
  }

-- ---- places of identifiers

module _ (es : List Element) where
  below_next : (n : ℕ) → joined (below (suc n) es) ≡ joined (below n es) ++ joined (having n es)
  unfolding below
  below_next n = joined_append (below n es) (having n es)

  below_size : (n : ℕ) → length (joined (below (suc n) es)) ≡ length (joined (below n es)) + length (joined (having n es))
  below_size n = ap length (below_next n) ∙ length-append (joined (below n es)) (joined (having n es))

  below_up : (m n : ℕ) → m ≤ n → length (joined (below m es)) ≤ length (joined (below n es))
  below_up m zero h = let e : m ≡ 0 = omega arith in rw e (le_refl _)
  below_up m (suc n) h = by (λ l. below_up m n l) (leb m n) refl
    where
      by : (m ≤ n → length (joined (below m es)) ≤ length (joined (below n es))) → (t : Bool) → leb m n ≡ t → length (joined (below m es)) ≤ length (joined (below (suc n) es))
      by up true e = omega (arith, up (leb-true m n e), below_size n)
      by up false e = let same : m ≡ suc n = omega (arith, leb-false m n e) in rw same (le_refl _)

module _ {is ns : List ℕ} (s : List ℕ) (same : length ns ≡ length is) (inside : total ns ≤ length s) {counts : List ℕ} (c : Counted is ns counts) where
  abbrev es : List Element
  es = elements_with is ns s

  sums_are : (n : ℕ) → n ≤ 256 → sum (take n counts) ≡ length (joined (below n es))
  unfolding below joined
  sums_are zero h = refl
  sums_are (suc n) h =
      rw add-one at (sum_by_more (λ x. x) counts n 0 (omega (arith, c.size)))
      ∙ rw (sums_are n (omega arith), c.each n h, octets_are n is ns s same inside) (sym (below_size es n))

  pub sum_is : sum counts ≡ length (joined (ordered es))
  sum_is = rw (take_all 256 counts (omega (arith, c.size))) at (sums_are 256 (le_refl 256))

  pub places_are : {places : List ℕ} → SummedUp counts places → (i : ℕ) → i < 256 → get_or places i 0 ≡ length (joined (below i es))
  places_are u i h = u.each i h ∙ sums_are i (omega arith)

-- ---- elements put, each where those of its identifier go on

-- stores elsewhere
set_sets : (ys l : List ℕ) (i j x : ℕ) → i < j → set (sets l j ys) i x ≡ sets (set l i x) j ys
set_sets [] l i j x h = refl
set_sets (y ∷ ys) l i j x h = set_sets ys (set l j y) i (suc j) x (omega arith) ∙ ap (λ z. sets z (suc j) ys) (set_comm l j i y x (λ e. omega arith))

sets_comm : (xs ys l : List ℕ) (i j : ℕ) → i + length xs ≤ j → sets (sets l j ys) i xs ≡ sets (sets l i xs) j ys
sets_comm [] ys l i j h = refl
sets_comm (x ∷ xs) ys l i j h = ap (λ z. sets z (suc i) xs) (set_sets ys l i j x (omega arith)) ∙ sets_comm xs ys (set l i x) (suc i) j (omega arith)

-- the elements with identifiers below n stored, those of each from its place on
pub filled : ℕ → List Element → List ℕ → List ℕ → List ℕ
filled zero fs places out = out
filled (suc n) fs places out = sets (filled n fs places out) (get_or places n 0) (joined (having n fs))

filled_none : (n : ℕ) (places out : List ℕ) → filled n [] places out ≡ out
unfolding filled having joined
filled_none zero places out = refl
filled_none (suc n) places out = filled_none n places out

-- where these places are end to end, the elements are in order
filled_start : (es : List Element) (places out : List ℕ) (n : ℕ) → ((i : ℕ) → i < n → get_or places i 0 ≡ length (joined (below i es))) → filled n es places out ≡ sets out 0 (joined (below n es))
unfolding filled below joined
filled_start es places out zero at = refl
filled_start es places out (suc n) at =
    rw (filled_start es places out n (λ i h. at i (omega arith)), at n (le_refl _), below_next es n)
    (rw zero-add at (sets_append (joined (below n es)) (joined (having n es)) out 0))

module _ (e : Element) (rest : List Element) (places out : List ℕ) where
  abbrev k : ℕ
  k = e.identifier

  abbrev octets : List ℕ
  octets = k ∷ length e.value ∷ e.value

  abbrev after : List ℕ
  after = set places k (get_or places k 0 + length octets)

  elsewhere : (i : ℕ) → (i ≡ k → ⊥) → get_or after i 0 ≡ get_or places i 0
  elsewhere i ne = get_or-set_other places k i (get_or places k 0 + length octets) 0 ne

  module _ (apart : (i : ℕ) → i < k → get_or places i 0 + length (joined (having i rest)) ≤ get_or places k 0) where
    -- identifiers below this one
    filled_below : (n : ℕ) → n ≤ k → filled n rest after (sets out (get_or places k 0) octets) ≡ sets (filled n (e ∷ rest) places out) (get_or places k 0) octets
    unfolding filled
    filled_below zero h = refl
    filled_below (suc n) h =
        rw (filled_below n (omega arith), elsewhere n (λ q. omega arith), having_not n e rest (λ q. omega arith))
        (sets_comm (joined (having n rest)) octets (filled n (e ∷ rest) places out) (get_or places n 0) (get_or places k 0) (apart n h))

    module _ (here : k < length places) where
      filled_here : filled (suc k) rest after (sets out (get_or places k 0) octets) ≡ filled (suc k) (e ∷ rest) places out
      unfolding filled joined
      filled_here =
          rw (filled_below k (le_refl k), get_or-set_same places k (get_or places k 0 + length octets) 0 here, having_one k e rest refl)
          (sets_append octets (joined (having k rest)) (filled k (e ∷ rest) places out) (get_or places k 0))

      -- and those above it
      filled_step : (n : ℕ) → k < n → filled n rest after (sets out (get_or places k 0) octets) ≡ filled n (e ∷ rest) places out
      unfolding filled
      filled_step zero h = absurd (omega arith)
      filled_step (suc n) h = by (λ l. filled_step n l) (eqb n k) refl
        where
          by : (k < n → filled n rest after (sets out (get_or places k 0) octets) ≡ filled n (e ∷ rest) places out) → (t : Bool) → eqb n k ≡ t
              → filled (suc n) rest after (sets out (get_or places k 0) octets) ≡ filled (suc n) (e ∷ rest) places out
          by up true t = rw (eqb-true n k t) filled_here
          by up false t =
              let ne = eqb-false n k t in
              rw (up (omega (arith, ne)), elsewhere n ne, having_not n e rest (λ q. ne (sym q)))

-- elements that are put up to those that are left
pub record Putting (es : List Element) (s is ns places out : List ℕ) : Type 0 where
  pub whole : filled 256 (elements_with is ns s) places out ≡ joined (ordered es)
  pub ends : (i : ℕ) → i < 256 → get_or places i 0 + length (joined (having i (elements_with is ns s))) ≡ length (joined (below (suc i) es))
  pub starts : (i : ℕ) → i < 256 → length (joined (below i es)) ≤ get_or places i 0
  pub kept : length out ≡ length (joined (ordered es))
  pub size : length places ≡ 256
  pub inside : total ns ≤ length s
  pub same : length ns ≡ length is
  pub octets : Octets is

pub putting_start : {is ns is' ns' s counts places out : List ℕ} → is' ≡ is → ns' ≡ ns → length ns ≡ length is → Octets is → total ns ≤ length s → length out ≡ length (joined (ordered (elements_with is ns s)))
    → Counted is ns counts → SummedUp counts places → Putting (elements_with is ns s) s is' ns' places out
putting_start {is} {ns} {s = s} {places = places} {out} e f same octets inside long c u =
    let at = places_are s same inside c u in
    rw (e, f)
    record {
      whole = filled_start (elements_with is ns s) places out 256 at ∙ sets_full (joined (ordered (elements_with is ns s))) out (sym long);
      ends = λ i h. rw (at i h) (sym (below_size (elements_with is ns s) i));
      starts = λ i h. rw (at i h) (le_refl _);
      kept = long;
      size = u.size;
      inside = inside;
      same = same;
      octets = octets;
    }

module _ {es : List Element} {s is ns places out : List ℕ} (p : Putting es s is ns places out) where
  module _ {k n : ℕ} {is' ns' : List ℕ} (e : is ≡ k ∷ is') (f : ns ≡ n ∷ ns') where
    abbrev value : List ℕ
    value = take n s

    abbrev others : List Element
    others = elements_with is' ns' (drop n s)

    is_octet : k < 256
    is_octet = rw e at (p.octets 0)

    left_inside : n + total ns' ≤ length s
    unfolding total
    left_inside = omega (arith, rw f at p.inside)

    pub value_inside : n ≤ length s
    value_inside = omega (arith, left_inside)

    pub value_size : length value ≡ n
    value_size = length-take-le n s value_inside

    next_is : elements_with is ns s ≡ element k value ∷ others
    unfolding elements_with
    next_is = rw (e, f)

    -- places of other identifiers, and what this one had and has
    end_of : (i : ℕ) → i < 256 → (k ≡ i → ⊥) → get_or places i 0 + length (joined (having i others)) ≡ length (joined (below (suc i) es))
    end_of i h ne = rw (next_is, having_not i (element k value) others ne) at (p.ends i h)

    own_end : get_or places k 0 + (2 + length value) + length (joined (having k others)) ≡ length (joined (below (suc k) es))
    unfolding joined
    own_end = omega (arith, simp length-append at (rw (next_is, having_one k (element k value) others refl) at (p.ends k is_octet)))

    pub room : get_or places k 0 + 2 + length value ≤ length out
    room = omega (arith, own_end, below_up es (suc k) 256 is_octet, p.kept)

    there : k < length places
    there = omega (arith, is_octet, p.size)

    apart : (i : ℕ) → i < k → get_or places i 0 + length (joined (having i others)) ≤ get_or places k 0
    apart i h = omega (arith, end_of i (omega (arith, is_octet)) (λ q. omega arith), below_up es (suc i) k h, p.starts k is_octet)

    pub putting_step : {next : ℕ} {after : List ℕ} → Wrote (get_or places k 0) (k ∷ length value ∷ value) out next after → Putting es (drop n s) is' ns' (set places k next) after
    putting_step {next} w = record {
      whole = rw (w.place, w.list) (filled_step (element k value) others places out apart there 256 is_octet ∙ rw next_is at p.whole);
      ends = at_each (λ i v. i < 256 → v + length (joined (having i others)) ≡ length (joined (below (suc i) es))) places k next there
          (λ h. omega (arith, own_end, w.place))
          (λ i ne h. end_of i h (λ q. ne (sym q)));
      starts = at_each (λ i v. i < 256 → length (joined (below i es)) ≤ v) places k next there (λ h. omega (arith, p.starts k is_octet, w.place)) (λ i ne h. p.starts i h);
      kept = kept_by w ∙ p.kept;
      size = length-set places k next ∙ p.size;
      inside = rw length-drop (omega (arith, left_inside));
      same = omega (arith, p.same, ap length e, ap length f);
      octets = λ j. rw e at (p.octets (suc j));
    }

  pub putting_end : length is ≡ 0 → out ≡ joined (ordered es)
  unfolding elements_with
  putting_end e = rw (nil_from_length is e, filled_none) at p.whole
