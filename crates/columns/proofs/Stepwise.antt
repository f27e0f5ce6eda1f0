-- What each loop keeps from step to step.
-- Assumes nothing.
use Rattle.std.specs.Prelude.{Ok, Err, None, Some}
use Prim.Native.Nat.{ℕ, suc, ◌+◌, ◌-◌, ◌*◌, ◌<◌, ◌≤◌}
use mathlib.Core.Path.{◌≡◌, refl, sym, ◌∙◌, ap}
use mathlib.Core.Bool.{Bool, true, false}
use mathlib.Core.List.{List, [], ◌∷◌, ◌++◌}
use mathlib.Core.Option.{Option, none, some}
use native.Mathlib.Nat.{add-zero, zero-add, add_assoc}
use native.Mathlib.Numerals.{add-one}
use native.Mathlib.Omega.{arith}
use borrow.Author.Tests.{le-leb, lt-leb, eqb-true, eqb-false}
use lib.Dec.{leb, eqb}
use lib.ListN.{length, get_or, set, take, drop, length-set, length-append, drop_of_length-le}
use lib.Seq.{sets, drop-cons, get_or-set_same, get_or-set_other}
use Rattle.octets.specs.Each.{each}
use Rattle.octets.specs.declared.Refusal.TheVariants.{StringsTooLarge}
use Rattle.octets.proofs.Each.{each_next, each_fails, each_end}
use Rattle.columns.specs.Numbers.{groups, number_at}
use Rattle.columns.specs.Blocks.{sum, allowed, numbers, length_before, length_then, lengths_at}
use Rattle.columns.specs.Internal.{sizes_of, measured, NumberAs, LengthsAs, has, Raised, picked, scattered}
use Rattle.columns.proofs.Numbers.{groups_few, no_number, one_group, two_groups, three_groups, group_missing, group_needless}
use Rattle.columns.proofs.Laws.{length_first}
use Rattle.columns.proofs.Places.{has_one, has_none, has_next, sum_next, sum_take}

-- ---- sizes of what is written

pub numbers_next : (ns : List ℕ) (i : ℕ) → i < length ns → numbers (drop i ns) ≡ groups (get_or ns i 0) ++ numbers (drop (i + 1) ns)
unfolding numbers
numbers_next ns i h = rw (add-one, drop-cons ns i 0 h)

pub sum_left : (ns : List ℕ) (i : ℕ) → i < length ns → sum (drop i ns) ≡ get_or ns i 0 + sum (drop (i + 1) ns)
unfolding sum
sum_left ns i h = rw (add-one, drop-cons ns i 0 h)

abbrev small : ℕ → Bool
small n = leb n 255

pub record Sizing (ns : List ℕ) (i octets taken : ℕ) : Type 0 where
  pub few : length ns ≤ 1000
  pub tested : each small (drop i ns) ≡ each small ns
  pub octets_left : octets + sum (drop i ns) ≡ sum ns
  pub taken_left : taken + length (numbers (drop i ns)) ≡ length (numbers ns)
  pub octets_small : octets ≤ 255 * i
  pub taken_small : taken ≤ 2 * i

pub sizing_start : (ns : List ℕ) → length ns ≤ 1000 → Sizing ns 0 0 0
sizing_start ns h = record { few = h; tested = refl; octets_left = zero-add _; taken_left = zero-add _; octets_small = omega arith; taken_small = omega arith }

pub too_many_strings : (ns : List ℕ) → 1000 < length ns → Err StringsTooLarge ≡ sizes_of ns
unfolding sizes_of allowed
too_many_strings ns h = rw (lt-leb (length ns) 1000 h)

module _ {ns : List ℕ} {i octets taken : ℕ} (s : Sizing ns i octets taken) where
  pub sizing_next : i < length ns → get_or ns i 0 ≤ 255 → {n : ℕ} → n ≡ length (groups (get_or ns i 0)) → Sizing ns (i + 1) (octets + get_or ns i 0) (taken + n)
  sizing_next h b e = record {
    few = s.few;
    tested = sym (each_next small ns i h (le-leb _ _ b)) ∙ s.tested;
    octets_left = omega (arith, s.octets_left, sum_left ns i h);
    taken_left = omega (arith, e, s.taken_left, simp length-append at (ap length (numbers_next ns i h)));
    octets_small = omega (arith, s.octets_small);
    taken_small = omega (arith, e, s.taken_small, groups_few (get_or ns i 0) (omega arith));
  }

  pub sizing_large : i < length ns → 255 < get_or ns i 0 → Err StringsTooLarge ≡ sizes_of ns
  unfolding sizes_of allowed
  sizing_large h b = rw (le-leb (length ns) 1000 s.few, ← s.tested, each_fails small ns i h (lt-leb _ _ b))

  pub sizing_end : length ns ≤ i → Ok (octets, taken) ≡ sizes_of ns
  unfolding sizes_of allowed sum numbers
  sizing_end h =
      let eo : octets ≡ sum ns = sym (add-zero octets) ∙ rw (drop_of_length-le ns {i = i} h) at s.octets_left in
      let et : taken ≡ length (numbers ns) = sym (add-zero taken) ∙ rw (drop_of_length-le ns {i = i} h) at s.taken_left in
      rw (le-leb (length ns) 1000 s.few, ← s.tested, each_end small ns i h, eo, et)

-- ---- places raised, and added up

pub raised_next : {before places : List ℕ} {k : ℕ} → Raised k before places → k < 255 → Raised (k + 1) before (set places k (get_or places k 0 + 1))
raised_next {before} {places} {k} r h = record { size = length-set places k _ ∙ r.size; each = λ j. by_test j (eqb j k) refl }
  where
    by_test : (j : ℕ) (t : Bool) → eqb j k ≡ t → get_or (set places k (get_or places k 0 + 1)) j 0 ≡ get_or before j 0 + has j (k + 1)
    by_test j true e = rw (eqb-true j k e, get_or-set_same places k (get_or places k 0 + 1) 0 (omega (arith, r.size))) (omega (arith, r.each k, has_none k k (omega arith), has_one k (k + 1) (omega arith)))
    by_test j false e = rw (get_or-set_other places k j (get_or places k 0 + 1) 0 (eqb-false j k e)) (omega (arith, r.each j, has_next j k (eqb-false j k e)))

pub record Summing (body : ℕ) (before counts : List ℕ) (place k : ℕ) : Type 0 where
  pub size : length counts ≡ 255
  pub here : place ≡ body + sum (take k before)
  pub first : (j : ℕ) → j < k → get_or counts j 0 ≡ body + sum (take j before)
  pub rest : (j : ℕ) → k ≤ j → get_or counts j 0 ≡ get_or before j 0

pub summing_start : (body : ℕ) (counts : List ℕ) → length counts ≡ 255 → Summing body counts counts body 0
unfolding sum
summing_start body counts e = record { size = e; here = omega arith; first = λ j h. absurd (omega arith); rest = λ j h. refl }

module _ {body : ℕ} {before counts : List ℕ} {place k : ℕ} (s : Summing body before counts place k) where
  pub summing_within : place + get_or counts k 0 ≤ body + sum before
  summing_within = omega (arith, s.here, s.rest k (omega arith), sum_next k before, sum_take (suc k) before)

  pub summing_next : k < 255 → Summing body before (set counts k place) (place + get_or counts k 0) (k + 1)
  summing_next h = record {
    size = length-set counts k place ∙ s.size;
    here = rw add-one (omega (arith, s.here, s.rest k (omega arith), sum_next k before));
    first = λ j l. by_test j l (eqb j k) refl;
    rest = λ j l. get_or-set_other counts k j place 0 (λ e. omega arith) ∙ s.rest j (omega arith);
  }
    where
      by_test : (j : ℕ) → j < k + 1 → (t : Bool) → eqb j k ≡ t → get_or (set counts k place) j 0 ≡ body + sum (take j before)
      by_test j l true e = rw (eqb-true j k e, get_or-set_same counts k place 0 (omega (arith, s.size))) s.here
      by_test j l false e = get_or-set_other counts k j place 0 (eqb-false j k e) ∙ s.first j (omega (arith, eqb-false j k e))

-- ---- one octet more to its place, and from it

pub scattered_next : (n : ℕ) (places os list : List ℕ) → set (scattered n places os list) (get_or places n 0) (get_or os n 0) ≡ scattered (n + 1) places os list
unfolding scattered
scattered_next n places os list = rw add-one

pub picked_next : (n : ℕ) (places os : List ℕ) → picked n places os ++ (get_or os (get_or places n 0) 0 ∷ []) ≡ picked (n + 1) places os
unfolding picked
picked_next n places os = rw add-one

-- ---- a number of a block

module _ (os : List ℕ) (at : ℕ) where
  no_number_bad : number_at (drop at os) ≡ none → NumberAs os at None
  no_number_bad q n rest e = let z : ◌≡◌ {A = ℕ} 0 1 = cc in absurd (omega arith)

  pub number_ended : length os ≤ at → NumberAs os at None
  number_ended h = no_number_bad (rw (drop_of_length-le os {i = at} h) no_number)

  module _ (h : at < length os) where
    abbrev x : ℕ
    x = get_or os at 0

    pub number_one : x < 128 → NumberAs os at (Some (x, (at + 1)))
    number_one l = (rw (drop-cons os at 0 h, add-one) (one_group x (drop (suc at) os) l), omega arith, omega arith, omega arith)

    module _ (follows : 128 ≤ x) where
      pub number_cut : length os - at < 2 → NumberAs os at None
      number_cut l = no_number_bad (rw (drop-cons os at 0 h, drop_of_length-le os {i = suc at} (omega arith)) (group_missing x follows))

      module _ (h₂ : at + 1 < length os) where
        abbrev y : ℕ
        y = get_or os (at + 1) 0

        both : drop at os ≡ x ∷ y ∷ drop (at + 2) os
        both =
            let e : at + 1 ≡ suc at = omega arith in
            let f : at + 2 ≡ suc (suc at) = omega arith in
            rw (drop-cons os at 0 h, e, f, drop-cons os (suc at) 0 (omega arith))

        pub number_needless : y ≡ 0 → NumberAs os at None
        number_needless e = no_number_bad (rw (both, e) (group_needless x follows (drop (at + 2) os)))

        pub number_large : 127 < y → NumberAs os at None
        number_large l n rest e = three_groups x follows y (drop (at + 2) os) l n rest (rw both at e)

        pub number_two : 0 < y → y < 128 → x < 256 → NumberAs os at (Some (y * 128 + (x - 128), at + 2))
        number_two p l o = (rw both (two_groups x follows y (drop (at + 2) os) p l), omega arith, omega arith, omega arith)

-- octets start with one number
pub same_number : (os : List ℕ) {rest more : List ℕ} {n m : ℕ} → number_at os ≡ some (n, rest) → number_at os ≡ some (m, more) → n ≡ m
same_number os {rest} {more} {n} {m} p q = let both : ◌≡◌ {A = ℕ × List ℕ} (n, rest) (m, more) = cc in ap (λ (y : ℕ × List ℕ). y.0) both

-- ---- the lengths of a block

no_lengths_left : (os : List ℕ) → lengths_at 0 os ≡ some ([], os)
unfolding lengths_at
no_lengths_left os = refl

module _ (k : ℕ) (os : List ℕ) where
  lengths_more : (n : ℕ) (rest : List ℕ) → number_at os ≡ some (n, rest) → lengths_at (suc k) os ≡ length_before n (lengths_at k rest)
  unfolding lengths_at
  lengths_more n rest e = rw e

  lengths_bad : ((n : ℕ) (rest : List ℕ) → number_at os ≡ some (n, rest) → 255 < n) → lengths_at (suc k) os ≡ none
  unfolding lengths_at
  lengths_bad large = by_number (number_at os) refl
    where
      by_rest : (n : ℕ) → 255 < n → (r : Option (List ℕ × List ℕ)) → length_before n r ≡ none
      by_rest n h none = refl
      by_rest n h (some (ns, more)) = rw (lt-leb n 255 h)

      by_number : (s : Option (ℕ × List ℕ)) → number_at os ≡ s → length_then s (λ rest. lengths_at k rest) ≡ none
      by_number none e = refl
      by_number (some (n, rest)) e = by_rest n (large n rest e) (lengths_at k rest)

measured_more : (t n : ℕ) → n ≤ 255 → (r : Option (List ℕ × List ℕ)) → measured t (length_before n r) ≡ measured (t + n) r
unfolding sum
measured_more t n h none = refl
measured_more t n h (some (ns, os)) = rw (le-leb n 255 h, ← add_assoc)

pub record Measuring (os : List ℕ) (at count total place i : ℕ) : Type 0 where
  pub rest : measured 0 (lengths_at count (drop at os)) ≡ measured total (lengths_at (count - i) (drop place os))
  pub inside : place ≤ length os
  pub few : i ≤ count
  pub small : total ≤ 255 * i

-- one length fewer
left_one : (count i : ℕ) → i < count → count - i ≡ suc (count - (i + 1))
left_one count i h = omega arith

module _ {os : List ℕ} {at count total place i : ℕ} (m : Measuring os at count total place i) where
  pub measuring_next : i < count → {n next : ℕ} → NumberAs os place (Some (n, next)) → n ≤ 255 → Measuring os at count (total + n) next (i + 1)
  measuring_next h {n} {next} a l = record {
    rest = m.rest ∙ rw (left_one count i h, lengths_more (count - (i + 1)) (drop place os) n (drop next os) a.0) (measured_more total n l (lengths_at (count - (i + 1)) (drop next os)));
    inside = a.3;
    few = omega arith;
    small = omega (arith, m.small);
  }

  pub measuring_bad : i < count → ((n : ℕ) (rest : List ℕ) → number_at (drop place os) ≡ some (n, rest) → 255 < n) → LengthsAs os at count None
  measuring_bad h large = m.rest ∙ rw (left_one count i h, lengths_bad (count - (i + 1)) (drop place os) large)

  pub measuring_large : i < count → {n next : ℕ} → NumberAs os place (Some (n, next)) → 255 < n → LengthsAs os at count None
  measuring_large h {n} {next} a l = measuring_bad h (λ m rest e. omega (arith, same_number (drop place os) a.0 e))

  pub measuring_end : count ≤ i → LengthsAs os at count (Some (total, place))
  unfolding sum
  measuring_end h =
      let e : count - i ≡ 0 = omega arith in
      (m.rest ∙ rw (e, no_lengths_left (drop place os), add-zero), m.inside)

-- stored, where they are there
pub record Storing (os : List ℕ) (at count : ℕ) (before list : List ℕ) (place i : ℕ) : Type 0 where
  pub rest : (ns more : List ℕ) → lengths_at count (drop at os) ≡ some (ns, more) → (ms : List ℕ) × (lengths_at (count - i) (drop place os) ≡ some (ms, more)) × (sets list i ms ≡ sets before 0 ns)

pub storing_start : (os : List ℕ) (at count : ℕ) (list : List ℕ) → Storing os at count list list at 0
storing_start os at count list = let z : count - 0 ≡ count = omega arith in record { rest = λ ns more e. (ns, rw z e, refl) }

module _ {os : List ℕ} {at count : ℕ} {before list : List ℕ} {place i : ℕ} (s : Storing os at count before list place i) where
  pub storing_next : i < count → {n next : ℕ} → NumberAs os place (Some (n, next)) → Storing os at count before (set list i n) next (i + 1)
  storing_next h {n} {next} a = record { rest = one_more }
    where
      later : (ns others : List ℕ) → sets list i (n ∷ others) ≡ sets before 0 ns → sets (set list i n) (i + 1) others ≡ sets before 0 ns
      later ns others l = rw add-one l

      one_more : (ns more : List ℕ) → lengths_at count (drop at os) ≡ some (ns, more)
          → (ms : List ℕ) × (lengths_at (count - (i + 1)) (drop next os) ≡ some (ms, more)) × (sets (set list i n) (i + 1) ms ≡ sets before 0 ns)
      one_more ns more e =
          let (ms, q, l) = s.rest ns more e in
          let first : length_before n (lengths_at (count - (i + 1)) (drop next os)) ≡ some (ms, more) =
          sym (lengths_more (count - (i + 1)) (drop place os) n (drop next os) a.0) ∙ rw (left_one count i h) at q in
          let (others, r, is, few) = length_first n _ ms more first in
          (others, r, later ns others (rw is at l))

  pub storing_bad : i < count → NumberAs os place None → (ns more : List ℕ) → lengths_at count (drop at os) ≡ some (ns, more) → list ≡ sets before 0 ns
  storing_bad h a ns more e =
      let (ms, q, l) = s.rest ns more e in
      let gone = lengths_bad (count - (i + 1)) (drop place os) (λ n rest p. omega (arith, a n rest p)) in
      let both : ◌≡◌ {A = Option (List ℕ × List ℕ)} (some (ms, more)) none = sym q ∙ rw (left_one count i h) gone in
      let z : ◌≡◌ {A = ℕ} 0 1 = cc in
      absurd (omega arith)

  pub storing_end : count ≤ i → (ns more : List ℕ) → lengths_at count (drop at os) ≡ some (ns, more) → list ≡ sets before 0 ns
  storing_end h ns more e =
      let (ms, q, l) = s.rest ns more e in
      let z : count - i ≡ 0 = omega arith in
      let both : ◌≡◌ {A = Option (List ℕ × List ℕ)} (some ([], drop place os)) (some (ms, more)) = sym (no_lengths_left (drop place os)) ∙ rw z at q in
      let p : ◌≡◌ {A = List ℕ × List ℕ} ([], drop place os) (ms, more) = cc in
      rw (← ap (λ (y : List ℕ × List ℕ). y.0) p) at l
