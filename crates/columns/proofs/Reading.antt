-- What reading comes to, case by case.
-- Assumes nothing.
use Rattle.std.specs.Prelude.{Err, Ok}
use Prim.Native.Nat.{ℕ, ◌+◌, ◌<◌, ◌≤◌}
use mathlib.Core.Path.{◌≡◌, refl, sym, ◌∙◌, ap}
use mathlib.Core.List.{List}
use mathlib.Core.Bool.{true}
use mathlib.Core.Option.{Option, none, some}
use native.Mathlib.Nat.{zero-add}
use native.Mathlib.Omega.{arith}
use borrow.Author.Tests.{le-leb, lt-leb, eq-eqb, ne_eqb}
use lib.ListN.{length, take, drop}
use lib.Seq.{sets, take_at}
use Rattle.octets.specs.Answers.{Said}
use Rattle.octets.specs.declared.Refusal.{Refusal}
use Rattle.octets.specs.declared.Refusal.TheVariants.{OutputTooShort, BlockNotWhole}
use Rattle.octets.proofs.Laws.{sets_start}
use Rattle.columns.specs.Numbers.{number_at}
use Rattle.columns.specs.Blocks.{joined, lengths, sum, allowed, dealt, lengths_at, strings_then, count_then, strings_of}
use Rattle.columns.specs.declared.Strings.{Strings}
use Rattle.columns.specs.Answers.{MakingBoth, refused_both, made_both, reading, lend_both}
use Rattle.columns.specs.Internal.{measured}
use Rattle.columns.proofs.Columns.{columns_dealt}
use Rattle.columns.proofs.Laws.{allowed_means, lengths_are, sum_lengths}

-- ---- what is read

no_block : (b : List ℕ) → strings_of b ≡ none → reading b ≡ refused_both BlockNotWhole
unfolding reading
no_block b e = rw e

-- lengths that are added up are there
pub measured_there : (r : Option (List ℕ × List ℕ)) (total : ℕ) (rest : List ℕ) → measured 0 r ≡ some (total, rest) → (ns : List ℕ) × (r ≡ some (ns, rest)) × (total ≡ sum ns)
measured_there none total rest e = let z : ◌≡◌ {A = ℕ} 0 1 = cc in absurd (omega arith)
measured_there (some (ns, left)) total rest e =
    let p : ◌≡◌ {A = ℕ × List ℕ} (0 + sum ns, left) (total, rest) = cc in
    (ns, ap (λ (y : ℕ × List ℕ). some (ns, y.1)) p, sym (ap (λ (y : ℕ × List ℕ). y.0) p) ∙ zero-add (sum ns))

module _ (b : List ℕ) where
  pub count_large : ((n : ℕ) (rest : List ℕ) → number_at b ≡ some (n, rest) → 1000 < n) → reading b ≡ refused_both BlockNotWhole
  unfolding strings_of
  count_large large = no_block b (by_count (number_at b) refl)
    where
      by_count : (s : Option (ℕ × List ℕ)) → number_at b ≡ s → count_then s ≡ none
      by_count none q = refl
      by_count (some (n, rest)) q = rw (lt-leb n 1000 (large n rest q))

  module _ {n : ℕ} {after : List ℕ} (counted : number_at b ≡ some (n, after)) (few : n ≤ 1000) where
    pub lengths_missing : measured 0 (lengths_at n after) ≡ none → reading b ≡ refused_both BlockNotWhole
    unfolding strings_of
    lengths_missing e = no_block b (rw (counted, le-leb n 1000 few) (by_lengths (lengths_at n after) e))
      where
        by_lengths : (r : Option (List ℕ × List ℕ)) → measured 0 r ≡ none → strings_then r ≡ none
        by_lengths none e = refl
        by_lengths (some (ns, rest)) e = let z : ◌≡◌ {A = ℕ} 0 1 = cc in absurd (omega arith)

    module _ {ns body : List ℕ} (there : lengths_at n after ≡ some (ns, body)) where
      pub octets_wrong : (length body ≡ sum ns → ⊥) → reading b ≡ refused_both BlockNotWhole
      unfolding strings_of
      octets_wrong d = no_block b (rw (counted, le-leb n 1000 few, there, ne_eqb _ _ d))

      module _ (all : length body ≡ sum ns) where
        pub lengths_allowed : allowed ns ≡ true
        lengths_allowed = let l = lengths_are n after ns body there in (allowed_means ns).1 (omega (arith, l.size), l.most)

        lengths_same : lengths (dealt 255 ns body) ≡ ns
        lengths_same = (columns_dealt 255 ns body (lengths_are n after ns body there).most all).1

        pub octets_count : length (joined (dealt 255 ns body)) ≡ sum ns
        octets_count = sym (sum_lengths (dealt 255 ns body)) ∙ ap sum lengths_same

        pub block_whole : reading b ≡ made_both (joined (dealt 255 ns body)) ns
        unfolding strings_of reading
        block_whole = rw (counted, le-leb n 1000 few, there, eq-eqb _ _ all, lengths_same)

-- ---- what becomes of the two lent lists

module _ {m : MakingBoth} (octets list : List ℕ) where
  pub both_refused : (why : Refusal) → m ≡ refused_both why → ◌≡◌ {A = Said Strings × List ℕ × List ℕ} (Err why, octets, list) (lend_both m octets list)
  unfolding lend_both
  both_refused why e = rw e

  module _ {os ns : List ℕ} (e : m ≡ made_both os ns) where
    pub octets_short : length octets < length os → ◌≡◌ {A = Said Strings × List ℕ × List ℕ} (Err OutputTooShort, octets, list) (lend_both m octets list)
    unfolding lend_both
    octets_short h = rw (e, lt-leb (length os) (length octets) h)

    module _ (fits : length os ≤ length octets) where
      pub list_short : length list < length ns → ◌≡◌ {A = Said Strings × List ℕ × List ℕ} (Err OutputTooShort, octets, list) (lend_both m octets list)
      unfolding lend_both
      list_short h = rw (e, le-leb (length os) (length octets) fits, lt-leb (length ns) (length list) h)

      pub both_done : length ns ≤ length list → {n total : ℕ} {octets' list' : List ℕ}
          → length ns ≡ n → length os ≡ total → octets' ≡ sets octets 0 os → list' ≡ sets list 0 ns → ◌≡◌ {A = Said Strings × List ℕ × List ℕ} (Ok (record { strings = n; octets = total }), octets', list') (lend_both m octets list)
      unfolding lend_both
      both_done h en eo o l = rw (e, le-leb (length os) (length octets) fits, le-leb (length ns) (length list) h, ← en, ← eo, o, l, sets_start os octets fits, sets_start ns list h)

-- the lengths that stand at the start of the list
pub list_start : (ns list : List ℕ) (n : ℕ) → length ns ≡ n → n ≤ length list → take n (sets list 0 ns) ≡ ns
list_start ns list n e h = rw (sets_start ns list (omega arith)) (take_at ns (drop (length ns) list) n e)
