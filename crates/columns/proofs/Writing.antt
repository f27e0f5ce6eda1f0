-- What writing comes to, case by case, and how large a block is.
-- Assumes nothing.
use Rattle.octets.specs.declared.Refusal.{Refusal}
use Prim.Native.Nat.{ℕ, zero, suc, ◌+◌, ◌*◌, ◌<◌, ◌≤◌}
use mathlib.Core.Path.{◌≡◌, refl, sym, ◌∙◌, ap}
use mathlib.Core.Bool.{Bool, true, false}
use mathlib.Core.List.{List, [], ◌∷◌, ◌++◌}
use native.Mathlib.Omega.{arith}
use borrow.Author.Tests.{le-leb, lt-leb}
use lib.ListN.{length, drop, replicate, length-append, length-drop, length-map, length-replicate}
use lib.Seq.{take-append-le, drop-append-le}
use Rattle.octets.specs.Answers.{Said}
use Rattle.std.specs.Prelude.{if◌then◌else◌, Ok, Err}
use Rattle.octets.specs.Checks.{checked}
use Rattle.octets.specs.Lent.{refused, made, Wrote}
use Rattle.octets.specs.declared.Refusal.TheVariants.{LengthTooLarge, StringsTooLarge}
use Rattle.octets.proofs.Laws.{wrote_then}
use Rattle.columns.specs.Numbers.{groups}
use Rattle.columns.specs.Blocks.{strings_in, lengths, sum, allowed, columns, numbers, block}
use Rattle.columns.specs.Answers.{writing}
use Rattle.columns.specs.Internal.{sizes_of}
use Rattle.columns.proofs.Numbers.{groups_two, groups_few}
use Rattle.octets.proofs.Checks.{never}
use Rattle.columns.proofs.Columns.{AtMost, length_columns}
use Rattle.columns.proofs.Laws.{allowed_means, lengths_in, writing_done, writing_told}

-- ---- refused

pub too_large : (os ns : List ℕ) {why : Refusal} → Err why ≡ sizes_of ns → writing os ns ≡ refused why
unfolding writing checked sizes_of
too_large os ns {why} e = by_test (allowed ns) refl e
  where
    by_test : (t : Bool) → allowed ns ≡ t → Err why ≡ if◌then◌else◌ {A = Said (ℕ × ℕ)} t (Ok (sum ns, length (numbers ns))) (Err StringsTooLarge) → writing os ns ≡ refused why
    by_test true a e = absurd (never (sym e))
    by_test false a e = let same : why ≡ StringsTooLarge = cc in rw (a, same)

pub octets_missing : (os ns : List ℕ) → allowed ns ≡ true → length os < sum ns → writing os ns ≡ refused LengthTooLarge
unfolding writing checked
octets_missing os ns a h = rw (a, lt-leb (sum ns) (length os) h)

-- the sizes that were counted
pub sizes_told : (ns : List ℕ) (octets taken : ℕ) → Ok (octets, taken) ≡ sizes_of ns → (allowed ns ≡ true) × (octets ≡ sum ns) × (taken ≡ length (numbers ns))
unfolding sizes_of
sizes_told ns octets taken e = by_test (allowed ns) refl e
  where
    by_test : (t : Bool) → allowed ns ≡ t → Ok (octets, taken) ≡ if◌then◌else◌ {A = Said (ℕ × ℕ)} t (Ok (sum ns, length (numbers ns))) (Err StringsTooLarge)
        → (allowed ns ≡ true) × (octets ≡ sum ns) × (taken ≡ length (numbers ns))
    by_test true a e = let p : ◌≡◌ {A = ℕ × ℕ} (octets, taken) (sum ns, length (numbers ns)) = cc in (a, ap (λ (y : ℕ × ℕ). y.0) p, ap (λ (y : ℕ × ℕ). y.1) p)
    by_test false a e = let z : ◌≡◌ {A = ℕ} 0 1 = cc in absurd (omega arith)

-- ---- written

module _ (os ns : List ℕ) (a : allowed ns ≡ true) (enough : sum ns ≤ length os) where
  abbrev ss : List (List ℕ)
  ss = strings_in ns os

  same_lengths : lengths ss ≡ ns
  same_lengths = lengths_in ns os enough

  same_count : length ss ≡ length ns
  same_count = sym (length-map ss length) ∙ ap length same_lengths

  pub block_size : length (block ss) ≡ length (groups (length ns)) + length (numbers ns) + sum ns
  unfolding block
  block_size =
      let most : AtMost 255 (lengths ss) = rw same_lengths ((allowed_means ns).0 a).1 in
      rw (length-append, length-append, length_columns 255 ss most, same_count, same_lengths) (omega arith)

  pub block_written : {l l₁ l₂ l₃ : List ℕ} {n₁ n₂ n₃ : ℕ} → Wrote 0 (groups (length ns)) l n₁ l₁ → Wrote n₁ (numbers ns) l₁ n₂ l₂ → Wrote n₂ (columns 255 ss) l₂ n₃ l₃ → Wrote 0 (block ss) l n₃ l₃
  unfolding block
  block_written w₁ w₂ w₃ = rw (same_count, same_lengths) (wrote_then w₁ (wrote_then w₂ w₃))

-- octets after the strings are not looked at
strings_first : (ns os more : List ℕ) → sum ns ≤ length os → strings_in ns (os ++ more) ≡ strings_in ns os
unfolding strings_in sum
strings_first [] os more h = refl
strings_first (n ∷ ns) os more h = rw (take-append-le n os more (omega arith), drop-append-le n os more (omega arith), strings_first ns (drop n os) more (rw length-drop (omega arith)))

pub after_the_strings : (os more ns : List ℕ) → sum ns ≤ length os → writing (os ++ more) ns ≡ writing os ns
unfolding writing
after_the_strings os more ns h =
    let longer : sum ns ≤ length (os ++ more) = rw length-append (omega arith) in
    rw (le-leb (sum ns) (length (os ++ more)) longer, le-leb (sum ns) (length os) h, strings_first ns os more h)

-- ---- how large a block is

pub numbers_few : (ns : List ℕ) → AtMost 255 ns → length (numbers ns) ≤ 2 * length ns
unfolding numbers
numbers_few [] h = omega arith
numbers_few (n ∷ ns) h = rw length-append (omega (arith, groups_few n (omega (arith, h.0)), numbers_few ns h.1))

pub sum_few : (ns : List ℕ) → AtMost 255 ns → sum ns ≤ 255 * length ns
unfolding sum
sum_few [] h = omega arith
sum_few (n ∷ ns) h = omega (arith, h.0, sum_few ns h.1)

-- at most 257,002 octets
pub largest_block : (os ns b : List ℕ) (w : ℕ) → writing os ns ≡ made b w → length b ≤ 257002
largest_block os ns b w e =
    let (a, h, is) = writing_told os ns b w e in
    let (few, most) = (allowed_means ns).0 a in
    omega (arith, ap length is, block_size os ns a h, groups_few (length ns) (omega arith), numbers_few ns most, sum_few ns most)

-- and so many for 1,000 strings of 255

sum_full : (n : ℕ) → sum (replicate n 255) ≡ 255 * n
unfolding sum
sum_full zero = omega arith
sum_full (suc n) = omega (arith, sum_full n)

numbers_full : (n : ℕ) → length (numbers (replicate n 255)) ≡ 2 * n
unfolding numbers
numbers_full zero = omega arith
numbers_full (suc n) = rw length-append (omega (arith, ap length (groups_two 255 (omega arith) (omega arith)), numbers_full n))

most_full : (n : ℕ) → AtMost 255 (replicate n 255)
most_full zero = tt
most_full (suc n) = (omega arith, most_full n)

pub largest_reached : (os : List ℕ) → 255000 ≤ length os → (b : List ℕ) × (writing os (replicate 1000 255) ≡ made b 257002)
largest_reached os h =
    let ns : List ℕ = replicate 1000 255 in
    let count = length-replicate {A = ℕ} 1000 255 in
    let a = (allowed_means ns).1 (omega (arith, count), most_full 1000) in
    let enough : sum ns ≤ length os = omega (arith, sum_full 1000) in
    let size : length (block (strings_in ns os)) ≡ 257002 = block_size os ns a enough ∙ omega (arith, sum_full 1000, numbers_full 1000, ap length (ap groups count ∙ groups_two 1000 (omega arith) (omega arith))) in
    (block (strings_in ns os), writing_done os ns a enough ∙ ap (λ (n : ℕ). made (block (strings_in ns os)) n) size)
