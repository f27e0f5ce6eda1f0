-- `columns::to_columns` meets its contract: 35, 1, 23; then the number of strings, the lengths and the columns.
use Rattle.std.specs.Prelude.{Ok}
use Prim.Native.Nat.{ℕ, ◌+◌, ◌≤◌}
use mathlib.Core.Path.{◌≡◌, ◌∙◌}
use mathlib.Core.Bool.{true}
use mathlib.Core.List.{List}
use native.Mathlib.Omega.{arith}
use lib.ListN.{length}
use Rattle.octets.specs.Lent.{made, Wrote}
use Rattle.octets.specs.declared.Refusal.TheVariants.{LengthTooLarge}
use Rattle.octets.proofs.Laws.{kept_by, lent_refused, lent_short, lent_written}
use Rattle.columns.specs.Numbers.{groups}
use Rattle.columns.specs.Blocks.{strings_in, sum, allowed, columns, numbers, block}
use Rattle.columns.specs.Answers.{writing}
use Rattle.columns.specs.Internal.{sizes_of}
use Rattle.columns.proofs.Numbers.{groups_few}
use Rattle.columns.proofs.Laws.{allowed_means, writing_done}
use Rattle.columns.proofs.Writing.{too_large, octets_missing, sizes_told, block_size, block_written, numbers_few, sum_few}
use Rattle.std.proofs.lemmas.Result.{err_from_is_err_and}
use Rattle.columns.proofs.to_columns.Goals as goal

-- where the sizes are known
module _ (os ns : List ℕ) {total taken : ℕ} (e : Ok (total, taken) ≡ sizes_of ns) where
  known : (allowed ns ≡ true) × (total ≡ sum ns) × (taken ≡ length (numbers ns))
  known = sizes_told ns total taken e

  few : length ns ≤ 1000
  few = ((allowed_means ns).0 known.0).0

  small : (total ≤ 255000) × (taken ≤ 2000)
  small =
      let most = ((allowed_means ns).0 known.0).1 in
      (omega (arith, known.1, sum_few ns most, few), omega (arith, known.2, numbers_few ns most, few))

  module _ (enough : total ≤ length os) where
    size : length (block (strings_in ns os)) ≡ length (groups (length ns)) + taken + total
    size = block_size os ns known.0 (omega (arith, known.1)) ∙ omega (arith, known.1, known.2)

    done : writing os ns ≡ made (block (strings_in ns os)) (length (block (strings_in ns os)))
    done = writing_done os ns known.0 (omega (arith, known.1))

    written : {l l₁ l₂ l₃ : List ℕ} {n₁ n₂ n₃ : ℕ} → Wrote 0 (groups (length ns)) l n₁ l₁ → Wrote n₁ (numbers ns) l₁ n₂ l₂ → Wrote n₂ (columns 255 (strings_in ns os)) l₂ n₃ l₃ → Wrote 0 (block (strings_in ns os)) l n₃ l₃
    written = block_written os ns known.0 (omega (arith, known.1))

pub returns-in_err-total : goal.returns-in_err-total
returns-in_err-total c =
    let p = err_from_is_err_and c.from_residual.result c.from_residual.ensures.1 in
    rw (p.1, p.2) (lent_refused _ _ (too_large _ _ c.in_err-total.ensures))

pub returns-then-octets-total : goal.returns-then-octets-total
returns-then-octets-total c =
    let k = known c.args.octets.now c.args.lengths.now c.in_ok-total.ensures in
    lent_refused _ LengthTooLarge (octets_missing _ _ k.0 (omega (arith, k.1)))

pub groups_of-requires : goal.groups_of-requires
groups_of-requires c = omega (arith, few c.args.octets.now c.args.lengths.now c.in_ok-total.ensures)

pub overflow_add-groups_of : goal.overflow_add-groups_of
overflow_add-groups_of c =
    let ns = c.args.lengths.now in
    let f = few c.args.octets.now ns c.in_ok-total.ensures in
    omega (arith, (small c.args.octets.now ns c.in_ok-total.ensures).1, c.groups_of.ensures, groups_few (length ns) (omega (arith, f)))

pub overflow_add-groups_of-2 : goal.overflow_add-groups_of-2
overflow_add-groups_of-2 c =
    let ns = c.args.lengths.now in
    let f = few c.args.octets.now ns c.in_ok-total.ensures in
    omega (arith, small c.args.octets.now ns c.in_ok-total.ensures, c.groups_of.ensures, groups_few (length ns) (omega (arith, f)))

pub returns-then-out-groups_of : goal.returns-then-out-groups_of
returns-then-out-groups_of c =
    let os = c.args.octets.now in
    let ns = c.args.lengths.now in
    let enough = c.if-octets-total.false in
    lent_short _ (done os ns c.in_ok-total.ensures enough) (omega (arith, size os ns c.in_ok-total.ensures enough, c.groups_of.ensures))

pub put_number-next-requires : goal.put_number-next-requires
put_number-next-requires c = (omega (arith, few c.args.octets.now c.args.lengths.now c.in_ok-total.ensures), omega (arith, c.groups_of.ensures, c.if-out-groups_of.false))

pub invariant_of-lengths : goal.invariant_of-lengths
invariant_of-lengths c = record { few = (known c.args.octets.now c.args.lengths.now c.in_ok-total.ensures).0 }

pub put_numbers-body-requires : goal.put_numbers-body-requires
put_numbers-body-requires c =
    let w = c.put_number-next.ensures in
    let k = known c.args.octets.now c.args.lengths.now c.in_ok-total.ensures in
    omega (arith, w.place, kept_by w, c.groups_of.ensures, c.if-out-groups_of.false, k.2)

pub put_strings-requires : goal.put_strings-requires
put_strings-requires c =
    let w₁ = c.put_number-next.ensures in
    let w₂ = c.put_numbers-body.ensures in
    let k = known c.args.octets.now c.args.lengths.now c.in_ok-total.ensures in
    (omega (arith, k.1, c.if-octets-total.false), omega (arith, w₁.place, kept_by w₁, w₂.place, kept_by w₂, c.groups_of.ensures, c.if-out-groups_of.false, k.1, k.2))

pub returns : goal.returns
returns c =
    let os = c.args.octets.now in
    let ns = c.args.lengths.now in
    let enough = c.if-octets-total.false in
    lent_written _ (done os ns c.in_ok-total.ensures enough) (omega (arith, c.groups_of.ensures, c.if-out-groups_of.false, size os ns c.in_ok-total.ensures enough))
    (written os ns c.in_ok-total.ensures enough c.put_number-next.ensures c.put_numbers-body.ensures c.put_strings.ensures)
