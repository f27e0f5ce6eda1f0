-- `columns::from_columns` meets its contract: the number of strings, their lengths, their octets; then 23.
use Rattle.std.specs.Prelude.{Ok, Err, Some, None, ok_or, Option as Maybe}
use Rattle.std.proofs.lemmas.Result.{err_from_is_err_and}
use Rattle.octets.proofs.Checks.{never}
use Rattle.octets.specs.declared.Refusal.{Refusal}
use Prim.Native.Nat.{ℕ, ◌+◌, ◌-◌, ◌≤◌}
use mathlib.Core.Path.{◌≡◌, refl, sym, ◌∙◌, ap, subst}
use mathlib.Core.Bool.{true}
use mathlib.Core.List.{List}
use mathlib.Core.Option.{some}
use native.Mathlib.Omega.{arith}
use borrow.Author.Rules.{rules}
use lib.ListN.{length, take, drop, length-drop}
use lib.Seq.{sets, length-sets}
use Rattle.octets.specs.Answers.{Said}
use Rattle.octets.specs.Lent.{Wrote}
use Rattle.octets.specs.declared.Refusal.TheVariants.{BlockNotWhole}
use Rattle.columns.specs.declared.Strings.{Strings}
use Rattle.columns.specs.Blocks.{joined, sum, allowed, dealt, lengths_at}
use Rattle.columns.specs.Answers.{refused_both, made_both, reading, lend_both}
use Rattle.columns.specs.Internal.{NumberAs, LengthsAs}
use Rattle.columns.proofs.Laws.{lengths_are}
use Rattle.columns.proofs.Stepwise.{same_number}
use Rattle.columns.proofs.Reading.{measured_there, count_large, lengths_missing, octets_wrong, lengths_allowed, octets_count, block_whole, both_refused, octets_short, list_short, both_done, list_start}
use Rattle.columns.proofs.from_columns.Goals as goal

-- where the number of strings and their lengths are read
record Told (b : List ℕ) (count at total body : ℕ) : Type 0 where
  counted : NumberAs b 0 (Some (count, at))
  few : count ≤ 1000
  measured_as : LengthsAs b at count (Some (total, body))

told : {b : List ℕ} {count at total body : ℕ} → NumberAs b 0 (Some (count, at)) → count ≤ 1000 → LengthsAs b at count (Some (total, body)) → Told b count at total body
told counts few measures = record { counted = counts; few = few; measured_as = measures }

module _ {b : List ℕ} {count at total body : ℕ} (t : Told b count at total body) where
  -- the lengths, and what follows them
  record Known : Type 0 where
    ns : List ℕ
    there : lengths_at count (drop at b) ≡ some (ns, drop body b)
    total_is : total ≡ sum ns
    size : length ns ≡ count
    inside : body ≤ length b

  known : Known
  known =
      let (ns, there, total_is) = measured_there _ total (drop body b) t.measured_as.0 in
      record { ns = ns; there = there; total_is = total_is; size = (lengths_are _ _ ns _ there).size; inside = t.measured_as.1 }

  not_whole : (length b - body ≡ total → ⊥) → reading b ≡ refused_both BlockNotWhole
  not_whole other = octets_wrong b t.counted.0 t.few known.there (λ e. other (sym (length-drop body b) ∙ e ∙ sym known.total_is))

  -- where the octets are all there
  module _ (all : length b - body ≡ total) where
    abbrev rest : List ℕ
    rest = drop body b

    rest_size : length rest ≡ sum known.ns
    rest_size = length-drop body b ∙ all ∙ known.total_is

    read : reading b ≡ made_both (joined (dealt 255 known.ns rest)) known.ns
    read = block_whole b t.counted.0 t.few known.there rest_size

    octets_size : length (joined (dealt 255 known.ns rest)) ≡ total
    octets_size = octets_count b t.counted.0 t.few known.there rest_size ∙ sym known.total_is

    -- and the lengths are stored
    module _ {list list' : List ℕ} (list_fits : count ≤ length list) (stores : (ns more : List ℕ) → lengths_at count (drop at b) ≡ some (ns, more) → list' ≡ sets list 0 ns) where
      stored : list' ≡ sets list 0 known.ns
      stored = stores known.ns _ known.there

      kept : length list' ≡ length list
      kept = ap length stored ∙ length-sets list 0 known.ns

      first : take count list' ≡ known.ns
      first = ap (take count) stored ∙ list_start known.ns list count known.size list_fits

      first_size : count ≡ length (take count list')
      first_size = sym (ap length first ∙ known.size)

      asked : (octets : List ℕ) → total ≤ length octets → (allowed (take count list') ≡ true) × (body + sum (take count list') ≡ length b) × (sum (take count list') ≤ length octets)
      asked octets octets_fit =
          subst (λ (ls : List ℕ). (allowed ls ≡ true) × (body + sum ls ≡ length b) × (sum ls ≤ length octets)) (sym first)
          (lengths_allowed b t.counted.0 t.few known.there rest_size, omega (arith, known.total_is, known.inside, all), omega (arith, known.total_is, octets_fit))

      both : {octets octets' : List ℕ} {next : ℕ} → total ≤ length octets → Wrote 0 (joined (dealt 255 (take count list') rest)) octets next octets'
          → ◌≡◌ {A = Said Strings × List ℕ × List ℕ} (Ok (record { strings = count; octets = total }), octets', list') (lend_both (reading b) octets list)
      both {octets} {octets'} octets_fit w =
          let is : octets' ≡ sets octets 0 (joined (dealt 255 known.ns rest)) = rw first at w.list in
          both_done octets list read (omega (arith, octets_size, octets_fit)) (omega (arith, known.size, list_fits)) known.size octets_size is stored

-- where an option was none
missing : {A : Type 0} (r : Maybe A) {why w : Refusal} → Err w ≡ ok_or r why → (r ≡ None) × (w ≡ why)
missing None e = (refl, cc)
missing (Some x) e = absurd (never (sym e))

pub returns-in_err-count : goal.returns-in_err-count
returns-in_err-count c =
    let p = err_from_is_err_and c.from_residual.result c.from_residual.ensures.1 in
    let (none, why) = missing c.number_at.result c.in_err-count.ensures.value in
    let bad = rw none at c.number_at.ensures in
    rw (p.1, p.2, why) (both_refused _ _ BlockNotWhole (count_large c.args.block.now (λ n rest e. omega (arith, bad n rest e))))

pub returns-then-count-gt1000 : goal.returns-then-count-gt1000
returns-then-count-gt1000 c =
    let b = c.args.block.now in
    let counted : NumberAs b 0 (Some (c.in_ok-count.count, c.in_ok-count.at)) = search rules in
    both_refused _ _ BlockNotWhole (count_large b (λ n rest e. omega (arith, same_number b counted.0 e, c.if-count-gt1000.true)))

pub returns-in_err-total : goal.returns-in_err-total
returns-in_err-total c =
    let p = err_from_is_err_and c.from_residual-in_err-total.result c.from_residual-in_err-total.ensures.1 in
    let (none, why) = missing c.measure.result c.in_err-total.ensures.value in
    let counted : NumberAs c.args.block.now 0 (Some (c.in_ok-count.count, c.in_ok-count.at)) = search rules in
    rw (p.1, p.2, why) (both_refused _ _ BlockNotWhole (lengths_missing _ counted.0 c.if-count-gt1000.false (rw none at c.measure.ensures)))

pub returns-then-block-body : goal.returns-then-block-body
returns-then-block-body c =
    let t : Told c.args.block.now c.in_ok-count.count c.in_ok-count.at c.in_ok-total.total c.in_ok-total.body = told (search rules) c.if-count-gt1000.false (search rules) in
    both_refused _ _ BlockNotWhole (not_whole t c.if-block-body.true)

pub returns-then-octets-total : goal.returns-then-octets-total
returns-then-octets-total c =
    let t : Told c.args.block.now c.in_ok-count.count c.in_ok-count.at c.in_ok-total.total c.in_ok-total.body = told (search rules) c.if-count-gt1000.false (search rules) in
    let all = c.if-block-body.false in
    octets_short _ _ (read t all) (omega (arith, octets_size t all))

pub returns-then-lengths-count : goal.returns-then-lengths-count
returns-then-lengths-count c =
    let t : Told c.args.block.now c.in_ok-count.count c.in_ok-count.at c.in_ok-total.total c.in_ok-total.body = told (search rules) c.if-count-gt1000.false (search rules) in
    let all = c.if-block-body.false in
    list_short _ _ (read t all) (omega (arith, octets_size t all)) (omega (arith, (known t).size))

pub invariant_of-held : goal.invariant_of-held
invariant_of-held c =
    let t : Told c.args.block.now c.in_ok-count.count c.in_ok-count.at c.in_ok-total.total c.in_ok-total.body = told (search rules) c.if-count-gt1000.false (search rules) in
    record { few = (asked t c.if-block-body.false c.if-lengths-count.false c.put_lengths.ensures _ c.if-octets-total.false).0 }

pub take_strings-requires : goal.take_strings-requires
take_strings-requires c =
    let t : Told c.args.block.now c.in_ok-count.count c.in_ok-count.at c.in_ok-total.total c.in_ok-total.body = told (search rules) c.if-count-gt1000.false (search rules) in
    let (few, whole, fit) = asked t c.if-block-body.false c.if-lengths-count.false c.put_lengths.ensures _ c.if-octets-total.false in
    (whole, fit)

pub returns : goal.returns
returns c =
    let t : Told c.args.block.now c.in_ok-count.count c.in_ok-count.at c.in_ok-total.total c.in_ok-total.body = told (search rules) c.if-count-gt1000.false (search rules) in
    both t c.if-block-body.false c.if-lengths-count.false c.put_lengths.ensures c.if-octets-total.false c.take_strings.ensures
