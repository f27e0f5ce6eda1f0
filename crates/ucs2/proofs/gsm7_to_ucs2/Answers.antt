-- `ucs2::gsm7_to_ucs2` meets its contract, by the test of the count; the UCS2 fits its array.
use Rattle.std.specs.Prelude.{Ok, Err}
use Prim.Native.Nat.{ℕ, ◌≤◌}
use mathlib.Core.Path.{◌≡◌, sym}
use mathlib.Core.List.{List}
use native.Mathlib.Omega.{arith}
use native.Mathlib.Nat.{zero-add}
use lib.ListN.{length, replicate}
use lib.Seq.{length-take-le}
use Rattle.octets.specs.Lent.{Wrote}
use Rattle.octets.specs.declared.Refusal.{Refusal}
use Rattle.octets.proofs.Laws.{kept_by, lent_refused, lent_short, lent_written}
use Rattle.septets.specs.Septets.{septets_in, octet_count}
use Rattle.std.proofs.lemmas.Result.{err_from_is_err_and}
use Rattle.octets.specs.Lent.{refused}
use Rattle.gsm7.specs.Internal.{shown_by}
use Rattle.gsm7.specs.Reading.{counted}
use Rattle.gsm7.proofs.Reading.{counted_not, counted_ok}
use Rattle.ucs2.specs.Ucs2.{pair, to_ucs2}
use Rattle.ucs2.proofs.Stepwise.{ucs2_fits, stored_are, characters_pairs}
use Rattle.ucs2.proofs.Laws.{ucs2_shown, ucs2_long, ucs2_few, ucs2_done}
use Rattle.ucs2.proofs.gsm7_to_ucs2.Goals as goal

-- what the test of a count tells of n, where the count is n
there : (os : List ℕ) (n : ℕ) {m : ℕ} {x : Unit} → Ok x ≡ counted os m → m ≡ n → (n ≤ 255) × (octet_count 0 n ≤ length os)
there os n e is = counted_ok os n _ (rw is at e)

not_there : (os : List ℕ) (n : ℕ) {m : ℕ} {why : Refusal} → Err why ≡ counted os m → m ≡ n → to_ucs2 os n ≡ refused why
not_there os n e is = counted_not os n (λ why. to_ucs2 os n ≡ refused why) (ucs2_long os n) (ucs2_few os n) _ (rw is at e)

-- the UCS2 that stands in its array
module _ (os : List ℕ) (n : ℕ) (few : n ≤ 255) {end : ℕ} {array : List ℕ} (wrote : Wrote 0 (shown_by pair (septets_in os 0 n)) (replicate 510 0) end array) where
  written : Wrote 0 (ucs2_shown os n) (replicate 510 0) end array
  written = rw characters_pairs wrote

  size : end ≡ length (ucs2_shown os n)
  size = omega (arith, written.place)

  within_array : end ≤ length array
  within_array = omega (arith, size, kept_by written, ucs2_fits os n few)

pub returns-in_err-check_count : goal.returns-in_err-check_count
returns-in_err-check_count c =
    let p = err_from_is_err_and c.from_residual.result c.from_residual.ensures.1 in
    rw (p.1, p.2) (lent_refused _ _ (not_there c.args.«data».now c.args.septets c.in_err-check_count.ensures (omega arith)))

pub put_characters-n-requires : goal.put_characters-n-requires
put_characters-n-requires c =
    let few = (there c.args.«data».now c.args.septets c.in_ok-check_count.ensures (omega arith)).0 in
    (omega arith, few, rw (← characters_pairs, zero-add) (ucs2_fits _ _ few))

pub returns-then-out-n : goal.returns-then-out-n
returns-then-out-n c =
    let known = there c.args.«data».now c.args.septets c.in_ok-check_count.ensures (omega arith) in
    lent_short _ (ucs2_done _ _ known.0 known.1) (omega (arith, c.if-out-n.true, size _ _ known.0 c.put_characters-n.ensures.0))

pub slice_bounds-ucs2-end : goal.slice_bounds-ucs2-end
slice_bounds-ucs2-end c = within_array _ _ (there c.args.«data».now c.args.septets c.in_ok-check_count.ensures (omega arith)).0 c.put_characters-n.ensures.0

pub slice_bounds-put_octets-end : goal.slice_bounds-put_octets-end
slice_bounds-put_octets-end c = sym (length-take-le _ _ (within_array _ _ (there c.args.«data».now c.args.septets c.in_ok-check_count.ensures (omega arith)).0 c.put_characters-n.ensures.0))

pub returns : goal.returns
returns c =
    let known = there c.args.«data».now c.args.septets c.in_ok-check_count.ensures (omega arith) in
    let w = written _ _ known.0 c.put_characters-n.ensures.0 in
    lent_written _ (ucs2_done _ _ known.0 known.1) (omega (arith, size _ _ known.0 c.put_characters-n.ensures.0, c.if-out-n.false)) (rw (stored_are 510 (ucs2_fits _ _ known.0) w) at c.put_octets.ensures)
