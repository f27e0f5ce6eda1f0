-- `header_elements::octets_needed` meets its contract: the sum is the library's.
use Rattle.std.proofs.Common.{◌≡◌, ◌≤◌, arith, rules, sum}
use Rattle.std.proofs.lemmas.List.Elements.{All-from_get_or}
use Rattle.std.proofs.lemmas.List.Sums.{sum_by-le}
use Rattle.header_elements.proofs.Writing.{total_sum}
use Rattle.header_elements.proofs.octets_needed.Goals as goal

pub overflow_add-result : goal.overflow_add-result
overflow_add-result c =
    let ns = c.args.lengths.now in
    let added : c.sum.result ≡ sum ns = search rules in
    omega (arith, sum_by-le (λ x. x) 255 ns (All-from_get_or (λ x. x ≤ 255) ns 0 (λ i h. omega (arith, c.type_inv.lengths i))))

pub returns : goal.returns
returns c =
    let added : c.sum.result ≡ sum c.args.lengths.now = search rules in
    omega (arith, total_sum c.args.lengths.now)
