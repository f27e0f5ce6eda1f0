-- `shift_page::is_printable` meets its contract.
use Rattle.std.proofs.Common.{rules, ◌∙◌}
use Rattle.std.specs.Prelude.{◌↔◌, ◌≤◌, IsTrue, EachIndex, slice_index}
use borrow.Author.Tests.{le-leb, lt-leb}
use Rattle.octets.specs.Choice.{within}
use Rattle.octets.proofs.Choice.{within_means}
use Rattle.octets.proofs.Each.{each_decides}
use Rattle.shift_page.specs.ShiftPage.{printable}
use Rattle.shift_page.proofs.is_printable.Goals as goal

pub returns-then-text-le20 : goal.returns-then-text-le20
unfolding printable
returns-then-text-le20 c =
    let s = c.args.text.now in
    let h : IsTrue c.all.result ↔ EachIndex s (λ k. (0x20 ≤ slice_index s k) × (slice_index s k ≤ 0x7e)) = search (rules, c.all.ensures, c.iter.ensures) in
    each_decides (within 0x20 0x7e) s c.all.result ((λ t k l. (within_means 0x20 0x7e _).1 (h.0 t k l)), λ f. h.1 (λ k l. (within_means 0x20 0x7e _).0 (f k l))) ∙ rw (le-leb _ _ c.if-text-le20.true)

pub returns-else-text-le20 : goal.returns-else-text-le20
unfolding printable
returns-else-text-le20 c = rw (lt-leb _ _ c.if-text-le20.false)
