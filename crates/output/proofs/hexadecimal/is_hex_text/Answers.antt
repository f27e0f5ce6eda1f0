-- `output::hexadecimal::is_hex_text` meets its contract.
use mathlib.Core.Path.{◌∙◌}
use borrow.Author.Tests.{eq-eqb, ne_eqb}
use Rattle.std.proofs.Common.{rules}
use Rattle.std.specs.Prelude.{◌↔◌, ◌≡◌, true, IsTrue, EachIndex, slice_index, is_some}
use Rattle.output.specs.Hexadecimal.{digit_value, is_hex_text}
use Rattle.output.proofs.Digits.{all_digits}
use Rattle.output.proofs.hexadecimal.is_hex_text.Goals as goal

pub returns-then-text-eq0 : goal.returns-then-text-eq0
unfolding is_hex_text
returns-then-text-eq0 c =
    let s = c.args.text.now in
    let h : IsTrue c.all.result ↔ EachIndex s (λ k. is_some (digit_value (slice_index s k)) ≡ true) = search rules in
    all_digits s c.all.result h ∙ rw (eq-eqb _ _ c.if-text-eq0.true)

pub returns-else-text-eq0 : goal.returns-else-text-eq0
unfolding is_hex_text
returns-else-text-eq0 c = rw (ne_eqb _ _ c.if-text-eq0.false)
