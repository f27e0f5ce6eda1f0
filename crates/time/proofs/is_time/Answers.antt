-- `time::is_time` meets its contract: fourteen digits, each of them hexadecimal.
use Rattle.std.proofs.Common.{rules}
use Rattle.std.specs.Prelude.{◌↔◌, ◌≡◌, true, IsTrue, EachIndex, slice_index}
use mathlib.Core.Path.{◌∙◌}
use borrow.Author.Tests.{eq-eqb, ne_eqb}
use Rattle.octets.proofs.Each.{each_decides}
use Rattle.time.specs.Time.{is_hex, is_time}
use Rattle.time.proofs.is_time.Goals as goal

pub returns-then-digits-eq14 : goal.returns-then-digits-eq14
unfolding is_time
returns-then-digits-eq14 c =
    let s = c.args.digits.now in
    let h : IsTrue c.all.result ↔ EachIndex s (λ k. is_hex (slice_index s k) ≡ true) = search rules in
    each_decides is_hex s c.all.result h ∙ rw (eq-eqb _ _ c.if-digits-eq14.true)

pub returns-else-digits-eq14 : goal.returns-else-digits-eq14
unfolding is_time
returns-else-digits-eq14 c = rw (ne_eqb _ _ c.if-digits-eq14.false)
