-- `header_elements::read_header_elements` meets its contract: 17, or the elements of the octets after the first.
use Prim.Native.Nat.{◌≤◌}
use mathlib.Core.Path.{refl, sym, ◌∙◌}
use mathlib.Core.Bool.{true≢false}
use native.Mathlib.Omega.{arith}
use borrow.Author.Tests.{lt-ltb, le-ltb}
use lib.ListN.{length}
use Rattle.user_data_header.specs.Header.{header_octets}
use Rattle.header_elements.specs.Elements.{elements_in}
use Rattle.header_elements.specs.Record.{elements_read}
use Rattle.header_elements.proofs.read_header_elements.Goals as goal

pub returns-in_default : goal.returns-in_default
unfolding elements_read elements_in
returns-in_default c =
    let s = c.args.header.now in
    let past : header_octets s ≤ length s → ⊥ = λ h. true≢false (sym (c.in_default.ensures.whole.1 h)) in
    rw (lt-ltb (length s) (header_octets s) (omega (arith, past)))

pub returns : goal.returns
unfolding elements_read elements_in
returns c = c.read_elements.ensures ∙ rw (le-ltb _ _ (c.in-Some.ensures.whole.0 refl), c.in-Some.ensures.body.0)
