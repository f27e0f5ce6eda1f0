-- `header_elements::first_element` meets its contract: what is no whole element is refused.
use native.Mathlib.Omega.{arith}
use lib.ListN.{length-take, length-drop}
use Rattle.header_elements.proofs.Apart.{lone, passes}
use Rattle.header_elements.proofs.elements.first_element.Goals as goal

pub returns-in_default : goal.returns-in_default
returns-in_default c = lone _ c.in_default.len_below

pub returns-in_err-value : goal.returns-in_err-value
returns-in_err-value c =
    rw c.from_residual.ensures
    (λ l. passes _ c.in-len2-up.len_at_least (omega (arith, simp (length-take, length-drop) at c.in_err-value.ensures.cases)))
