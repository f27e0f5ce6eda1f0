-- `part_number::number_in` meets its contract: the elements that are left decide, after what those before said.
use Rattle.std.specs.Prelude.{◌≡◌, Option, Ok, Err}
use Rattle.std.specs.Option.{option_or}
use mathlib.Core.Path.{sym, ap, ◌∙◌}
use Rattle.std.proofs.lemmas.Result.{err_from_is_err_and}
use Rattle.header_elements.specs.Elements.{elements_of}
use Rattle.header_elements.specs.InOctets.{octets_left}
use Rattle.part_number.specs.declared.PartNumber.{PartNumber}
use Rattle.part_number.proofs.Walk.{resumed, resumed_start, walk_on, walk_end}
use Rattle.part_number.proofs.number_in.Goals as goal

pub loop-element-init : goal.loop-element-init
loop-element-init c = rw (c.into_iter-element-iterator.ensures.into_iter_gives, c.of-element-items.ensures) (resumed_start _)

pub returns-in_err-element : goal.returns-in_err-element
returns-in_err-element c =
    let p = err_from_is_err_and c.from_residual.result c.from_residual.ensures.1 in
    let is : c.in-Some.element ≡ Err c.in_err-element.field-0.0 = c.in_err-element.was in
    let refused = rw is at c.in-Some.ensures.steps in
    rw (p.1, p.2, c.loop-element.invariant, refused.0)

pub loop-element-preserved : goal.loop-element-preserved
loop-element-preserved c =
    let l = c.loop-element in
    let is : c.in-Some.element ≡ Ok c.in_ok-element.field-0 = c.in_ok-element.was in
    let came = rw is at c.in-Some.ensures.steps in
    l.invariant ∙ walk_on l.found _ _ _ came
    ∙ ap (resumed (elements_of (octets_left c.next.new.self))) (sym (c.or-found.ensures ∙ ap (λ (o : Option PartNumber). option_or o l.found) c.numbering_of.ensures))

pub returns : goal.returns
returns c = c.in_range.ensures ∙ sym (c.loop-element.invariant ∙ walk_end _ c.in-None.ensures.steps.0)
