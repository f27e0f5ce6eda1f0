-- `address::writing::check_address` meets its contract: each answer is a case of the definition.
use mathlib.Core.Path.{sym, ap, ◌∙◌}
use Rattle.address.specs.Internal.{check_of}
use Rattle.address.proofs.Checks.{wrong_type, wrong_plan, text_making, digits_none, digits_long, digits_fine}
use Rattle.address.proofs.writing.check_address.Goals as goal

pub returns-then-number-gt7 : goal.returns-then-number-gt7
returns-then-number-gt7 c = sym (ap check_of (wrong_type _ _ _ c.if-number-gt7.true))

pub returns-then-number-gt15 : goal.returns-then-number-gt15
returns-then-number-gt15 c = sym (ap check_of (wrong_plan _ _ _ c.if-number-gt7.false c.if-number-gt15.true))

pub returns-then-number-eq-TYPE_OF_NUMBER_ALPHANUMERIC : goal.returns-then-number-eq-TYPE_OF_NUMBER_ALPHANUMERIC
returns-then-number-eq-TYPE_OF_NUMBER_ALPHANUMERIC c = c.check_text.ensures ∙ sym (ap check_of (text_making _ _ _ c.if-number-gt7.false c.if-number-gt15.false c.if-number-eq-TYPE_OF_NUMBER_ALPHANUMERIC.true))

pub returns-then-not-all_digits : goal.returns-then-not-all_digits
returns-then-not-all_digits c =
    sym (ap check_of (digits_none _ _ _ c.if-number-gt7.false c.if-number-gt15.false c.if-number-eq-TYPE_OF_NUMBER_ALPHANUMERIC.false (sym c.all_digits.ensures ∙ c.if-not-all_digits.true)))

pub returns-then-number-gt20 : goal.returns-then-number-gt20
returns-then-number-gt20 c =
    sym (ap check_of (digits_long _ _ _ c.if-number-gt7.false c.if-number-gt15.false c.if-number-eq-TYPE_OF_NUMBER_ALPHANUMERIC.false (sym c.all_digits.ensures ∙ c.if-not-all_digits.false) c.if-number-gt20.true))

pub returns : goal.returns
returns c =
    sym (ap check_of (digits_fine _ _ _ c.if-number-gt7.false c.if-number-gt15.false c.if-number-eq-TYPE_OF_NUMBER_ALPHANUMERIC.false (sym c.all_digits.ensures ∙ c.if-not-all_digits.false) c.if-number-gt20.false))
