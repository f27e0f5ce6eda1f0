-- `relay_address::check_digits` meets its contract: 9, 32, 10 and 11, in this order.
use mathlib.Core.Path.{sym, ◌∙◌}
use Rattle.relay_address.proofs.Writing.{wrong_type, alphanumeric, no_digits, many_digits, few_digits}
use Rattle.relay_address.proofs.check_digits.Goals as goal

pub returns-then-not-number : goal.returns-then-not-number
returns-then-not-number c = sym (wrong_type _ _ _ (c.if-not-number.true))

pub returns-then-number-eq-TYPE_OF_NUMBER_ALPHANUMERIC : goal.returns-then-number-eq-TYPE_OF_NUMBER_ALPHANUMERIC
returns-then-number-eq-TYPE_OF_NUMBER_ALPHANUMERIC c = sym (alphanumeric _ _ _ (c.if-not-number.false) c.if-number-eq-TYPE_OF_NUMBER_ALPHANUMERIC.true)

pub returns-then-not-all_digits : goal.returns-then-not-all_digits
returns-then-not-all_digits c = sym (no_digits _ _ _ (c.if-not-number.false) c.if-number-eq-TYPE_OF_NUMBER_ALPHANUMERIC.false (sym c.all_digits.ensures ∙ c.if-not-all_digits.true))

pub returns-then-number-gt20 : goal.returns-then-number-gt20
returns-then-number-gt20 c = sym (many_digits _ _ _ (c.if-not-number.false) c.if-number-eq-TYPE_OF_NUMBER_ALPHANUMERIC.false (sym c.all_digits.ensures ∙ c.if-not-all_digits.false) c.if-number-gt20.true)

pub returns : goal.returns
returns c = sym (few_digits _ _ _ (c.if-not-number.false) c.if-number-eq-TYPE_OF_NUMBER_ALPHANUMERIC.false (sym c.all_digits.ensures ∙ c.if-not-all_digits.false) c.if-number-gt20.false)
