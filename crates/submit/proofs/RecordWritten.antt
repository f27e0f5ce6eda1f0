-- What the writer makes of a record whose lengths fit: the refusals of its type, its format and its destination.
-- Assumes nothing.
use mathlib.Core.Path.{◌≡◌, ◌∙◌, ap}
use mathlib.Core.Bool.{true}
use Rattle.std.specs.Prelude.{None}
use Rattle.octets.specs.Lent.{refused}
use Rattle.octets.specs.declared.Refusal.TheVariants.{WrongMessageType, ValidityFormatDisagrees, NoDestination}
use Rattle.validity_period.specs.Validity.{format_of}
use Rattle.submit.specs.declared.SmsSubmit.{SmsSubmit}
use Rattle.submit.specs.Submit.{submitting}
use Rattle.submit.specs.Internal.{destination_in, parts_held}
use Rattle.submit.proofs.CheckByCheck.{lengths_fit, values_of, by_values}
use Rattle.submit.proofs.CheckByCheck as values

module _ (r : SmsSubmit) (e : lengths_fit r ≡ true) where
  pub another_type : (r.tp_mti ≡ 1 → ⊥) → submitting r ≡ refused WrongMessageType
  another_type h = by_values r e ∙ values.another_type (values_of r) (destination_in r) _ _ _ h

  module _ (m : r.tp_mti ≡ 1) where
    pub another_format : (r.tp_vpf ≡ format_of r.tp_validity_period → ⊥) → submitting r ≡ refused ValidityFormatDisagrees
    another_format h = by_values r e ∙ values.another_format (values_of r) (destination_in r) _ _ _ m h

    module _ (f : r.tp_vpf ≡ format_of r.tp_validity_period) where
      pub no_destination : r.tp_destination_address ≡ None → submitting r ≡ refused NoDestination
      no_destination h = by_values r e ∙ values.no_destination (values_of r) (destination_in r) _ _ _ m f (ap parts_held h)
