-- What the writer makes of a record: its lengths, then its fields' values.
-- Assumes nothing.
use Prim.Native.Nat.{◌≤◌}
use mathlib.Core.Path.{◌≡◌}
use mathlib.Core.Bool.{true, false}
use borrow.Author.Tests.{ne_eqb, le-leb}
use Rattle.octets.specs.Checks.{checked, all_fit}
use Rattle.octets.specs.Lent.{refused}
use Rattle.octets.specs.declared.Refusal.TheVariants.{LengthTooLarge, WrongMessageType}
use Rattle.octets.specs.Held.{filled}
use Rattle.address.specs.Address.{text_held}
use Rattle.layout.specs.Layout.{first_octet}
use Rattle.deliver.specs.Deliver.{lengths_of, flags_of, delivering}
use Rattle.deliver.specs.Internal.{making}
use Rattle.deliver.specs.declared.writing.DeliverValues.{DeliverValues}
use Rattle.deliver.specs.declared.SmsDeliver.{SmsDeliver}

abbrev pub values_of : SmsDeliver → DeliverValues
values_of r = record { mti = r.tp_mti; first = first_octet 0 (flags_of r); pid = r.tp_pid; dcs = r.tp_dcs; udl = r.tp_user_data_length }

module _ (r : SmsDeliver) where
  pub too_long : all_fit (lengths_of r) ≡ false → delivering r ≡ refused LengthTooLarge
  unfolding delivering checked
  too_long e = rw e

  pub fits : r.tp_originating_address.address.length ≤ 290 → r.tp_service_centre_timestamp.length ≤ 14 → r.tp_user_data.length ≤ 255 → all_fit (lengths_of r) ≡ true
  fits a t u = rw (le-leb _ 290 a, le-leb _ 14 t, le-leb _ 255 u)

  pub another_type : all_fit (lengths_of r) ≡ true → (r.tp_mti ≡ 0 → ⊥) → delivering r ≡ refused WrongMessageType
  unfolding delivering checked
  another_type e h = rw (e, ne_eqb r.tp_mti 0 h)

  pub by_fields : all_fit (lengths_of r) ≡ true → let a = r.tp_originating_address in
      delivering r ≡ making (values_of r) a.ton a.npi (text_held a) (filled r.tp_service_centre_timestamp) (filled r.tp_user_data)
  unfolding delivering making checked
  by_fields e = rw e
