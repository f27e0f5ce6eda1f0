-- `submit::message` meets its contract: field by field.
use Prim.Native.Nat.{◌+◌, ◌<◌}
use Rattle.octets.specs.Held.{holding}
use mathlib.Core.Path.{ap, ◌∙◌}
use native.Mathlib.Omega.{arith}
use borrow.Author.Rules.{rules}
use Rattle.coding.specs.declared.UserDataCoding.{UserDataCoding}
use Rattle.gsm7.specs.Reading.{replaced_in}
use Rattle.submit.specs.Submit.{readable, data_septets}
use Rattle.submit.proofs.Text.{text_stored}
use Rattle.submit.proofs.RecordRead.{stretch, data_fits, replaced_fits, replaced_is, read_is, message_is}
use Rattle.submit.proofs.message.Goals as goal

pub overflow_add-replaced_escapes : goal.overflow_add-replaced_escapes
overflow_add-replaced_escapes c =
    let few : c.args.f.udl < 256 = search rules in
    omega (arith, replaced_fits c.args.«data».now c.args.f c.address_at-read.ensures.1 (λ i. (c.type_inv.«data» i).fits) c.user_data_coding.result few c.put_readable-put.ensures.1)

pub returns : goal.returns
returns c =
    let s = c.args.«data».now in
    let f = c.args.f in
    let ud = stretch f.«data» f.octets s in
    let few : f.udl < 256 = search rules in
    let address = c.address_at-read.ensures in
    let text = c.put_readable-put.ensures in
    let coded = c.user_data_coding.ensures in
    let (whole, counted, size) = data_fits s f c.requires coded in
    let stored = text_stored c.user_data_coding.result f.udl f.header ud (omega (arith, few)) whole counted size text.0 in
    read_is s (f.«data» + f.octets) (message_is s (λ i. (c.type_inv.«data» i).fits) f c.requires
    _ address.0 _ c.period_in.ensures _ c.digits_in.ensures _ c.enhanced_in.ensures
    _ c.hold.ensures _ (c.then_some.ensures ∙ rw c.hold-2.ensures) _ (stored ∙ ap (λ (x : UserDataCoding). holding 510 (readable x f.udl f.header ud)) coded))
    (replaced_is s f address.1 c.requires (text.1 ∙ ap (λ (x : UserDataCoding). replaced_in (data_septets x f.udl f.header ud)) coded))
