-- `concatenation::put_one` meets its contract: the scan stores all septets, and the message with no header is written.
use Prim.Native.Nat.{ℕ, ◌≤◌}
use mathlib.Core.Path.{◌≡◌, ap, sym, subst, ◌∙◌}
use mathlib.Core.List.{List}
use native.Mathlib.Omega.{arith}
use native.Mathlib.Nat.{zero-add}
use lib.ListN.{length, take, replicate}
use Rattle.std.specs.Prelude.{Ok}
use Rattle.septets.specs.Septets.{Digits}
use Rattle.gsm7.specs.Internal.{ScannedAs}
use Rattle.gsm7.specs.Writing.{septets_of}
use Rattle.gsm7.proofs.Adequate.{septets_digits}
use Rattle.gsm7.proofs.Scanning.{scanned_codes, codes_first}
use Rattle.concatenation.specs.Internal.{those, codes_of}
use Rattle.concatenation.proofs.put_one.Goals as goal

-- the septets that the scan stored are the text's
module _ (text codes : List ℕ) (count : ℕ) (stored : ScannedAs (septets_of text) (Ok count) (replicate 255 0) codes) (short : length (codes_of text) ≤ 160) where
  front : take count codes ≡ codes_of text
  front =
      let (ss, those_are, counted, whole) = scanned_codes (septets_of text) codes count stored in
      let same = ap those those_are in
      codes_first (septets_of text) codes count stored (omega (arith, ap length same)) ∙ sym same

pub put_message-requires : goal.put_message-requires
put_message-requires c =
    let pre = c.requires in
    let f = front c.args.text.now _ _ c.in-Ok.ensures pre.1 in
    (rw f (omega (arith, pre.1)), subst (Digits 7) (sym f) (septets_digits c.args.text.now _ pre.0), rw (f, zero-add) pre.2)

pub returns : goal.returns
returns c = rw (front c.args.text.now _ _ c.in-Ok.ensures c.requires.1) at c.put_message.ensures
