-- `ucs2::ucs2_to_gsm7` meets its contract: the scan tells the septets, and those that fit the array are packed.
use mathlib.Core.Path.{sym, subst}
use native.Mathlib.Omega.{arith}
use lib.ListN.{replicate}
use Rattle.octets.proofs.Laws.{lent_refused}
use Rattle.septets.specs.Septets.{Digits}
use Rattle.gsm7.proofs.Scanning.{scanned_not, scanned_codes, codes_first}
use Rattle.ucs2.specs.Ucs2.{characters_in, codes_of}
use Rattle.ucs2.proofs.Characters.{codes_digits}
use Rattle.ucs2.proofs.Laws.{gsm7_odd, gsm7_absent, gsm7_some, gsm7_many}
use Rattle.ucs2.proofs.ucs2_to_gsm7.Goals as goal

pub returns-then-ucs2-ne0 : goal.returns-then-ucs2-ne0
returns-then-ucs2-ne0 c = lent_refused _ _ (gsm7_odd _ c.if-ucs2-ne0.true)

pub returns-in_default : goal.returns-in_default
returns-in_default c =
    let absent = scanned_not (codes_of (characters_in c.args.ucs2.now)) (replicate 255 0) c.scan_characters.new.codes c.in_default.ensures in
    lent_refused _ _ (gsm7_absent _ (omega (arith, c.if-ucs2-ne0.false)) absent.0)

pub returns-then-count-gt255 : goal.returns-then-count-gt255
returns-then-count-gt255 c =
    let s = scanned_codes (codes_of (characters_in c.args.ucs2.now)) c.scan_characters.new.codes c.in-Ok.count c.in-Ok.ensures in
    lent_refused _ _ (gsm7_many _ (omega (arith, c.if-ucs2-ne0.false)) s.0 s.1 (omega (arith, s.2, c.if-count-gt255.true)))

pub pack_codes-requires : goal.pack_codes-requires
pack_codes-requires c =
    let s = scanned_codes (codes_of (characters_in c.args.ucs2.now)) c.scan_characters.new.codes c.in-Ok.count c.in-Ok.ensures in
    let are = codes_first (codes_of (characters_in c.args.ucs2.now)) c.scan_characters.new.codes c.in-Ok.count c.in-Ok.ensures c.if-count-gt255.false in
    (omega arith, rw are (omega (arith, s.2, c.if-count-gt255.false)), subst (Digits 7) (sym are) (codes_digits _ s.0 s.1))

pub returns : goal.returns
returns c =
    let s = scanned_codes (codes_of (characters_in c.args.ucs2.now)) c.scan_characters.new.codes c.in-Ok.count c.in-Ok.ensures in
    let are = codes_first (codes_of (characters_in c.args.ucs2.now)) c.scan_characters.new.codes c.in-Ok.count c.in-Ok.ensures c.if-count-gt255.false in
    rw (gsm7_some _ (omega (arith, c.if-ucs2-ne0.false)) s.0 s.1, ← are) c.pack_codes.ensures
