-- `address::writing::put_septets` meets its contract: the text has septets, and they are packed.
use Rattle.std.specs.Prelude.{Ok}
use Prim.Native.Nat.{ℕ, ◌≤◌}
use mathlib.Core.Path.{◌≡◌, sym, subst}
use mathlib.Core.List.{List}
use mathlib.Core.Option.{Option, none, some}
use native.Mathlib.Omega.{arith}
use lib.ListN.{length, take, replicate}
use Rattle.octets.proofs.Laws.{kept_by}
use Rattle.septets.specs.Septets.{Digits}
use Rattle.gsm7.specs.Internal.{ScannedAs}
use Rattle.gsm7.specs.Writing.{septets_of}
use Rattle.gsm7.proofs.Adequate.{septets_digits}
use Rattle.gsm7.proofs.Scanning.{scanned_not, scanned_codes, codes_long, codes_first}
use Rattle.address.specs.Internal.{Spells}
use Rattle.address.proofs.Checks.{septets_are}
use Rattle.address.proofs.writing.put_septets.Goals as goal

few : (o : Option (List ℕ)) (ss : List ℕ) → o ≡ some ss → Spells o 11 → length ss ≤ 11
few o ss e h = rw e at h

none_spelled : (o : Option (List ℕ)) → o ≡ none → Spells o 11 → ⊥
none_spelled o e h = rw e at h

-- where the septets are counted
module _ (text codes : List ℕ) (n : ℕ) (spelled : Spells (septets_of text) 11) (scan : ScannedAs (septets_of text) (Ok n) (replicate 255 0) codes) where
  abbrev ss : List ℕ
  ss = (scanned_codes (septets_of text) codes n scan).0

  counted : (septets_of text ≡ some ss) × (n ≡ length ss) × (length ss ≤ 11)
  counted = let s = scanned_codes (septets_of text) codes n scan in (s.1, s.2, few _ s.0 s.1 spelled)

  first : take n codes ≡ ss
  first = codes_first (septets_of text) codes n scan (omega (arith, counted.1, counted.2))

pub returns-in_default : goal.returns-in_default
returns-in_default c =
    absurd (none_spelled _ (scanned_not (septets_of c.args.text.now) (replicate 255 0) c.scan_text.new.codes c.in_default.ensures).0 c.requires.0)

pub slice_bounds-codes-end : goal.slice_bounds-codes-end
slice_bounds-codes-end c =
    let text = c.args.text.now in
    let k = counted text c.scan_text.new.codes c.in-Ok.count c.requires.0 c.in-Ok.ensures in
    omega (arith, k.1, k.2, codes_long (septets_of text) c.scan_text.new.codes c.in-Ok.count c.in-Ok.ensures)

pub pack_octets-requires : goal.pack_octets-requires
pack_octets-requires c =
    let text = c.args.text.now in
    let k = counted text c.scan_text.new.codes c.in-Ok.count c.requires.0 c.in-Ok.ensures in
    let f = first text c.scan_text.new.codes c.in-Ok.count c.requires.0 c.in-Ok.ensures in (
      omega arith,
      rw f (omega (arith, k.2)),
      subst (Digits 7) (sym f) (septets_digits _ _ k.0),
      rw (f, ← septets_are _ _ k.0) c.requires.1,
    )

pub shape_of-out : goal.shape_of-out
shape_of-out c = kept_by c.pack_octets.ensures

pub returns : goal.returns
returns c =
    let text = c.args.text.now in
    let k = counted text c.scan_text.new.codes c.in-Ok.count c.requires.0 c.in-Ok.ensures in
    let f = first text c.scan_text.new.codes c.in-Ok.count c.requires.0 c.in-Ok.ensures in
    rw (septets_are _ _ k.0, ← f) c.pack_octets.ensures
