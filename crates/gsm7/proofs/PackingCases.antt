-- What packing gives, case by case; and how many octets it takes.
-- Assumes nothing.
use Prim.Native.Nat.{ℕ, ◌+◌, ◌<◌, ◌≤◌}
use mathlib.Core.Path.{◌≡◌, refl, ◌∙◌}
use mathlib.Core.Bool.{Bool, true, false}
use mathlib.Core.List.{List}
use mathlib.Core.Option.{Option, none, some}
use native.Mathlib.Omega.{arith}
use borrow.Author.Tests.{lt-ltb, le-ltb, ltb-true, ltb-false}
use lib.Dec.{ltb}
use lib.ListN.{length, length-append}
use Rattle.octets.specs.Lent.{refused, made}
use Rattle.octets.specs.declared.Refusal.TheVariants.{NotInAlphabet, TooManySeptets}
use Rattle.septets.specs.Septets.{header_septets, octet_count}
use Rattle.septets.proofs.Inverse.{length_packed, octets_with_header}
use Rattle.gsm7.specs.Writing.{septets_of}
use Rattle.gsm7.specs.declared.packing.Packed.{Packed}
use Rattle.gsm7.specs.Packing.{octets_after, packed_as, packed_after, packing}

-- they take as many octets as all their septets: no packer passes 224
pub length_after : (header ss : List ℕ) → length (octets_after header ss) ≡ octet_count 0 (header_septets (length header) + length ss)
length_after header ss = rw (length-append, length_packed, octets_with_header)

-- septets after a header, by their number
module _ (header ss : List ℕ) where
  pub after_many : 255 < header_septets (length header) + length ss → packed_after header (some ss) ≡ refused TooManySeptets
  unfolding packed_after
  after_many h = rw (lt-ltb _ _ h)

  pub after_done : header_septets (length header) + length ss ≤ 255
      → packed_after header (some ss) ≡ made (octets_after header ss) (packed_as (octets_after header ss) (header_septets (length header) + length ss))
  unfolding packed_after
  after_done h = rw (le-ltb _ _ h)

module _ (header text : List ℕ) where
  pub packing_none : septets_of text ≡ none → packing header text ≡ refused NotInAlphabet
  unfolding packing packed_after
  packing_none e = rw e

  module _ (ss : List ℕ) (e : septets_of text ≡ some ss) where
    pub packing_some : packing header text ≡ packed_after header (some ss)
    unfolding packing
    packing_some = rw e

    pub packing_many : 255 < header_septets (length header) + length ss → packing header text ≡ refused TooManySeptets
    packing_many h = packing_some ∙ after_many header ss h

    pub packing_done : header_septets (length header) + length ss ≤ 255 → packing header text
        ≡ made (octets_after header ss) (packed_as (octets_after header ss) (header_septets (length header) + length ss))
    packing_done h = packing_some ∙ after_done header ss h

  -- and where it gives octets
  abbrev pub Made : List ℕ → Packed → Type 0
  Made xs a =
      (ss : List ℕ) × (septets_of text ≡ some ss) × (header_septets (length header) + length ss ≤ 255) × (xs ≡ octets_after header ss)
      × (a ≡ packed_as (octets_after header ss) (header_septets (length header) + length ss))

  pub packing_made : (xs : List ℕ) (a : Packed) → packing header text ≡ made xs a
      → Made xs a
  packing_made xs a p = by_septets (septets_of text) refl
    where
      by_count : (ss : List ℕ) → septets_of text ≡ some ss → (t : Bool) → ltb 255 (header_septets (length header) + length ss) ≡ t → Made xs a
      by_count ss e true q = let r = packing_many ss e (ltb-true _ _ q) in let z : ◌≡◌ {A = ℕ} 0 1 = cc in absurd (omega arith)
      by_count ss e false q = let r = packing_done ss e (ltb-false _ _ q) in (ss, e, ltb-false _ _ q, (cc), (cc))

      by_septets : (o : Option (List ℕ)) → septets_of text ≡ o → Made xs a
      by_septets none e = let r = packing_none e in let z : ◌≡◌ {A = ℕ} 0 1 = cc in absurd (omega arith)
      by_septets (some ss) e = by_count ss e (ltb 255 (header_septets (length header) + length ss)) refl
