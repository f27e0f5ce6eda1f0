-- The laws of one field: where it ends, and what its canonical octets tell.
-- Assumes nothing.
use Prim.Native.Nat.{ℕ, suc, ◌+◌, ◌≤◌}
use mathlib.Core.Path.{◌≡◌, refl, sym, ap, ◌∙◌}
use mathlib.Core.Bool.{true, false}
use mathlib.Core.List.{List, [], ◌∷◌, ◌++◌}
use mathlib.Core.Logic.{◌⊎◌, ⊎_elim}
use native.Mathlib.Omega.{arith}
use lib.ListN.{length, take, drop, length-drop, get_or-append}
use lib.Seq.{length-take-le, take_at, drop_at, get_or-take}
use Rattle.octets.specs.Each.{Octets}
use Rattle.octets.proofs.Choice.{chosen}
use Rattle.octets.proofs.Each.{octets_take, octets_drop}
use Rattle.address.specs.Address.{address_in, address_size, canonical_address}
use Rattle.address.proofs.Laws.{Field as AddressField, canonical_field, canonical_reads, canonical_shorter}
use Rattle.layout.specs.Layout.{Kind, first, octet, octets, address, indicator, is_set, indicator_size, size, Whole, cut, canon}

-- ---- where a field ends

-- a whole field tells its own end, whatever follows
indicator_own : (f rest : List ℕ) → indicator_size f ≡ length f → indicator_size (f ++ rest) ≡ length f
unfolding indicator_size
indicator_own [] rest w = absurd (omega arith)
indicator_own (x ∷ f) rest w = ⊎_elim (λ v. rw v.0 (ap suc (indicator_own f rest (omega (arith, v.1))))) (λ v. rw v.0 v.1) (chosen (is_set 7 x) w)

pub own : (k : Kind) (f rest : List ℕ) → Whole k f → size k (f ++ rest) ≡ length f
own (first bits) f rest w = w
own octet f rest w = w
own (octets limit n) f rest w = w
own address f rest w = rw (get_or-append f rest 0 0 (omega arith)) w
own indicator f rest w = indicator_own f rest w

-- the size of an indicator, by its first octet
indicator_next : (x : ℕ) (s : List ℕ) → ((is_set 7 x ≡ true) × (suc (indicator_size s) ≡ indicator_size (x ∷ s))) ⊎ ((is_set 7 x ≡ false) × (1 ≡ indicator_size (x ∷ s)))
unfolding indicator_size
indicator_next x s = chosen (is_set 7 x) refl

pub indicator_positive : (s : List ℕ) → 1 ≤ indicator_size s
unfolding indicator_size
indicator_positive [] = omega arith
indicator_positive (x ∷ s) = ⊎_elim (λ v. omega (arith, v.1)) (λ v. omega (arith, v.1)) (indicator_next x s)

-- what is cut off by its size is whole
indicator_cut : (s : List ℕ) → indicator_size s ≤ length s → indicator_size (take (indicator_size s) s) ≡ indicator_size s
unfolding indicator_size
indicator_cut [] h = absurd (omega arith)
indicator_cut (x ∷ s) h = ⊎_elim (λ v. rw v.0 (rw v.0 (ap suc (indicator_cut s (omega (arith, v.1)))))) (λ v. rw v.0 (rw v.0)) (indicator_next x s)

pub cut_whole : (k : Kind) (s : List ℕ) → size k s ≤ length s → Whole k (cut k s)
cut_whole k s h = same_size k h ∙ sym (length-take-le (size k s) s h)
  where
    same_size : (k : Kind) → size k s ≤ length s → size k (cut k s) ≡ size k s
    same_size (first bits) h = refl
    same_size octet h = refl
    same_size (octets limit n) h = refl
    same_size address h = rw (get_or-take (address_size s) s 0 0 (omega arith))
    same_size indicator h = indicator_cut s h

-- ---- canonical octets

module _ (f : List ℕ) (o : Octets f) where
  whole_address : Whole address f → AddressField f
  whole_address w = record { octets = o; whole = w }

  -- there are no more of them than the field has
  pub canon_short : (k : Kind) → Whole k f → length (canon k f) ≤ length f
  canon_short (first bits) w = omega arith
  canon_short octet w = omega arith
  canon_short (octets limit n) w = omega arith
  canon_short address w = omega (arith, canonical_shorter f (whole_address w), (canonical_field f (whole_address w)).whole)
  canon_short indicator w = omega (arith, indicator_positive f)

-- those of an address that is there are read as it is
pub address_there : (s : List ℕ) → Octets s → (at : ℕ) → at + address_size (drop at s) ≤ length s → address_in (canonical_address (cut address (drop at s))) ≡ address_in (cut address (drop at s))
address_there s o at h =
    canonical_reads (cut address (drop at s)) (record { octets = octets_take (address_size (drop at s)) (drop at s) (octets_drop at s o); whole = cut_whole address (drop at s) (rw length-drop (omega arith)) })

-- they tell their own end
module _ (f g : List ℕ) (of : Octets f) (og : Octets g) where
  canon_length : (k : Kind) (rest more : List ℕ) → Whole k f → Whole k g → canon k f ++ rest ≡ canon k g ++ more → length (canon k f) ≡ length (canon k g)
  canon_length (first bits) rest more v w e = refl
  canon_length octet rest more v w e = omega arith
  canon_length (octets limit n) rest more v w e = omega arith
  canon_length address rest more v w e =
      sym (own address (canonical_address f) rest (canonical_field f (whole_address f of v)).whole) ∙ ap address_size e
      ∙ own address (canonical_address g) more (canonical_field g (whole_address g og w)).whole
  canon_length indicator rest more v w e = refl

  pub told : (k : Kind) (rest more : List ℕ) → Whole k f → Whole k g → canon k f ++ rest ≡ canon k g ++ more → (canon k f ≡ canon k g) × (rest ≡ more)
  told k rest more v w e =
      let n = canon_length k rest more v w e in (
        sym (take_at (canon k f) rest _ refl) ∙ ap (take (length (canon k f))) e ∙ take_at (canon k g) more _ (sym n),
        sym (drop_at (canon k f) rest _ refl) ∙ ap (drop (length (canon k f))) e ∙ drop_at (canon k g) more _ (sym n),
      )
