-- Beginnings of a string: what a layout's reader makes of the front of what it reads (document 02, Ask 9).
-- Assumes nothing.
use Prim.Native.Nat.{ℕ, zero, suc, ◌+◌, ◌<◌}
use mathlib.Core.Path.{◌≡◌, refl, sym, ap, ◌∙◌}
use mathlib.Core.Bool.{Bool, true, false}
use mathlib.Core.List.{List, [], ◌∷◌, ◌++◌, append_assoc}
use mathlib.Core.Logic.{◌⊎◌, inl, inr, ⊎_elim}
use mathlib.Core.Option.{none, none-ne-some}
use native.Mathlib.Omega.{arith}
use borrow.Author.Tests.{leb-true, leb-false}
use lib.Dec.{leb}
use lib.ListN.{length, take, drop, take-append-drop}
use lib.Seq.{length-take-le}
use Rattle.octets.specs.Lent.{Making, made}
use Rattle.octets.specs.declared.Refusal.TheVariants.{OctetsEnd}
use Rattle.octets.proofs.Choice.{chosen}
use Rattle.layout.specs.Cut.{Cut, Endless, EndlessLayout}
use Rattle.layout.specs.Layout.{Kind, indicator, size, cut, behind, canon, Format, field, require, end_or, done, ◌then◌, reached, halted, reading, read_from, Layout, plain, stopping, stops, read}
use Rattle.layout.proofs.Fields.{cut_whole}
use Rattle.layout.proofs.Laws.{ends, within}
use Rattle.layout.proofs.LayoutBack.{field_read}

-- ---- what is read of c, which d follows: the octets end inside a field, or it is what is read of both

abbrev Front : {R : Type 0} → Format R → List ℕ → List ℕ → ℕ → Type 0
Front format c d at = (reading format c at ≡ halted OctetsEnd) ⊎ (reading format c at ≡ reading format (c ++ d) at)

by_field : {R : Type 0} (k : Kind) (next : List ℕ → Format R) (c d : List ℕ) (at : ℕ) → Front (next (canon k (cut k c))) (behind k c) d (at + length (cut k c)) → Front (field k next) c d at
unfolding reading
by_field k next c d at m = by (leb (size k c) (length c)) refl
  where
    by : (t : Bool) → leb (size k c) (length c) ≡ t → Front (field k next) c d at
    by false e = inl (ends _ k c at (leb-false _ _ e))
    by true e =
        let f = cut k c in
        let rest = behind k c in
        let whole = cut_whole k c (leb-true _ _ e) in
        let splits : c ≡ f ++ rest = sym (take-append-drop (size k c) c) in
        let of_c : reading (field k next) c at ≡ reading (next (canon k f)) rest (at + length f) = ap (λ (s : List ℕ). reading (field k next) s at) splits ∙ field_read k next f rest at whole in
        let of_both : reading (field k next) (c ++ d) at ≡ reading (next (canon k f)) (rest ++ d) (at + length f) =
        ap (λ (s : List ℕ). reading (field k next) s at) (ap (λ (s : List ℕ). s ++ d) splits ∙ append_assoc f rest d) ∙ field_read k next f (rest ++ d) at whole in
        ⊎_elim (λ e. inl (of_c ∙ e)) (λ e. inr (of_c ∙ e ∙ sym of_both)) m

pub fronts : {R : Type 0} (format : Format R) → Endless format → (c d : List ℕ) (at : ℕ) → (reading format c at ≡ halted OctetsEnd) ⊎ (reading format c at ≡ reading format (c ++ d) at)
unfolding reading
fronts (field k next) endless c d at = by_field k next c d at (fronts (next (canon k (cut k c))) (endless (canon k (cut k c))) (behind k c) d (at + length (cut k c)))
fronts (require why true format) endless c d at = fronts format endless c d at
fronts (require why false format) endless c d at = inr refl
fronts (end_or format next) endless c d at = absurd endless
fronts (done r) endless c d at = inr refl

-- ---- so the octets end inside a field of each proper beginning of what is read to its end

module _ {R : Type 0} {r : R} {n : ℕ} where
  pub cut_reading : (format : Format R) → Endless format → (s : List ℕ) (at : ℕ) → reading format s at ≡ reached r n → at + length s ≡ n → (k : ℕ) → k < length s → reading format (take k s) at ≡ halted OctetsEnd
  cut_reading format endless s at e all k h =
      let whole : take k s ++ drop k s ≡ s = take-append-drop k s in
      ⊎_elim (λ w. w) (λ w. absurd (omega (arith, within format (take k s) at (w ∙ ap (λ (l : List ℕ). reading format l at) whole ∙ e), length-take-le k s (omega arith)))) (fronts format endless (take k s) (drop k s) at)

  -- where the string may end at once, of each that doesn't
  pub cut_after_end : (format : Format R) (next : List ℕ → Format R) → ((c : List ℕ) → Endless (next c)) → (s : List ℕ) (at : ℕ) → reading (end_or format next) s at ≡ reached r n → at + length s ≡ n
      → (k : ℕ) → k < length s → 0 < k → reading (end_or format next) (take k s) at ≡ halted OctetsEnd
  unfolding reading
  cut_after_end format next endless [] at e all k h more = absurd (omega arith)
  cut_after_end format next endless (x ∷ s) at e all zero h more = absurd (omega arith)
  cut_after_end format next endless (x ∷ s) at e all (suc k) h more = cut_reading (field indicator next) endless (x ∷ s) at e all (suc k) h

-- of a layout
pub cut_read : {R : Type 0} {r : R} (l : Layout R) → EndlessLayout l → (s : List ℕ) → read l s ≡ reached r (length s) → (k : ℕ) → k < length s → read l (take k s) ≡ halted OctetsEnd
unfolding read read_from stops
cut_read (plain format) endless s e k h = cut_reading format endless s 0 e (omega arith) k h
cut_read (stopping mti stands z format) endless [] e k h = absurd (omega arith)
cut_read (stopping mti stands z format) endless (x ∷ s) e zero h = endless.1
cut_read (stopping mti stands z format) endless (x ∷ s) e (suc k) h =
    ⊎_elim (λ w. let one : 1 ≡ length (x ∷ s) = cc in absurd (omega arith)) (λ w. rw w.0 (cut_reading format endless.0 (x ∷ s) 0 w.1 (omega arith) (suc k) h)) (chosen (stops mti (x ∷ s)) e)

-- ---- a format and what follows it

pub endless_then : {A R : Type 0} (format : Format A) (next : A → Format R) → Endless format → ((a : A) → Endless (next a)) → Endless (format then next)
endless_then (field k more) next e also = λ c. endless_then (more c) next (e c) also
endless_then (require why holds format) next e also = endless_then format next e also
endless_then (end_or format more) next e also = absurd e
endless_then (done a) next e also = also a

-- ---- a kind without exception

module _ {R : Type 0} (Typed : R → Type 0) (compared capitalised : R → R) (layout_of : R → Layout R) (write : R → Making ℕ) where
  pub cut_always : ((r : R) → Typed r → (octets : List ℕ) (n : ℕ) → write r ≡ made octets n → (k : ℕ) → k < length octets → read (layout_of r) (take k octets) ≡ halted OctetsEnd)
      → Cut Typed compared capitalised layout_of write (λ r. none) (λ r. r)
  cut_always all = record {
    ends = λ r t octets n e k h x. all r t octets n e k h;
    takes = λ r t octets n e k x. absurd (none-ne-some k x);
  }
