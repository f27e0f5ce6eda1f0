-- Octets in a layout's order are read as the fields that they are: the reader's half of read-back (document 01, demand 2).
-- Assumes nothing.
use Prim.Native.Nat.{ℕ, ◌+◌}
use mathlib.Core.Path.{◌≡◌, refl, sym, ap, ap₂, ◌∙◌}
use mathlib.Core.Bool.{Bool, true}
use mathlib.Core.List.{List, [], ◌∷◌, ◌++◌, append-nil}
use native.Mathlib.Omega.{arith}
use borrow.Author.Tests.{eq-eqb}
use lib.Dec.{eqb}
use lib.ListN.{length, drop, length-append}
use lib.Seq.{take_at, drop_at, drop-drop}
use Rattle.octets.specs.declared.Refusal.{Refusal}
use Rattle.octets.specs.declared.Refusal.TheVariants.{WrongMessageType}
use Rattle.layout.specs.Cut.{Endless}
use Rattle.layout.specs.Layout.{Kind, first, indicator, leading, message_type, kept, Whole, canon, Field, joined, Format, field, require, end_or, done, ◌then◌, message, reached, reading, read_from}
use Rattle.layout.proofs.Fields.{own, indicator_positive}
use Rattle.layout.proofs.Laws.{goes_on}

module _ {R : Type 0} (k : Kind) (next : List ℕ → Format R) where
  -- a whole field at the start is read, and the rest after it
  pub field_read : (f rest : List ℕ) (at : ℕ) → Whole k f → reading (field k next) (f ++ rest) at ≡ reading (next (canon k f)) rest (at + length f)
  unfolding reading
  field_read f rest at w =
      let n = own k f rest w in
      goes_on _ k (f ++ rest) at (rw (n, length-append) (omega arith)) ∙ rw (n, take_at f rest (length f) refl, drop_at f rest (length f) refl)

  pub field_last : (f : List ℕ) (at : ℕ) → Whole k f → reading (field k next) f at ≡ reading (next (canon k f)) [] (at + length f)
  field_last f at w = rw append-nil at (field_read f [] at w)

  -- the same of a field that stands at a place
  pub field_here : (s : List ℕ) (at : ℕ) (f rest : List ℕ) → drop at s ≡ f ++ rest → Whole k f → read_from (field k next) s at ≡ read_from (next (canon k f)) s (at + length f)
  unfolding read_from
  field_here s at f rest e w =
      let d : rest ≡ drop (at + length f) s = sym (drop_at f rest (length f) refl) ∙ ap (drop (length f)) (sym e) ∙ drop-drop (length f) at s in
      ap (λ (l : List ℕ). reading (field k next) l at) e ∙ field_read f rest at w ∙ ap (λ (l : List ℕ). reading (next (canon k f)) l (at + length f)) d

module _ {R : Type 0} (s : List ℕ) (at : ℕ) where
  pub require_read : {holds : Bool} → holds ≡ true → (why : Refusal) (format : Format R) → reading (require why holds format) s at ≡ reading format s at
  unfolding reading
  require_read e why format = rw e

  pub done_read : (r : R) → reading (done r) s at ≡ reached r at
  unfolding reading
  done_read r = refl

-- a first octet in its canonical form, with the layout's MTI
pub message_read : {R : Type 0} (mti : ℕ) (bits : List ℕ) (next : ℕ → Format R) (f : ℕ) → kept bits f ≡ f → message_type f ≡ mti → (s : List ℕ) (at : ℕ) → reading (message mti bits next) (f ∷ s) at ≡ reading (next f) s (at + 1)
message_read mti bits next f whole m s at =
    field_read (first bits) (λ c. require WrongMessageType (eqb (message_type (leading c)) mti) (next (leading c))) (f ∷ []) s at refl
    ∙ rw whole (require_read s (at + 1) (eq-eqb (message_type f) mti m) WrongMessageType (next f))

-- ---- the joined fields of a layout are read as the record that they make

-- canonical fields that a format calls for, one after the other to its end, and the record that they make
abbrev pub Calls : {R : Type 0} → Format R → List Field → R → Type 0
Calls (field k next) [] r = ⊥
Calls (field k next) (c ∷ cs) r = Whole k c.stands × (canon k c.stands ≡ c.stands) × Calls (next c.stands) cs r
Calls (require why holds format) cs r = (holds ≡ true) × Calls format cs r
Calls (end_or format next) [] r = Calls format [] r
Calls (end_or format next) (c ∷ cs) r = Whole indicator c.stands × (canon indicator c.stands ≡ c.stands) × Calls (next c.stands) cs r
Calls (done q) [] r = q ≡ r
Calls (done q) (c ∷ cs) r = ⊥

module _ {R : Type 0} {r : R} (k : Kind) (next : List ℕ → Format R) (x : Field) (cs : List Field) (at : ℕ) where
  field_called : Calls (field k next) (x ∷ cs) r → reading (next x.stands) (joined cs) (at + length x.stands) ≡ reached r (at + length x.stands + length (joined cs))
      → reading (field k next) (joined (x ∷ cs)) at ≡ reached r (at + length (joined (x ∷ cs)))
  field_called c e =
      let n : at + length x.stands + length (joined cs) ≡ at + length (joined (x ∷ cs)) = simp length-append (omega arith) in
      field_read k next x.stands (joined cs) at c.0 ∙ ap (λ (f : List ℕ). reading (next f) (joined cs) (at + length x.stands)) c.1 ∙ e ∙ ap (reached r) n

-- an indicator has an octet, so the string has not ended before it
end_called : {R : Type 0} (format : Format R) (next : List ℕ → Format R) (f rest : List ℕ) (at : ℕ) → Whole indicator f → reading (end_or format next) (f ++ rest) at ≡ reading (field indicator next) (f ++ rest) at
unfolding reading
end_called format next [] rest at w = absurd (omega (arith, indicator_positive []))
end_called format next (x ∷ f) rest at w = refl

pub joined_read : {R : Type 0} (r : R) (format : Format R) (cs : List Field) → Calls format cs r → (at : ℕ) → reading format (joined cs) at ≡ reached r (at + length (joined cs))
unfolding reading
joined_read r (field k next) [] c at = absurd c
joined_read r (field k next) (x ∷ cs) c at = field_called k next x cs at c (joined_read r (next x.stands) cs c.2 (at + length x.stands))
joined_read r (require why holds format) cs c at = rw c.0 (joined_read r format cs c.1 at)
joined_read r (end_or format next) [] c at = joined_read r format [] c at
joined_read r (end_or format next) (x ∷ cs) c at = end_called format next x.stands (joined cs) at c.0 ∙ field_called indicator next x cs at c (joined_read r (next x.stands) cs c.2 (at + length x.stands))
joined_read r (done q) [] c at = ap₂ reached c (omega arith)
joined_read r (done q) (x ∷ cs) c at = absurd c

-- a format and what follows it
pub calls_then : {A R : Type 0} (a : A) (r : R) (format : Format A) (next : A → Format R) → Endless format → (cs ds : List Field) → Calls format cs a → Calls (next a) ds r → Calls (format then next) (cs ++ ds) r
calls_then a r (field k more) next endless [] ds c d = absurd c
calls_then a r (field k more) next endless (x ∷ cs) ds (w, again, c) d = (w, again, calls_then a r (more x.stands) next (endless x.stands) cs ds c d)
calls_then a r (require why holds format) next endless cs ds (h, c) d = (h, calls_then a r format next endless cs ds c d)
calls_then a r (end_or format more) next endless cs ds c d = absurd endless
calls_then a r (done q) next endless [] ds c d = rw c d
calls_then a r (done q) next endless (x ∷ cs) ds c d = absurd c
