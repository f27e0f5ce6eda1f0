-- What a format makes: a statement of each record that it makes, and of the canonical fields that it makes it of.
-- Assumes nothing.
use Prim.Native.Nat.{ℕ, ◌<◌}
use mathlib.Core.Path.{◌≡◌, refl}
use mathlib.Core.Bool.{true}
use mathlib.Core.List.{List, [], ◌∷◌, ◌++◌}
use native.Mathlib.Omega.{arith}
use lib.ListN.{length}
use Rattle.octets.specs.Each.{Octets}
use Rattle.octets.proofs.Each.{octets_take, octets_drop}
use Rattle.address.specs.Address.{canonical_address}
use Rattle.address.proofs.Laws.{Field as AddressField}
use Rattle.layout.specs.Layout.{Kind, first, octet, octets, address, indicator, kept, size, Whole, leading, cut, canon, Field, stands_as, Format, field, require, end_or, done, ◌then◌, reached, reading, fields_of}
use Rattle.layout.proofs.Fields.{cut_whole}
use Rattle.layout.proofs.Laws.{taken}

-- Q holds of the canonical octets of every whole field of octets
abbrev pub Every : Kind → (List ℕ → Type 0) → Type 0
Every (first bits) Q = (x : ℕ) → x < 256 → Q (kept bits x ∷ [])
Every octet Q = (x : ℕ) → x < 256 → Q (x ∷ [])
Every (octets limit n) Q = (f : List ℕ) → Octets f → n ≡ length f → Q f
Every address Q = (f : List ℕ) → AddressField f → Q (canonical_address f)
Every indicator Q = (x : ℕ) → x < 256 → Q (x ∷ [])

-- P of fields that begin with this one
abbrev pub From : {R : Type 0} → (R → List Field → Type 0) → Kind → List ℕ → R → List Field → Type 0
From P k c r cs = P r (stands_as k c ∷ cs)

-- P holds of each record that the format makes of octets, and of its canonical fields
abbrev pub Makes : {R : Type 0} → (R → List Field → Type 0) → Format R → Type 0
Makes P (field k next) = Every k (λ c. Makes (From P k c) (next c))
Makes P (require why holds format) = holds ≡ true → Makes P format
Makes P (end_or format next) = Makes P format × Every indicator (λ c. Makes (From P indicator c) (next c))
Makes P (done r) = P r []

module _ (Q : List ℕ → Type 0) where
  every : (k : Kind) → Every k Q → (f : List ℕ) → Octets f → Whole k f → Q (canon k f)
  every (first bits) m f o w = m (leading f) (o 0)
  every octet m [] o w = absurd (omega arith)
  every octet m (x ∷ []) o w = m x (o 0)
  every octet m (x ∷ y ∷ f) o w = absurd (omega arith)
  every (octets limit n) m f o w = m f o w
  every address m f o w = m f (record { octets = o; whole = w })
  every indicator m f o w = m (leading f) (o 0)

  every_also : (P : List ℕ → Type 0) → ((c : List ℕ) → P c → Q c) → (k : Kind) → Every k P → Every k Q
  every_also P also (first bits) m = λ x h. also (kept bits x ∷ []) (m x h)
  every_also P also octet m = λ x h. also (x ∷ []) (m x h)
  every_also P also (octets limit n) m = λ f o w. also f (m f o w)
  every_also P also address m = λ f w. also (canonical_address f) (m f w)
  every_also P also indicator m = λ x h. also (x ∷ []) (m x h)

-- what holds of all that it makes holds of each string that its reader takes
pub makes : {R : Type 0} {r : R} {n : ℕ} (P : R → List Field → Type 0) (format : Format R) → Makes P format → (s : List ℕ) (at : ℕ) → Octets s → reading format s at ≡ reached r n → P r (fields_of format s)
unfolding fields_of
makes {R} {r} P format m s at o e = taken {Q = λ format s at. (P : R → List Field → Type 0) → Makes P format → Octets s → P r (fields_of format s)} (record {
  by_field = λ k next s at h more P m o. more (From P k (canon k (cut k s))) (every _ k m (cut k s) (octets_take (size k s) s o) (cut_whole k s h)) (octets_drop (size k s) s o);
  by_require = λ why format s at more P m. more P (m refl);
  by_end = λ format next at e more P m. more P m.0;
  by_more = λ format next x s at more P m. more P m.1;
  by_done = λ s P m o. m;
}) format s at e P m o

-- a format, and what follows it
pub makes_then : {A R : Type 0} (Q : A → List Field → Type 0) (P : R → List Field → Type 0) (format : Format A) (next : A → Format R)
    → Makes Q format → ((a : A) (cs : List Field) → Q a cs → Makes (λ r ds. P r (cs ++ ds)) (next a)) → Makes P (format then next)
makes_then Q P (field k more) next m also = every_also _ _ (λ c n. makes_then (From Q k c) (From P k c) (more c) next n (λ a cs. also a (stands_as k c ∷ cs))) k m
makes_then Q P (require why holds format) next m also = λ h. makes_then Q P format next (m h) also
makes_then Q P (end_or format more) next m also =
    (makes_then Q P format next m.0 also, every_also _ _ (λ c n. makes_then (From Q indicator c) (From P indicator c) (more c) next n (λ a cs. also a (stands_as indicator c ∷ cs))) indicator m.1)
makes_then Q P (done a) next m also = also a [] m
