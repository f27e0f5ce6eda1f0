-- Cut messages (document 02, Ask 9): what a kind's reader makes of a proper beginning of octets that a writer wrote.
use Rattle.std.specs.Prelude.{ℕ, ◌<◌, ◌≡◌, List, [], length, take, Ok, Err}
use Rattle.std.proofs.Math.Option.{Option, some}
use Rattle.octets.specs.Lent.{Making, made, lend}
use Rattle.octets.specs.declared.Refusal.TheVariants.{OctetsEnd}
use Rattle.layout.specs.Layout.{Format, field, require, end_or, done, Layout, plain, stopping, reached, halted, read_from, read, answer, alone}

-- ---- of a kind's readers and a writer

-- of a record r with arrays of their types' lengths (`Typed`): `layout_of r` is the layout of its kind and outcome; `exception r` the number of octets of the one proper beginning that is taken, where there is one,
-- and `shortened r` the record that this is; `compared` and `capitalised` are those of demand 2
pub record Cut {R : Type 0} (Typed : R → Type 0) (compared capitalised : R → R) (layout_of : R → Layout R) (write : R → Making ℕ) (exception : R → Option ℕ) (shortened : R → R) : Type 0 where
  -- each proper beginning of what was written is refused with 2, the exception apart
  pub ends : (r : R) → Typed r → (octets : List ℕ) (n : ℕ) → write r ≡ made octets n → (k : ℕ) → k < length octets → (exception r ≡ some k → ⊥) → read (layout_of r) (take k octets) ≡ halted OctetsEnd
  -- the exception is a proper beginning, and is read to its end as the shortened record, time letters capital
  pub takes : (r : R) → Typed r → (octets : List ℕ) (n : ℕ) → write r ≡ made octets n → (k : ℕ) → exception r ≡ some k
      → (k < length octets) × (q : R) × (read (layout_of r) (take k octets) ≡ reached q k) × (compared q ≡ capitalised (compared (shortened r)))

-- the same of what the public functions answer: n octets were written to a lent buffer, and the first k of them are read
pub record AnswersCut {R : Type 0} (Typed : R → Type 0) (compared capitalised : R → R) (layout_of : R → Layout R) (write : R → Making ℕ) (exception : R → Option ℕ) (shortened : R → R) : Type 0 where
  pub ends : (r : R) → Typed r → (buffer : List ℕ) (n : ℕ) → (lend (write r) buffer).0 ≡ Ok n → (k : ℕ) → k < n → (exception r ≡ some k → ⊥)
      → answer alone (read (layout_of r) (take k (lend (write r) buffer).1)) ≡ Err OctetsEnd
  pub takes : (r : R) → Typed r → (buffer : List ℕ) (n : ℕ) → (lend (write r) buffer).0 ≡ Ok n → (k : ℕ) → exception r ≡ some k
      → (k < n) × (q : R) × (answer alone (read (layout_of r) (take k (lend (write r) buffer).1)) ≡ Ok q) × (compared q ≡ capitalised (compared (shortened r)))

-- ---- of any layout

-- a format that never asks whether the string has ended
abbrev pub Endless : {R : Type 0} → Format R → Type 0
Endless (field k next) = (c : List ℕ) → Endless (next c)
Endless (require why holds format) = Endless format
Endless (end_or format next) = ⊥
Endless (done r) = Unit

-- a layout with such a format, which calls for an octet if this may stop it
abbrev pub EndlessLayout : {R : Type 0} → Layout R → Type 0
EndlessLayout (plain format) = Endless format
EndlessLayout (stopping mti stands r format) = Endless format × (read_from format [] 0 ≡ halted OctetsEnd)
