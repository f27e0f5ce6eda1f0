-- Demands 2 and 3 of document 01, of a kind's readers and its writer; and what is read and written back.
use Rattle.std.specs.Prelude.{ℕ, ◌≤◌, ◌≡◌, Bool, true, false, List, ◌++◌, ◌↔◌, length, take, drop, Ok, Err}
use Rattle.octets.specs.Answers.{Said, fine}
use Rattle.octets.specs.Each.{Octets}
use Rattle.octets.specs.Lent.{Making, refused, made, lend}
use Rattle.octets.specs.declared.Refusal.{Refusal}
use Rattle.layout.specs.Layout.{Layout, Reached, reached, halted, read, answer, alone, Generated, canonical_of, unwritable}

-- ---- demand 3

-- `cleared` is a record with what is no part of it set to zero: records are equal where these are; `stopped` says that the kind's writer refuses the stopped record
pub record Demand3 {R : Type 0} (cleared : R → R) (l : Layout R) (write : R → Making ℕ) (stopped : Bool) : Type 0 where
  -- the reader takes a string exactly when the layout generates it
  pub takes : (s : List ℕ) → ((r : R) × (n : ℕ) × (read l s ≡ reached r n)) ↔ Generated l s
  -- two records that were read are equal exactly when the canonical octets are
  pub equals : (s t : List ℕ) (r q : R) (n m : ℕ) → Octets s → Octets t → read l s ≡ reached r n → read l t ≡ reached q m
      → (cleared r ≡ cleared q) ↔ (canonical_of l s ≡ canonical_of l t)
  -- the writer of a record that was read, lent a buffer at least as long as the canonical octets, writes exactly these, or refuses where the record is unwritable
  pub writes : (s : List ℕ) (r : R) (n : ℕ) → Octets s → read l s ≡ reached r n → (buffer : List ℕ) → length (canonical_of l s) ≤ length buffer
      → (unwritable l stopped s ≡ false → lend (write r) buffer ≡ (Ok (length (canonical_of l s)), canonical_of l s ++ drop (length (canonical_of l s)) buffer))
      × (unwritable l stopped s ≡ true → (why : Refusal) × (lend (write r) buffer ≡ (Err why, buffer)))

-- the same of what the public functions answer: the reader to a string the record, the writer to a record and a lent buffer its answer and the buffer afterwards
pub record Answers3 {R : Type 0} (cleared : R → R) (l : Layout R) (write : R → Making ℕ) (stopped : Bool) : Type 0 where
  pub takes : (s : List ℕ) → ((r : R) × (answer alone (read l s) ≡ Ok r)) ↔ Generated l s
  pub equals : (s t : List ℕ) (r q : R) → Octets s → Octets t → answer alone (read l s) ≡ Ok r → answer alone (read l t) ≡ Ok q
      → (cleared r ≡ cleared q) ↔ (canonical_of l s ≡ canonical_of l t)
  pub writes : (s : List ℕ) (r : R) → Octets s → answer alone (read l s) ≡ Ok r → (buffer : List ℕ) → length (canonical_of l s) ≤ length buffer
      → (unwritable l stopped s ≡ false → lend (write r) buffer ≡ (Ok (length (canonical_of l s)), canonical_of l s ++ drop (length (canonical_of l s)) buffer))
      × (unwritable l stopped s ≡ true → (why : Refusal) × (lend (write r) buffer ≡ (Err why, buffer)))

-- ---- demand 2

-- of a record r with arrays of their types' lengths (`Typed`): `layout_of r` is the layout of its outcome; `compared` a record with what is not compared set to zero; `capitalised` its time letters capital;
-- `exception r` the refusal of the reader where the kind's exception has one, which comes only where `may r`
pub record Demand2 {R : Type 0} (Typed : R → Type 0) (compared capitalised : R → R) (layout_of : R → Layout R) (write : R → Making ℕ) (exception : R → Said Unit) (may : R → Bool) : Type 0 where
  -- what was written is read back as the same record, time letters capital
  pub back : (r : R) → Typed r → (octets : List ℕ) (n : ℕ) → write r ≡ made octets n → exception r ≡ fine
      → (q : R) × (m : ℕ) × (read (layout_of r) octets ≡ reached q m) × (compared q ≡ capitalised (compared r))
  -- or refused, exactly where the exception says
  pub excepted : (r : R) → Typed r → (octets : List ℕ) (n : ℕ) → write r ≡ made octets n → (why : Refusal) → exception r ≡ Err why → read (layout_of r) octets ≡ halted why
  pub only : (r : R) (why : Refusal) → exception r ≡ Err why → may r ≡ true

-- the same of what the public functions answer: n octets were written to a lent buffer, and these are read
pub record Answers2 {R : Type 0} (Typed : R → Type 0) (compared capitalised : R → R) (layout_of : R → Layout R) (write : R → Making ℕ) (exception : R → Said Unit) : Type 0 where
  pub back : (r : R) → Typed r → (buffer : List ℕ) (n : ℕ) → (lend (write r) buffer).0 ≡ Ok n → exception r ≡ fine
      → (q : R) × (answer alone (read (layout_of r) (take n (lend (write r) buffer).1)) ≡ Ok q) × (compared q ≡ capitalised (compared r))
  pub excepted : (r : R) → Typed r → (buffer : List ℕ) (n : ℕ) → (lend (write r) buffer).0 ≡ Ok n → (why : Refusal) → exception r ≡ Err why
      → answer alone (read (layout_of r) (take n (lend (write r) buffer).1)) ≡ Err why

-- ---- read and written back

-- what is made of a string: the reader's refusal, or what the writer makes of the record
abbrev pub rewriting : {R : Type 0} → (R → Making ℕ) → Reached R → Making ℕ
rewriting write (reached r n) = write r
rewriting write (halted why) = refused why

-- so, of a string s and a lent buffer: the reader's refusal; a refusal where what is read can't be written; else the canonical octets
pub record Rewrites {R : Type 0} (l : Layout R) (stopped : Bool) (s buffer : List ℕ) (answer : Said ℕ) (after : List ℕ) : Type 0 where
  pub halts : (why : Refusal) → read l s ≡ halted why → (answer ≡ Err why) × (after ≡ buffer)
  pub unwritten : (r : R) (n : ℕ) → read l s ≡ reached r n → unwritable l stopped s ≡ true → (why : Refusal) × (answer ≡ Err why) × (after ≡ buffer)
  pub writes : (r : R) (n : ℕ) → read l s ≡ reached r n → unwritable l stopped s ≡ false
      → (answer, after) ≡ lend (made (canonical_of l s) (length (canonical_of l s))) buffer
