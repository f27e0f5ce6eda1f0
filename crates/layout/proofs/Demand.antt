-- Demand 3 from one lemma about each record that a format makes.
-- Assumes nothing.
use Prim.Native.Nat.{ℕ, ◌≤◌}
use mathlib.Core.Path.{◌≡◌, refl, sym, ap, ◌∙◌}
use mathlib.Core.Bool.{Bool, true, false, ◌||◌, false≢true, true≢false}
use mathlib.Core.List.{List, ◌++◌}
use mathlib.Core.Logic.{◌↔◌, ◌⊎◌, inl, inr, ⊎_elim}
use borrow.Author.Tests.{le-leb}
use lib.ListN.{length, drop}
use Rattle.std.specs.Prelude.{if◌then◌else◌, Ok, Err}
use Rattle.octets.specs.Each.{Octets}
use Rattle.octets.specs.Lent.{Making, refused, made, lend}
use Rattle.octets.specs.declared.Refusal.{Refusal}
use Rattle.layout.specs.Demand.{Demand3}
use Rattle.layout.specs.Layout.{Field, joined, Format, Generates, reached, read_from, fields_of, any_past_limit, plain, stopping, stops, read, canonical_of, unwritable}
use Rattle.layout.proofs.Laws.{sound, complete, same}
use Rattle.layout.proofs.Makes.{Makes, makes}

-- ---- what a writer makes of a record that was read

-- these octets, or a refusal where b says so
abbrev pub Answers : Making ℕ → List ℕ → Bool → Type 0
Answers making octets false = making ≡ made octets (length octets)
Answers making octets true = (why : Refusal) × (making ≡ refused why)

-- one more check before it
pub answers_checked : (fails : Bool) (why : Refusal) (making : Making ℕ) (octets : List ℕ) (b : Bool) → Answers making octets b → Answers (if fails then refused why else making) octets (fails || b)
answers_checked true why making octets b a = (why, refl)
answers_checked false why making octets b a = a

-- the second of two fields is checked first
pub answers_two : (a b : Bool) (why also : Refusal) (xs octets : List ℕ) → xs ≡ octets → Answers (if b then refused also else if a then refused why else made xs (length xs)) octets (a || (b || false))
answers_two true true why also xs octets e = (also, refl)
answers_two true false why also xs octets e = (why, refl)
answers_two false true why also xs octets e = (also, refl)
answers_two false false why also xs octets e = rw e

lent : (making : Making ℕ) (octets : List ℕ) (b : Bool) → Answers making octets b → (buffer : List ℕ) → length octets ≤ length buffer
    → (b ≡ false → lend making buffer ≡ (Ok (length octets), octets ++ drop (length octets) buffer))
    × (b ≡ true → (why : Refusal) × (lend making buffer ≡ (Err why, buffer)))
unfolding lend
lent making octets false a buffer h = (λ e. rw (a, le-leb (length octets) (length buffer) h), λ e. absurd (false≢true e))
lent making octets true a buffer h = (λ e. absurd (true≢false e), λ e. (a.0, rw a.1))

module _ {R : Type 0} (cleared : R → R) (write : R → Making ℕ) where
  -- two records are equal exactly when the canonical octets are
  abbrev pub Alike : R → List ℕ → R → List ℕ → Type 0
  Alike r c q d = (cleared r ≡ cleared q) ↔ (c ≡ d)

  -- the stopped record z, which stands as these octets, beside the records of the format
  pub record Stopped (format : Format R) (stands : List ℕ) (z : R) (refuses : Bool) : Type 0 where
    pub alike : (s : List ℕ) (r : R) (n : ℕ) → Octets s → read_from format s 0 ≡ reached r n → Alike z stands r (joined (fields_of format s))
    pub answer : Answers (write z) stands refuses

  -- no record of the format is equal to it and no string of it stands as these octets, and the writer refuses it
  pub stopped_apart : {why : Refusal} (format : Format R) (stands : List ℕ) (z : R) → Makes (λ r cs. (cleared z ≡ cleared r → ⊥) × (stands ≡ joined cs → ⊥)) format → write z ≡ refused why → Stopped format stands z true
  unfolding read_from
  stopped_apart {why} format stands z m w = record {
    alike = λ s r n o e. let never = makes _ format m s 0 o e in (λ p. absurd (never.0 p), λ c. absurd (never.1 c));
    answer = (why, w);
  }

  module _ (octets_of : R → List ℕ) where
    -- the one lemma: a record has the octets of its fields, whatever is no part of it, and the writer makes these, or refuses where one is past its limit
    pub record Writes (r : R) (cs : List Field) : Type 0 where
      pub octets : octets_of (cleared r) ≡ joined cs
      pub answer : Answers (write r) (joined cs) (any_past_limit cs)

    module _ (format : Format R) (m : Makes Writes format) where
      of_read : {r : R} {n : ℕ} (s : List ℕ) → Octets s → read_from format s 0 ≡ reached r n → Writes r (fields_of format s)
      unfolding read_from
      of_read s = makes Writes format m s 0

      alike_read : (s t : List ℕ) (r q : R) (n m : ℕ) → Octets s → Octets t → read_from format s 0 ≡ reached r n → read_from format t 0 ≡ reached q m → Alike r (joined (fields_of format s)) q (joined (fields_of format t))
      unfolding read_from
      alike_read s t r q n m os ot d e = (λ p. sym (of_read s os d).octets ∙ ap octets_of p ∙ (of_read t ot e).octets, λ c. ap cleared (same format s t 0 0 os ot d e c))

      pub demand3 : Demand3 cleared (plain format) write false
      unfolding read read_from canonical_of unwritable
      demand3 = record {
        takes = λ s. (λ h. sound format s 0 h.2, complete format s 0);
        equals = alike_read;
        writes = λ s r n o e. lent (write r) _ _ (of_read s o e).answer;
      }

      -- what the writer makes of a record that was read, whatever the buffer
      pub answers_plain : (s : List ℕ) → Octets s → (r : R) (n : ℕ) → read (plain format) s ≡ reached r n → Answers (write r) (canonical_of (plain format) s) (unwritable (plain format) false s)
      unfolding read read_from canonical_of unwritable
      answers_plain s o r n e = (of_read s o e).answer

      -- these octets are themselves a string of the format, which stands as it is and is read as the stopped record
      pub stopped_in_format : {n : ℕ} (stands : List ℕ) (z : R) → Octets stands → read_from format stands 0 ≡ reached z n → joined (fields_of format stands) ≡ stands → Stopped format stands z (any_past_limit (fields_of format stands))
      stopped_in_format {n} stands z o e c = record {
        alike = λ s r m p d. rw c at (alike_read stands s z r n m o p e d);
        answer = rw c at (of_read stands o e).answer;
      }

      module _ (mti : ℕ) (stands : List ℕ) (z : R) (refuses : Bool) (stop : Stopped format stands z refuses) where
        is_z : {r : R} {n : ℕ} → reached z 1 ≡ reached r n → z ≡ r
        is_z e = cc

        takes_if : (b : Bool) (s : List ℕ) → ((r : R) × (n : ℕ) × ((if b then reached z 1 else read_from format s 0) ≡ reached r n)) ↔ ((b ≡ true) ⊎ ((b ≡ false) × Generates format s))
        unfolding read_from
        takes_if true s = (λ h. inl refl, λ g. (z, 1, refl))
        takes_if false s = (λ h. inr (refl, sound format s 0 h.2), ⊎_elim (λ e. absurd (false≢true e)) (λ g. complete format s 0 g.1))

        alike_if : (a b : Bool) (s t : List ℕ) (r q : R) (n m : ℕ) → Octets s → Octets t
            → (if a then reached z 1 else read_from format s 0) ≡ reached r n → (if b then reached z 1 else read_from format t 0) ≡ reached q m
            → Alike r (if a then stands else joined (fields_of format s)) q (if b then stands else joined (fields_of format t))
        alike_if true true s t r q n m os ot d e = (λ p. refl, λ c. ap cleared (sym (is_z d) ∙ is_z e))
        alike_if true false s t r q n m os ot d e = rw (is_z d) at (stop.alike t q m ot e)
        alike_if false true s t r q n m os ot d e = let (p, c) = rw (is_z e) at (stop.alike s r n os d) in (λ h. sym (p (sym h)), λ h. sym (c (sym h)))
        alike_if false false s t r q n m os ot d e = alike_read s t r q n m os ot d e

        answers_if : (b : Bool) (s : List ℕ) (r : R) (n : ℕ) → Octets s → (if b then reached z 1 else read_from format s 0) ≡ reached r n
            → Answers (write r) (if b then stands else joined (fields_of format s)) (if b then refuses else any_past_limit (fields_of format s))
        answers_if true s r n o e = rw (is_z e) at stop.answer
        answers_if false s r n o e = (of_read s o e).answer

        pub demand3_stopping : Demand3 cleared (stopping mti stands z format) write refuses
        unfolding read canonical_of unwritable
        demand3_stopping = record {
          takes = λ s. takes_if (stops mti s) s;
          equals = λ s t. alike_if (stops mti s) (stops mti t) s t;
          writes = λ s r n o e. lent (write r) _ _ (answers_if (stops mti s) s r n o e);
        }

        pub answers_stopping : (s : List ℕ) → Octets s → (r : R) (n : ℕ) → read (stopping mti stands z format) s ≡ reached r n
            → Answers (write r) (canonical_of (stopping mti stands z format) s) (unwritable (stopping mti stands z format) refuses s)
        unfolding read canonical_of unwritable
        answers_stopping s o r n = answers_if (stops mti s) s r n o
