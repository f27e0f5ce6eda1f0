-- What is read and written back, by the answers of reader and writer.
-- Assumes nothing.
use Rattle.std.specs.Prelude.{Ok, Err}
use Prim.Native.Nat.{ℕ}
use mathlib.Core.Path.{◌≡◌, sym, ap, ◌∙◌}
use mathlib.Core.Bool.{Bool}
use mathlib.Core.List.{List}
use Rattle.octets.specs.Answers.{Said}
use Rattle.octets.specs.Lent.{Making, lend}
use Rattle.octets.specs.declared.Refusal.{Refusal}
use Rattle.octets.proofs.Checks.{never}
use Rattle.octets.proofs.Places.{given}
use Rattle.layout.specs.Demand.{rewriting, Rewrites}
use Rattle.layout.specs.Layout.{Layout, Reached, reached, halted, read, answer, canonical_of, unwritable}
use Rattle.layout.proofs.Demand.{Answers}

-- the answer of a reader's call, and what follows
module _ {R A : Type 0} (gives : R → ℕ → A) (write : R → Making ℕ) (x : Reached R) (buffer : List ℕ) where
  pub refused_whole : {why : Refusal} → Err why ≡ answer gives x → ◌≡◌ {A = Said ℕ × List ℕ} (Err why, buffer) (lend (rewriting write x) buffer)
  unfolding lend
  refused_whole {why} e = by x e
    where
      by : (y : Reached R) → Err why ≡ answer gives y → ◌≡◌ {A = Said ℕ × List ℕ} (Err why, buffer) (lend (rewriting write y) buffer)
      by (reached q n) e = absurd (never (sym e))
      by (halted w) e = let same : w ≡ why = cc in rw same

  -- `record_of` is the record that was given
  pub written_whole : {a : A} {w : Said ℕ} {after : List ℕ} (record_of : A → R) → ((r : R) (n : ℕ) → record_of (gives r n) ≡ r) → Ok a ≡ answer gives x
      → ◌≡◌ {A = Said ℕ × List ℕ} (w, after) (lend (write (record_of a)) buffer) → ◌≡◌ {A = Said ℕ × List ℕ} (w, after) (lend (rewriting write x) buffer)
  written_whole {a} {w} {after} record_of is e g = by x e
    where
      by : (y : Reached R) → Ok a ≡ answer gives y → ◌≡◌ {A = Said ℕ × List ℕ} (w, after) (lend (rewriting write y) buffer)
      by (reached q n) e = g ∙ ap (λ z. lend (write z) buffer) (ap record_of (given e) ∙ is q n)
      by (halted v) e = absurd (never e)

-- in terms of canonical octets
module _ {R : Type 0} (l : Layout R) (stopped : Bool) (s buffer : List ℕ) (write : R → Making ℕ) (a : (r : R) (n : ℕ) → read l s ≡ reached r n → Answers (write r) (canonical_of l s) (unwritable l stopped s)) where
  -- what becomes of a record that was read
  abbrev Both : Said ℕ → List ℕ → Making ℕ → Type 0
  Both w after m = ◌≡◌ {A = Said ℕ × List ℕ} (w, after) (lend m buffer)

  pub rewrites : {w : Said ℕ} {after : List ℕ} → Both w after (rewriting write (read l s)) → Rewrites l stopped s buffer w after
  unfolding lend
  rewrites {w} {after} e = record {
    halts = λ why h. let both : ◌≡◌ {A = Said ℕ × List ℕ} (w, after) (Err why, buffer) = rw h at e in (ap (λ z. z.0) both, ap (λ z. z.1) both);
    unwritten = λ r n h u.
        let (why, is) = rw u at (a r n h) in
        let both : ◌≡◌ {A = Said ℕ × List ℕ} (w, after) (Err why, buffer) = (rw h at e) ∙ ap (λ z. lend z buffer) is in
        (why, ap (λ z. z.0) both, ap (λ z. z.1) both);
    writes = λ r n h u. (rw h at e) ∙ ap (λ z. lend z buffer) (rw u at (a r n h));
  }
