-- Records that fields make are read as the fields are.
-- Assumes nothing.
use Prim.Native.Nat.{ℕ}
use mathlib.Core.Path.{◌≡◌, refl, ◌∙◌}
use mathlib.Core.Bool.{Bool, true, false}
use mathlib.Core.List.{List}
use Rattle.std.specs.Prelude.{if◌then◌else◌}
use Rattle.layout.specs.Layout.{Format, done, ◌then◌, Reached, reached, halted, reading, read_from, answer, Layout, plain, stopping, stops, read, records}
use Rattle.layout.proofs.Steps.{go_on, one_by_one}

module _ {A R : Type 0} (make : A → R) where
  -- what is made of what was reached
  abbrev pub onward : Reached A → Reached R
  onward (reached x n) = reached (make x) n
  onward (halted why) = halted why

  format_records : (format : Format A) (s : List ℕ) → read_from (format then λ x. done (make x)) s 0 ≡ onward (read_from format s 0)
  unfolding read_from reading
  format_records format s = one_by_one s format 0 (λ x. done (make x)) ∙ by (read_from format s 0)
    where
      by : (r : Reached A) → go_on r (λ x to. read_from (done (make x)) s to) ≡ onward r
      by (reached x n) = refl
      by (halted why) = refl

  pub read_records : (l : Layout A) (s : List ℕ) → read (records make l) s ≡ onward (read l s)
  unfolding read
  read_records (plain format) s = format_records format s
  read_records (stopping mti stands x format) s = by (stops mti s)
    where
      by : (b : Bool) → ◌≡◌ {A = Reached R} (if b then reached (make x) 1 else read_from (format then λ y. done (make y)) s 0) (onward (if b then reached x 1 else read_from format s 0))
      by true = refl
      by false = format_records format s

  -- and what the reader answers: the record of its fields
  pub answer_records : {B : Type 0} (gives : R → ℕ → B) (r : Reached A) → answer gives (onward r) ≡ answer (λ x n. gives (make x) n) r
  answer_records gives (reached x n) = refl
  answer_records gives (halted why) = refl
