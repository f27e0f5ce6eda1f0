-- Demands 2 and 3, and cut messages, of what the public functions answer, from those of reader and writer.
-- Assumes nothing.
use Prim.Native.Nat.{ℕ}
use mathlib.Core.Path.{◌≡◌, refl, sym, ap, ◌∙◌}
use mathlib.Core.Bool.{Bool, true, false}
use mathlib.Core.List.{List, ◌++◌}
use mathlib.Core.Option.{Option}
use native.Mathlib.Omega.{arith}
use lib.Dec.{leb}
use lib.ListN.{length, take, drop}
use lib.Seq.{take_at, take-take}
use Rattle.octets.specs.Answers.{Said}
use Rattle.std.specs.Prelude.{if◌then◌else◌, Ok, Err}
use Rattle.octets.specs.Lent.{Making, refused, made, lend}
use Rattle.octets.specs.declared.Refusal.TheVariants.{OutputTooShort}
use Rattle.octets.proofs.Checks.{never}
use Rattle.octets.proofs.Places.{given}
use Rattle.layout.specs.Cut.{Cut, AnswersCut}
use Rattle.layout.specs.Demand.{Demand2, Demand3, Answers2, Answers3}
use Rattle.layout.specs.Layout.{Layout, Reached, reached, halted, read, answer, alone}

-- n octets written are those that were made
pub written : (m : Making ℕ) (buffer : List ℕ) (n : ℕ) → ((xs : List ℕ) (k : ℕ) → m ≡ made xs k → k ≡ length xs) → (lend m buffer).0 ≡ Ok n → (m ≡ made (take n (lend m buffer).1) n)
unfolding lend
written (refused why) buffer n counts e = absurd (never (sym e))
written (made xs k) buffer n counts e = by (leb (length xs) (length buffer)) e
  where
    lent : Bool → Said ℕ × List ℕ
    lent b = if b then (Ok k, xs ++ drop (length xs) buffer) else (Err OutputTooShort, buffer)

    by : (b : Bool) → (lent b).0 ≡ Ok n → made xs k ≡ made (take n (lent b).1) n
    by true e = let size : length xs ≡ n = sym (counts xs k refl) ∙ given e in let same : k ≡ n = given e in rw (same, ← size, take_at xs (drop (length xs) buffer) (length xs) refl)
    by false e = absurd (never (sym e))

module _ {R : Type 0} where
  -- the answer has the record that was read
  done_read : {r : R} (x : Reached R) → answer alone x ≡ Ok r → (n : ℕ) × (x ≡ reached r n)
  done_read (reached q n) e = (n, ap (λ z. reached z n) (given e))
  done_read (halted why) e = absurd (never (sym e))

  module _ (cleared : R → R) (l : Layout R) (write : R → Making ℕ) (stopped : Bool) (d : Demand3 cleared l write stopped) where
    pub answers3 : Answers3 cleared l write stopped
    answers3 = record {
      takes = λ s. (λ h. let (n, is) = done_read (read l s) h.1 in (d.takes s).0 (h.0, n, is), λ g. let (r, n, is) = (d.takes s).1 g in (r, ap (answer alone) is));
      equals = λ s t r q os ot e f.
          let (n, is) = done_read (read l s) e in
          let (m, also) = done_read (read l t) f in
          d.equals s t _ _ n m os ot is also;
      writes = λ s r o e. let (n, is) = done_read (read l s) e in d.writes s _ n o is;
    }

  module _ (Typed : R → Type 0) (compared capitalised : R → R) (layout_of : R → Layout R) (write : R → Making ℕ) (exception : R → Said Unit) (may : R → Bool)
      (d : Demand2 Typed compared capitalised layout_of write exception may) (counts : (r : R) (xs : List ℕ) (k : ℕ) → write r ≡ made xs k → k ≡ length xs) where
    pub answers2 : Answers2 Typed compared capitalised layout_of write exception
    answers2 = record {
      back = λ r t buffer n e x. let (q, m, is, same) = d.back r t _ n (written (write r) buffer n (counts r) e) x in (q, ap (answer alone) is, same);
      excepted = λ r t buffer n e why x. ap (answer alone) (d.excepted r t _ n (written (write r) buffer n (counts r) e) why x);
    }

  -- of what was written, the first k octets are those of the buffer
  module _ (Typed : R → Type 0) (compared capitalised : R → R) (layout_of : R → Layout R) (write : R → Making ℕ) (exception : R → Option ℕ) (shortened : R → R)
      (d : Cut Typed compared capitalised layout_of write exception shortened) (counts : (r : R) (xs : List ℕ) (k : ℕ) → write r ≡ made xs k → k ≡ length xs) where
    pub answers_cut : AnswersCut Typed compared capitalised layout_of write exception shortened
    answers_cut = record {
      ends = λ r t buffer n e k h x.
          let out = (lend (write r) buffer).1 in
          let w = written (write r) buffer n (counts r) e in
          let long : length (take n out) ≡ n = sym (counts r _ _ w) in
          ap (answer alone) (rw (take-take k n out (omega arith)) at (d.ends r t _ n w k (omega arith) x));
      takes = λ r t buffer n e k x.
          let out = (lend (write r) buffer).1 in
          let w = written (write r) buffer n (counts r) e in
          let long : length (take n out) ≡ n = sym (counts r _ _ w) in
          let (h, q, is, same) = d.takes r t _ n w k x in
          let here = rw (take-take k n out (omega arith)) at is in
          (omega arith, q, ap (answer alone) here, same);
    }
