-- `septets::number_from` meets its contract: the digits that are taken in, from the last on, are a number.
use Prim.Native.Nat.{ℕ, suc, ◌+◌, ◌*◌, ◌^◌, ◌%◌, ◌<◌, ◌≤◌}
use mathlib.Core.Path.{◌≡◌, refl, sym, ap, ◌∙◌}
use mathlib.Core.List.{List, [], ◌∷◌, ◌++◌, append-nil, append_assoc}
use native.Mathlib.Omega.{arith}
use native.Mathlib.Nat.{lt_of_lt_of_le, mul-suc, mul-le-mul}
use lib.ListN.{length, length-append}
use lib.Pow.{pow_mono, shl_exact}
use lib.Seq.{drop-append_seam}
use Rattle.std.specs.Iterator.Adapters.{rev_source}
use Rattle.std.specs.Slice.Iter.{iter_rest}
use Rattle.septets.specs.Septets.{number_of, Digits}
use Rattle.septets.proofs.Number.{digits_drop}
use Rattle.septets.proofs.Inverse.{number_lt}
use Rattle.septets.proofs.number_from.Goals as goal

-- one digit more, before those that are taken in: no bit of them is lost
module _ (w : ℕ) (ds left taken : List ℕ) (d : ℕ) (all : left ++ (d ∷ taken) ≡ ds) (h : Digits w ds) (narrow : w ≤ 8) (few : length ds ≤ 8) where
  more : Digits w (d ∷ taken)
  more = rw (← all, drop-append_seam) at (digits_drop w (length left) ds h)

  bits : w * length taken + w ≤ 64
  bits = rw (← mul-suc) (mul-le-mul {n₂ = 8} {m₂ = 8} narrow (omega (arith, ap length all, length-append left (d ∷ taken))))

  value : number_of w taken * 2 ^ w % 2 ^ 64 + d ≡ number_of w (d ∷ taken)
  unfolding number_of
  value = rw (shl_exact (w * length taken) w 64 (number_lt w taken (λ i. more (suc i))) bits)

  room : number_of w taken * 2 ^ w % 2 ^ 64 + d < 2 ^ 64
  room = rw value (lt_of_lt_of_le (number_lt w (d ∷ taken) more) (pow_mono {j = 64} (rw mul-suc bits)))

-- what is left loses its last digit to those that are taken in
joined : {ds left : List ℕ} (left' : List ℕ) (d : ℕ) (taken : List ℕ) → left ++ taken ≡ ds → left ≡ left' ++ (d ∷ []) → left' ++ (d ∷ taken) ≡ ds
joined left' d taken all e = sym (append_assoc left' (d ∷ []) taken) ∙ ap (λ (x : List ℕ). x ++ taken) (sym e) ∙ all

all_taken : (left taken ds : List ℕ) → left ++ taken ≡ ds → length left ≡ 0 → taken ≡ ds
all_taken [] taken ds e h = e
all_taken (x ∷ left) taken ds e h = absurd (omega (arith, h))

pub loop-digit-init : goal.loop-digit-init
unfolding number_of
loop-digit-init c = ([], append-nil _ ∙ ap (λ r. iter_rest (rev_source r)) c.into_iter-digit-iterator.ensures.into_iter_gives ∙ ap iter_rest c.rev-digit-items.ensures.source ∙ c.iter.ensures.rest, refl)

pub overflow_add-number : goal.overflow_add-number
overflow_add-number c =
    let (taken, all, is) = c.loop-digit.invariant in
    let p = c.requires in
    rw is (omega (arith, room c.args.w _ _ taken _ (joined _ _ taken all c.in-Some.ensures.steps) p.2 p.0 p.1))

pub loop-digit-preserved : goal.loop-digit-preserved
loop-digit-preserved c =
    let (taken, all, is) = c.loop-digit.invariant in
    let p = c.requires in
    let all' = joined _ _ taken all c.in-Some.ensures.steps in
    (c.in-Some.digit.now ∷ taken, all', rw is (value c.args.w _ _ taken _ all' p.2 p.0 p.1))

pub returns : goal.returns
returns c =
    let (taken, all, is) = c.loop-digit.invariant in
    is ∙ ap (number_of c.args.w) (all_taken _ taken _ all c.in-None.ensures.steps.0)
