-- The parts of a text written one after the other: what is left, written too, still gives the whole.
-- Assumes nothing.
use Prim.Native.Nat.{ℕ, ◌+◌, ◌<◌, ◌≤◌, ◌^◌}
use mathlib.Core.Path.{◌≡◌, refl, sym, ◌∙◌, ap, subst}
use mathlib.Core.Bool.{Bool, true, false}
use mathlib.Core.List.{List, [], ◌∷◌, ◌++◌}
use mathlib.Core.Option.{Option, none, some}
use native.Mathlib.Omega.{arith}
use borrow.Author.Tests.{ltb-true, ltb-false}
use lib.Dec.{ltb}
use lib.ListN.{length, get_or, drop, length-append, get_or-append, get_or-eq_default}
use Rattle.octets.specs.Lent.{Wrote}
use Rattle.octets.proofs.Laws.{Left, left_step, left_end}
use Rattle.septets.specs.Septets.{Digits}
use Rattle.gsm7.specs.Writing.{septets_of}
use Rattle.gsm7.proofs.Adequate.{septets_digits}
use Rattle.gsm7.proofs.Scanning.{scan_end}
use Rattle.concatenation.specs.Cutting.{parts_of}
use Rattle.concatenation.specs.Messages.{message, part_header, numbered}
use Rattle.concatenation.specs.Internal.{with_rest, PartAt}
use Rattle.concatenation.proofs.InTurn.{no_parts}

-- `number` parts are written, and the text from `from` on is left
pub record Putting (reference total : ℕ) (whole : List ℕ) (end : ℕ) (text : List ℕ) (from number : ℕ) (out : List ℕ) (at : ℕ) : Type 0 where
  pub rest : List ℕ
  pub septets : septets_of (drop from text) ≡ some rest
  pub parts : number + length (parts_of rest) ≡ total
  pub left : Left whole end out at (numbered reference total (number + 1) (parts_of rest))

digits_front : (p rest : List ℕ) → Digits 7 (p ++ rest) → Digits 7 p
digits_front p rest d i = by_test (ltb i (length p)) refl
  where
    by_test : (t : Bool) → ltb i (length p) ≡ t → get_or p i 0 < 2 ^ 7
    by_test true e = rw (get_or-append p rest 0 i (ltb-true _ _ e)) at (d i)
    by_test false e = rw (get_or-eq_default p 0 (ltb-false i (length p) e)) (omega arith)

with_some : (p rest : List ℕ) (o : Option (List ℕ)) → with_rest p o ≡ some rest → (rest' : List ℕ) × (o ≡ some rest') × (rest ≡ p ++ rest')
with_some p rest none e = let z : ◌≡◌ {A = ℕ} 0 1 = cc in absurd (omega arith)
with_some p rest (some rest') e = (rest', refl, cc)

module _ {reference total : ℕ} {whole : List ℕ} {end : ℕ} {text : List ℕ} {from number : ℕ} {out : List ℕ} {at : ℕ} (s : Putting reference total whole end text from number out at) where
  pub putting_end : length text ≤ from → (at ≡ end) × (out ≡ whole)
  unfolding numbered
  putting_end l =
      let e : s.rest ≡ [] = let q = s.septets in let r = scan_end text from l in cc in
      left_end s.left (rw (e, no_parts))

  module _ {p : List ℕ} {next : ℕ} (part : PartAt text from p next) where
    following : (rest' : List ℕ) × (septets_of (drop next text) ≡ some rest') × (s.rest ≡ p ++ rest')
    following = with_some p s.rest (septets_of (drop next text)) (sym part.septets ∙ s.septets)

    in_turn : parts_of s.rest ≡ p ∷ parts_of following.0
    in_turn = ap parts_of following.2 ∙ part.first following.0 following.1

    message_first : numbered reference total (number + 1) (parts_of s.rest) ≡ message (part_header reference total (number + 1)) p ++ numbered reference total (number + 1 + 1) (parts_of following.0)
    unfolding numbered
    message_first = rw in_turn

    pub putting_room : at + length (message (part_header reference total (number + 1)) p) ≤ end
    putting_room = omega (arith, s.left.place, simp length-append at (ap length message_first))

    pub putting_digits : Digits 7 p
    putting_digits = digits_front p following.0 (subst (Digits 7) following.2 (septets_digits (drop from text) s.rest s.septets))

    pub putting_next : {out' : List ℕ} {at' : ℕ} → Wrote at (message (part_header reference total (number + 1)) p) out at' out' → Putting reference total whole end text next (number + 1) out' at'
    putting_next w = record {
      rest = following.0;
      septets = following.1;
      parts = omega (arith, s.parts, ap length in_turn);
      left = left_step (numbered reference total (number + 1 + 1) (parts_of following.0)) s.left w message_first;
    }
