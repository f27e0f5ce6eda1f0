-- In the septets of a text every escape has its code after it, and a code is no escape.
-- Assumes nothing.
use Prim.Native.Nat.{ℕ, zero, suc, ◌+◌, ◌<◌}
use mathlib.Core.Path.{◌≡◌, refl, sym, ◌∙◌, subst}
use mathlib.Core.Bool.{not}
use mathlib.Core.List.{List, [], ◌∷◌}
use mathlib.Core.Option.{some}
use native.Mathlib.Omega.{arith}
use native.Mathlib.Nat.{add-suc}
use borrow.Author.Tests.{not-true, eqb-false}
use lib.Dec.{eqb}
use lib.ListN.{length, get_or, drop, length-drop}
use lib.Seq.{get_or-drop}
use Rattle.octets.proofs.Table.{below}
use Rattle.gsm7.specs.Alphabet.{extension, row}
use Rattle.gsm7.specs.Characters.{Entry, plain, extended, coded}
use Rattle.gsm7.specs.Writing.{septets_of}
use Rattle.gsm7.proofs.Adequate.{entries_of}

-- every escape has a code after it, which is no escape
abbrev pub Escapes : List ℕ → Type 0
Escapes ss = (i : ℕ) → get_or ss i 0 ≡ 0x1b → (suc i < length ss) × (get_or ss (suc i) 0 ≡ 0x1b → ⊥)

pub escapes_drop : (k : ℕ) (ss : List ℕ) → Escapes ss → Escapes (drop k ss)
escapes_drop k ss w i e =
    let h = w (k + i) (sym (get_or-drop k ss i 0) ∙ e) in
    (rw length-drop (omega (arith, h.0)), λ q. h.1 (rw (← add-suc) (sym (get_or-drop k ss (suc i) 0) ∙ q)))

-- a code of the extension table is no escape
pub extended_code_lem : (i : ℕ) → i < 10 → (get_or extension i (row 0 0)).code ≡ 0x1b → ⊥
extended_code_lem i h = eqb-false _ _ (not-true _ (below (λ i. not (eqb (get_or extension i (row 0 0)).code 0x1b)) 10 refl i h))

pub coded_escapes : (es : List Entry) → Escapes (coded es)
unfolding coded
coded_escapes [] i e = absurd (omega arith)
coded_escapes (plain code h n ∷ es) zero e = absurd (n e)
coded_escapes (plain code h n ∷ es) (suc i) e = let r = coded_escapes es i e in (omega (arith, r.0), r.1)
coded_escapes (extended place h ∷ es) zero e = (omega arith, extended_code_lem place h)
coded_escapes (extended place h ∷ es) (suc zero) e = absurd (extended_code_lem place h e)
coded_escapes (extended place h ∷ es) (suc (suc i)) e = let r = coded_escapes es i e in (omega (arith, r.0), r.1)

pub text_escapes : (text ss : List ℕ) → septets_of text ≡ some ss → Escapes ss
text_escapes text ss e = let w = entries_of text ss e in subst Escapes w.2 (coded_escapes w.0)
