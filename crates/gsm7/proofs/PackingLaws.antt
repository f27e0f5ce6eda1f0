-- What holds of every text that is packed.
-- Assumes nothing.
use Rattle.std.specs.Prelude.{Ok}
use Prim.Native.Nat.{ℕ, ◌+◌, ◌≤◌}
use mathlib.Core.Path.{◌≡◌, refl, sym, ◌∙◌, ap, ap₂}
use mathlib.Core.Bool.{Bool, true, false}
use mathlib.Core.List.{List, []}
use mathlib.Core.Option.{Option, none, some}
use mathlib.Core.Logic.{◌↔◌}
use native.Mathlib.Omega.{arith}
use native.Mathlib.Nat.{zero-add}
use borrow.Author.Tests.{ltb-true, ltb-false}
use lib.Dec.{ltb}
use lib.ListN.{length}
use Rattle.octets.specs.Lent.{refused, made}
use Rattle.octets.specs.declared.Refusal.TheVariants.{NotInAlphabet}
use Rattle.septets.specs.Septets.{octet_count, septets_in, packed_septets, header_septets}
use Rattle.septets.proofs.Inverse.{length_packed, length_septets, septets_septets}
use Rattle.gsm7.specs.Reading.{text_of, replaced_in, text_given, unpacked}
use Rattle.gsm7.specs.Writing.{septets_of}
use Rattle.gsm7.specs.Packing.{packed_as, packing}
use Rattle.gsm7.specs.declared.decode.Unpacked.{Unpacked}
use Rattle.gsm7.specs.declared.packing.Packed.{Packed}
use Rattle.octets.proofs.Checks.{never}
use Rattle.octets.proofs.Places.{given}
use Rattle.gsm7.specs.Characters.{Entry, spelled}
use Rattle.gsm7.proofs.Reading.{unpacked_long, unpacked_few, unpacked_done}
use Rattle.gsm7.proofs.Adequate.{entries_of, written, text_packed_text, packed_none_replaced}
use Rattle.gsm7.proofs.EncodingLaws.{read_again}
use Rattle.gsm7.proofs.PackingCases.{length_after, packing_none, packing_many, packing_done, packing_made}

-- refused with 10 exactly when the text is not characters of the tables, one after the other
pub refused_with_10 : (header text : List ℕ) → (packing header text ≡ refused NotInAlphabet) ↔ ((es : List Entry) → spelled es ≡ text → ⊥)
refused_with_10 header text = by_septets (septets_of text) refl
  where
    clash : (ss : List ℕ) → septets_of text ≡ some ss → packing header text ≡ refused NotInAlphabet → (t : Bool) → ltb 255 (header_septets (length header) + length ss) ≡ t → ⊥
    clash ss e p true q = let r = packing_many header text ss e (ltb-true _ _ q) in let z : ◌≡◌ {A = ℕ} 0 1 = cc in omega arith
    clash ss e p false q = let r = packing_done header text ss e (ltb-false _ _ q) in let z : ◌≡◌ {A = ℕ} 0 1 = cc in omega arith

    by_septets : (o : Option (List ℕ)) → septets_of text ≡ o → (packing header text ≡ refused NotInAlphabet) ↔ ((es : List Entry) → spelled es ≡ text → ⊥)
    by_septets none e = ((λ p es q. let w = sym (written es) ∙ ap septets_of q ∙ e in let z : ◌≡◌ {A = ℕ} 0 1 = cc in omega arith), λ h. packing_none header text e)
    by_septets (some ss) e =
        ((λ p es q. clash ss e p (ltb 255 (header_septets (length header) + length ss)) refl), λ h. absurd (let w = entries_of text ss e in h w.0 w.1))

-- the counts that a packer tells: the octets are those of the septets (TP-UDL), and never pass 224
pub packing_counts : (header text xs : List ℕ) (told : Packed) → packing header text ≡ made xs told
    → (told.octets ≡ length xs) × (length xs ≡ octet_count 0 told.septets) × (length xs ≤ 224)
packing_counts header text xs told p =
    let m = packing_made header text xs told p in
    let long = ap length m.3 ∙ length_after header m.0 in
    (ap (λ (b : Packed). b.octets) m.4 ∙ sym (ap length m.3), long ∙ ap (λ (b : Packed). octet_count 0 b.septets) (sym m.4), omega (arith, m.2, long))

-- what was packed reads back as the text, none replaced
pub packed_reads : (text xs : List ℕ) (told : Packed) → packing [] text ≡ made xs told → unpacked xs 0 told.septets ≡ Ok (text_given text 0)
packed_reads text xs told p =
    let m = packing_made [] text xs told p in
    let n : told.septets ≡ length m.0 = ap (λ (b : Packed). b.septets) m.4 ∙ zero-add _ in
    let few : length m.0 ≤ 255 = omega (arith, m.2) in
    ap₂ (λ (os : List ℕ) (k : ℕ). unpacked os 0 k) m.3 n
    ∙ unpacked_done (packed_septets 0 m.0) 0 (length m.0) few (rw length_packed (omega arith))
    ∙ ap₂ (λ (t : List ℕ) (k : ℕ). Ok (text_given t k)) (text_packed_text 0 text m.0 m.1) (packed_none_replaced 0 text m.0 m.1)

-- a text that was read with none replaced, and packed again, gives the same septets
module _ (os : List ℕ) (n : ℕ) where
  abbrev ss : List ℕ
  ss = septets_in os 0 n

  abbrev Again : Type 0
  Again = (unpacked os 0 n ≡ Ok (text_given (text_of ss) 0)) × (packing [] (text_of ss) ≡ made (packed_septets 0 ss) (packed_as (packed_septets 0 ss) n))

  again : {text : Unpacked} → n ≤ 255 → octet_count 0 n ≤ length os → unpacked os 0 n ≡ Ok text → text.replaced_escapes ≡ 0 → Again
  unfolding text_given
  again few enough e none_is =
      let read = unpacked_done os 0 n few enough in
      let counted : replaced_in ss ≡ 0 = ap (λ (u : Unpacked). u.replaced_escapes) (given (sym read ∙ e)) ∙ none_is in
      let long : length ss ≡ n = length_septets os 0 n in
      (read ∙ ap (λ (k : ℕ). Ok (text_given (text_of ss) k)) counted, packing_done [] (text_of ss) ss (read_again ss (septets_septets os 0 n) counted) (omega arith) ∙ rw (long, zero-add))

  pub packed_again : {text : Unpacked} → unpacked os 0 n ≡ Ok text → text.replaced_escapes ≡ 0 → Again
  packed_again e none_is = by_count (ltb 255 n) refl (ltb (length os) (octet_count 0 n)) refl
    where
      by_count : (t : Bool) → ltb 255 n ≡ t → (u : Bool) → ltb (length os) (octet_count 0 n) ≡ u → Again
      by_count true p u q = absurd (never (sym e ∙ unpacked_long os 0 n (ltb-true _ _ p)))
      by_count false p true q = absurd (never (sym e ∙ unpacked_few os 0 n (ltb-false _ _ p) (ltb-true _ _ q)))
      by_count false p false q = again (ltb-false _ _ p) (ltb-false _ _ q) e none_is
