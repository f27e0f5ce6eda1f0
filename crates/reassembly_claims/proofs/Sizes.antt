-- How many octets a message that is taken has.
-- Assumes nothing.
use Prim.Native.Nat.{ℕ, suc, ◌-◌, ◌*◌, ◌≤◌}
use mathlib.Core.Path.{◌≡◌, refl, sym}
use mathlib.Core.Bool.{Bool, true, false}
use mathlib.Core.List.{List, [], ◌∷◌, ◌++◌}
use mathlib.Core.Option.{Option, none, some}
use native.Mathlib.Nat.{suc-mul}
use native.Mathlib.Omega.{arith}
use borrow.Author.Tests.{eqb-false}
use lib.Dec.{eqb, leb}
use lib.ListN.{length, get_or, drop, length-append, length-drop}
use Rattle.octets.specs.Answers.{Said}
use Rattle.std.specs.Prelude.{if◌then◌else◌, Ok, Err}
use Rattle.octets.specs.Lent.{lend}
use Rattle.octets.specs.declared.Refusal.TheVariants.{OutputTooShort}
use Rattle.octets.proofs.Checks.{never}
use Rattle.coding.specs.Coding.{coding_of}
use Rattle.coding.specs.declared.UserDataCoding.{UserDataCoding}
use Rattle.coding.specs.declared.UserDataCoding.TheVariants.{Gsm7Bit, EightBit, Ucs2, Compressed}
use Rattle.septets.specs.Septets.{header_septets, fill_bits}
use Rattle.gsm7.proofs.DecodingLaws.{text_short}
use Rattle.user_data_header.specs.Header.{header_octets}
use Rattle.message_store.specs.Part.{Part, text_after, shown_in}
use Rattle.message_store.specs.Store.{slot_at, with_slot, Message, message_in, missing_of, shown_parts, shown_of}
use Rattle.reassembly.specs.declared.MessageTaken.{MessageTaken}
use Rattle.reassembly.specs.Calls.{message_making, closed_by, handing, taking_from}
use Rattle.reassembly_claims.proofs.Held.{SmallPart}

-- at most b octets of each part
pub shown_few : (dcs b : ℕ) (ps : List (Option Part)) → ((i : ℕ) (p : Part) → get_or ps i none ≡ some p → length (shown_in (coding_of dcs) p) ≤ b) → length (shown_parts dcs ps) ≤ length ps * b
unfolding shown_parts
shown_few dcs b [] each = omega arith
shown_few dcs b (none ∷ ps) each = rw suc-mul (omega (arith, shown_few dcs b ps (λ i p e. each (suc i) p e)))
shown_few dcs b (some p ∷ ps) each =
    rw (suc-mul, length-append (shown_in (coding_of dcs) p) (shown_parts dcs ps)) (omega (arith, each 0 p refl, shown_few dcs b ps (λ i q e. each (suc i) q e)))

-- a part with a header of 6 octets, which takes 7 septets, leaves 248 septets or 249 octets
pub small_shown : (coding : UserDataCoding) (p : Part) → SmallPart p → length (shown_in coding p) ≤ 496
unfolding shown_in text_after
small_shown Gsm7Bit p (h, u, n) = let k = header_octets p.octets in omega (arith, text_short (drop k p.octets) (fill_bits k) (p.udl - header_septets k))
small_shown EightBit p (h, u, n) = let e = length-drop (header_octets p.octets) p.octets in omega arith
small_shown Ucs2 p (h, u, n) = let e = length-drop (header_octets p.octets) p.octets in omega arith
small_shown Compressed p (h, u, n) = let e = length-drop (header_octets p.octets) p.octets in omega arith

-- the message of a slot that was given whole
handed_whole : (total : ℕ) (slot out : List ℕ) (dcs n : ℕ) → (handing total slot out).0 ≡ Ok (MessageTaken.Whole dcs n) → n ≡ length (shown_of (message_in total slot))
unfolding handing message_making lend
handed_whole total slot out dcs n e = by_tests (eqb (length (missing_of m)) 0) (leb (length (shown_of m)) (length out)) e
  where
    m : Message
    m = message_in total slot

    lent : Bool → Said MessageTaken × List ℕ
    lent t = if t then (Ok (MessageTaken.Whole m.dcs (length (shown_of m))), shown_of m ++ drop (length (shown_of m)) out) else (Err OutputTooShort, out)

    by_tests : (a b : Bool) → (if◌then◌else◌ {A = Said MessageTaken × List ℕ × List ℕ} a ((lent b).0, closed_by (lent b).0 slot, (lent b).1) (Ok MessageTaken.NotWhole, slot, out)).0 ≡ Ok (MessageTaken.Whole dcs n) → n ≡ length (shown_of m)
    by_tests true true q = cc
    by_tests true false q = absurd (never (sym q))
    by_tests false b q = let z : ◌≡◌ {A = ℕ} 0 1 = cc in absurd (omega arith)

-- the message that was taken whole: the slot that was found, and all that is shown of it
pub whole_is : (found : Said ℕ) (total : ℕ) (store out : List ℕ) (dcs n : ℕ) → (taking_from found total store out).0 ≡ Ok (MessageTaken.Whole dcs n)
    → (k : ℕ) × (Ok k ≡ found) × (k ≡ 16 → ⊥) × (n ≡ length (shown_of (message_in total (slot_at k store))))
whole_is (Err why) total store out dcs n e = absurd (never (sym e))
whole_is (Ok k) total store out dcs n e = by_slot (eqb k 16) refl e
  where
    handed : Said MessageTaken × List ℕ × List ℕ
    handed = handing total (slot_at k store) out

    by_slot : (t : Bool) → eqb k 16 ≡ t → (if◌then◌else◌ {A = Said MessageTaken × List ℕ × List ℕ} t (Ok MessageTaken.NotOpen, store, out) (handed.0, with_slot k handed.1 store, handed.2)).0 ≡ Ok (MessageTaken.Whole dcs n)
        → (j : ℕ) × ◌≡◌ {A = Said ℕ} (Ok j) (Ok k) × (j ≡ 16 → ⊥) × (n ≡ length (shown_of (message_in total (slot_at j store))))
    by_slot true p q = let z : ◌≡◌ {A = ℕ} 0 1 = cc in absurd (omega arith)
    by_slot false p q = (k, refl, eqb-false k 16 p, handed_whole total (slot_at k store) out dcs n q)
