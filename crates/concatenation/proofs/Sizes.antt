-- How many octets the parts take: 141 each but the last.
-- Assumes nothing.
use Prim.Native.Nat.{ℕ, zero, suc, ◌+◌, ◌-◌, ◌*◌, ◌<◌, ◌≤◌}
use mathlib.Core.Path.{◌≡◌, refl, sym, ◌∙◌, ap}
use mathlib.Core.List.{List, [], ◌∷◌}
use mathlib.Core.Option.{some}
use native.Mathlib.Omega.{arith}
use lib.ListN.{length, take, drop, length-append, length-drop}
use lib.Seq.{length-take-le}
use Rattle.septets.specs.Septets.{octet_count}
use Rattle.gsm7.specs.Writing.{septets_of}
use Rattle.gsm7.proofs.PackingCases.{length_after}
use Rattle.concatenation.specs.Cutting.{Parts, most, cut_into, parts_of}
use Rattle.concatenation.specs.Messages.{message, part_header, numbered}
use Rattle.concatenation.specs.Internal.{last_length}
use Rattle.concatenation.proofs.Taken.{text_taken, most_near, none_of}
use Rattle.concatenation.proofs.InTurn.{parts_some}

-- every part but the last holds 152 or 153 septets
abbrev pub Full : List (List ℕ) → Type 0
Full [] = Unit
Full (p ∷ ps) = (0 < length ps → 152 ≤ length p) × Full ps

cut_full : (n : ℕ) (ss : List ℕ) → Full (cut_into n ss)
unfolding cut_into
cut_full zero ss = tt
cut_full (suc n) [] = tt
cut_full (suc n) (s ∷ ss) = (by (drop (most (s ∷ ss)) (s ∷ ss)) refl, cut_full n (drop (most (s ∷ ss)) (s ∷ ss)))
  where
    by : (rest : List ℕ) → drop (most (s ∷ ss)) (s ∷ ss) ≡ rest → 0 < length (cut_into n rest) → 152 ≤ length (take (most (s ∷ ss)) (s ∷ ss))
    by [] e h = absurd (let z = rw (none_of n) at h in omega arith)
    by (r ∷ rest) e h =
        let left : length (s ∷ ss) - most (s ∷ ss) ≡ suc (length rest) = sym (length-drop (most (s ∷ ss)) (s ∷ ss)) ∙ ap length e in
        rw (length-take-le (most (s ∷ ss)) (s ∷ ss) (omega arith)) (omega (arith, most_near (s ∷ ss)))

pub parts_full : (ss : List ℕ) → Full (parts_of ss)
parts_full ss = cut_full (length ss) ss

module _ (reference total : ℕ) where
  part_size : (n : ℕ) (p : List ℕ) → length (message (part_header reference total n) p) ≡ 1 + octet_count 0 (7 + length p)
  part_size n p = ap suc (length_after (part_header reference total n) p) ∙ omega arith

  -- a part takes at most 141 octets, and exactly 141 where it holds 152 or 153 septets
  pub under_size : (n : ℕ) (p : List ℕ) → length p ≤ 153 → length (message (part_header reference total n) p) ≤ 141
  under_size n p l = omega (arith, part_size n p)

  pub full_size : (n : ℕ) (p : List ℕ) → 152 ≤ length p → length p ≤ 153 → length (message (part_header reference total n) p) ≡ 141
  full_size n p h l = part_size n p ∙ omega arith

  pub parts_size : (n : ℕ) (ps : List (List ℕ)) → Parts ps → Full ps → 0 < length ps
      → length (numbered reference total n ps) + 141 ≡ 141 * length ps + (1 + octet_count 0 (7 + last_length 0 ps))
  unfolding numbered last_length
  parts_size n [] h f pos = absurd (omega arith)
  parts_size n (p ∷ []) h f pos = rw length-append (omega (arith, part_size n p))
  parts_size n (p ∷ q ∷ ps) h f pos = rw length-append (omega (arith, full_size n p (f.0 (omega arith)) h.0.0, parts_size (n + 1) (q ∷ ps) h.1 f.1 (omega arith)))

-- never more than 255 times 141 octets
pub parts_under : (reference total n : ℕ) (ps : List (List ℕ)) → Parts ps → length (numbered reference total n ps) ≤ 141 * length ps
unfolding numbered
parts_under reference total n [] h = omega arith
parts_under reference total n (p ∷ ps) h =
    rw length-append (omega (arith, under_size reference total n p h.0.0, parts_under reference total (n + 1) ps h.1))

last_small : (h : ℕ) (ps : List (List ℕ)) → h ≤ 153 → Parts ps → last_length h ps ≤ 153
unfolding last_length
last_small h [] l w = l
last_small h (p ∷ ps) l w = last_small (length p) ps w.0.0 w.1

-- ---- the octets of a text's messages

pub one_size : (ss : List ℕ) → length (message [] ss) ≡ 1 + octet_count 0 (length ss)
one_size ss = ap suc (length_after [] ss) ∙ omega arith

module _ (text ss : List ℕ) (e : septets_of text ≡ some ss) where
  parts_of_lem : Parts (parts_of ss)
  parts_of_lem = (text_taken text ss e).cutting.parts

  pub last_few : last_length 0 (parts_of ss) ≤ 153
  last_few = last_small 0 (parts_of ss) (omega arith) parts_of_lem

  pub all_size : 0 < length ss → (reference total : ℕ) → length (numbered reference total 1 (parts_of ss)) + 141 ≡ 141 * length (parts_of ss) + (1 + octet_count 0 (7 + last_length 0 (parts_of ss)))
  all_size some_left reference total = parts_size reference total 1 (parts_of ss) parts_of_lem (parts_full ss) (parts_some ss some_left)
