-- Known rows: the messages of texts around 160 septets and around a cut, and the longest text that is sent.
-- Assumes nothing.
use Prim.Native.Nat.{ℕ, zero, suc, ◌+◌, ◌*◌, ◌<◌, ◌≤◌}
use mathlib.Core.Path.{◌≡◌, refl, ◌∙◌, ap}
use mathlib.Core.List.{List, [], ◌∷◌, ◌++◌, append-nil, map}
use mathlib.Core.Option.{some}
use native.Mathlib.Omega.{arith}
use native.Mathlib.Nat.{add-zero}
use lib.ListN.{length, replicate, length-append, length-replicate, replicate-append-replicate}
use Rattle.octets.specs.Lent.{refused, made}
use Rattle.octets.specs.declared.Refusal.TheVariants.{TooManyParts}
use Rattle.septets.specs.Septets.{number_of, lowest_digits, packed_septets}
use Rattle.gsm7.specs.Alphabet.{row_with, index_of}
use Rattle.gsm7.specs.Reading.{utf8}
use Rattle.gsm7.specs.Writing.{extended_code, code_of, same, two_octets, three_octets, first_character, before, starting_with, scan, septets_of}
use Rattle.concatenation.specs.Cutting.{most, cut_into, parts_of}
use Rattle.concatenation.specs.Internal.{codes_of}
use Rattle.concatenation.specs.Messages.{message, part_header, numbered, messages_of, concatenating}
use Rattle.concatenation.proofs.InTurn.{parts_next}
use Rattle.concatenation.proofs.Sizes.{full_size}
use Rattle.concatenation.proofs.Laws.{too_many, in_parts}

-- "a" n times: its UTF-8, and its septets too; the euro sign in both
abbrev letters : ℕ → List ℕ
letters n = replicate n 0x61

abbrev euro : List ℕ
euro = 0xe2 ∷ 0x82 ∷ 0xac ∷ []

abbrev escaped : List ℕ
escaped = 0x1b ∷ 0x65 ∷ []

-- 160 septets are one message, 161 two; the euro sign is not parted, and 154 septets with it are one message
around_160 : (concatenating 7 (letters 160) ≡ made (message [] (letters 160)) (record { octets = 141; messages = 1 }))
    × (concatenating 7 (letters 161) ≡ made (message (part_header 7 2 1) (letters 153) ++ message (part_header 7 2 2) (letters 8)) (record { octets = 156; messages = 2 }))
    × (concatenating 7 (letters 152 ++ euro ++ letters 7) ≡ made (message (part_header 7 2 1) (letters 152) ++ message (part_header 7 2 2) (escaped ++ letters 7)) (record { octets = 156; messages = 2 }))
    × (concatenating 7 (letters 152 ++ euro) ≡ made (message [] (letters 152 ++ escaped)) (record { octets = 136; messages = 1 }))
    × (concatenating 7 [] ≡ made (0 ∷ []) (record { octets = 1; messages = 1 }))
unfolding number_of lowest_digits packed_septets row_with index_of utf8 extended_code code_of same two_octets three_octets first_character before starting_with scan most cut_into numbered messages_of concatenating
around_160 = (refl, refl, refl, refl, refl)

-- the septets of each part, with an extension character at each place around the cut; and with one after the other
sizes : List ℕ → List ℕ
sizes text = map length (parts_of (codes_of text))

around_a_cut : (sizes (letters 150 ++ euro ++ letters 9) ≡ 153 ∷ 8 ∷ [])
    × (sizes (letters 151 ++ euro ++ letters 9) ≡ 153 ∷ 9 ∷ [])
    × (sizes (letters 152 ++ euro ++ letters 9) ≡ 152 ∷ 11 ∷ [])
    × (sizes (letters 153 ++ euro ++ letters 9) ≡ 153 ∷ 11 ∷ [])
    × (sizes (letters 151 ++ euro ++ euro ++ letters 9) ≡ 153 ∷ 11 ∷ [])
    × (sizes (letters 150 ++ euro ++ euro ++ letters 9) ≡ 152 ∷ 11 ∷ [])
unfolding sizes row_with index_of utf8 extended_code code_of same two_octets three_octets first_character before starting_with scan most cut_into
around_a_cut = (refl, refl, refl, refl, refl, refl)

-- ---- 39,015 septets are 255 parts, one more is refused

letters_coded : (n : ℕ) → septets_of (letters n) ≡ some (letters n)
unfolding row_with index_of code_of first_character before starting_with scan
letters_coded zero = refl
letters_coded (suc n) = rw (letters_coded n)

-- full parts, and the parts of what is left
letters_parts : (n r : ℕ) → parts_of (letters (n * 153 + r)) ≡ replicate n (letters 153) ++ parts_of (letters r)
unfolding most
letters_parts zero r = let e : 0 * 153 + r ≡ r = omega arith in rw e
letters_parts (suc n) r =
    let e : suc n * 153 + r ≡ 153 + (n * 153 + r) = omega arith in
    rw (e, ← replicate-append-replicate {A = ℕ} 153 (n * 153 + r) 0x61)
    (parts_next (letters 153) (letters (n * 153 + r)) (omega arith) refl ∙ ap (λ (ps : List (List ℕ)). letters 153 ∷ ps) (letters_parts n r))

full_octets : (reference total number n : ℕ) → length (numbered reference total number (replicate n (letters 153))) ≡ 141 * n
unfolding numbered
full_octets reference total number zero = omega arith
full_octets reference total number (suc n) =
    rw length-append (omega (arith, full_size reference total number (letters 153) (omega arith) (omega arith), full_octets reference total (number + 1) n))

-- with n full parts, and one letter more
module _ (reference n : ℕ) (long : 1 < n) where
  pub full_parts : n ≤ 255 → (xs : List ℕ) × (concatenating reference (letters (n * 153)) ≡ made xs (record { octets = 141 * n; messages = n }))
  unfolding cut_into
  full_parts h =
      let ps : parts_of (letters (n * 153)) ≡ replicate n (letters 153) = rw (add-zero, append-nil) at (letters_parts n 0) in
      let size = length-replicate n (letters 153) in
      let m = in_parts reference (letters (n * 153)) (letters (n * 153)) (letters_coded (n * 153)) (rw length-replicate (omega arith)) (rw (ps, size) h) in
      (numbered reference n 1 (replicate n (letters 153)), rw (ps, size, full_octets reference n 1 n) at m)

  pub one_more : 255 ≤ n → concatenating reference (letters (n * 153 + 1)) ≡ refused TooManyParts
  unfolding most cut_into
  one_more h =
      too_many reference (letters (n * 153 + 1)) (letters (n * 153 + 1)) (letters_coded (n * 153 + 1)) (rw length-replicate (omega arith))
      (rw (letters_parts n 1, length-append, length-replicate) (omega arith))

longest : (xs : List ℕ) × (concatenating 7 (letters 39015) ≡ made xs (record { octets = 35955; messages = 255 }))
longest = full_parts 7 255 (omega arith) (omega arith)

too_long : concatenating 7 (letters 39016) ≡ refused TooManyParts
too_long = one_more 7 255 (omega arith) (omega arith)
