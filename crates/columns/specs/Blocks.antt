-- Log blocks by column (document 02, Ask 13): the number of strings, then each length, then every string's first octet, every second octet and so on, ended strings skipped.
use Rattle.std.specs.Prelude.{ℕ, zero, suc, ◌+◌, ◌-◌, ◌≡◌, refl, Bool, ◌&&◌, List, [], ◌∷◌, ◌++◌, map, length, take, drop, leb, eqb, if◌then◌else◌}
use Rattle.std.proofs.Math.Option.{Option, none, some}
use Rattle.octets.specs.Each.{each}
use Rattle.columns.specs.Numbers.{groups, groups_within, number_at}

-- ---- the strings, as they lie end to end with their lengths beside

-- the strings of these lengths; octets after them are not looked at
unfoldable pub strings_in : List ℕ → List ℕ → List (List ℕ)
strings_in [] os = []
strings_in (n ∷ ns) os = take n os ∷ strings_in ns (drop n os)

-- strings end to end, and their lengths
unfoldable pub joined : List (List ℕ) → List ℕ
joined [] = []
joined (s ∷ ss) = s ++ joined ss

abbrev pub lengths : List (List ℕ) → List ℕ
lengths ss = map length ss

unfoldable pub sum : List ℕ → ℕ
sum [] = 0
sum (n ∷ ns) = n + sum ns

-- at most 1,000 strings of at most 255 octets
unfoldable pub allowed : List ℕ → Bool
allowed ns = leb (length ns) 1000 && each (λ n. leb n 255) ns

-- ---- the block

-- every string's first octet, ended strings skipped; and what is left of every string
unfoldable pub firsts : List (List ℕ) → List ℕ
firsts [] = []
firsts (s ∷ ss) = take 1 s ++ firsts ss

unfoldable pub rests : List (List ℕ) → List (List ℕ)
rests [] = []
rests (s ∷ ss) = drop 1 s ∷ rests ss

-- the first n columns: every string's first octet, every second octet and so on
unfoldable pub columns : ℕ → List (List ℕ) → List ℕ
columns zero ss = []
columns (suc n) ss = firsts ss ++ columns n (rests ss)

-- numbers, one after the other
unfoldable pub numbers : List ℕ → List ℕ
numbers [] = []
numbers (n ∷ ns) = groups n ++ numbers ns

-- the number of strings, each length, the columns; no string has more than 255
unfoldable pub block : List (List ℕ) → List ℕ
block ss = groups (length ss) ++ (numbers (lengths ss) ++ columns 255 ss)

-- ---- and back (law `Block-read` says without this walk which strings octets are the block of, and that there are none for other octets)

-- how many strings of these lengths have an octet left
unfoldable pub going : List ℕ → ℕ
going [] = 0
going (zero ∷ ns) = going ns
going (suc n ∷ ns) = suc (going ns)

-- a column's octets, each before what is left of its string
unfoldable pub fronted : List ℕ → List ℕ → List (List ℕ) → List (List ℕ)
fronted [] os ss = []
fronted (n ∷ ns) os [] = []
fronted (zero ∷ ns) os (s ∷ ss) = s ∷ fronted ns os ss
fronted (suc n ∷ ns) os (s ∷ ss) = (take 1 os ++ s) ∷ fronted ns (drop 1 os) ss

-- strings of these lengths, from n columns
unfoldable pub dealt : ℕ → List ℕ → List ℕ → List (List ℕ)
dealt zero ns os = map (λ n. []) ns
dealt (suc k) ns os = fronted ns os (dealt k (map (λ n. n - 1) ns) (drop (going ns) os))

-- a length of at most 255 before others
abbrev pub length_before : ℕ → Option (List ℕ × List ℕ) → Option (List ℕ × List ℕ)
length_before n none = none
length_before n (some (ns, os)) = if leb n 255 then some (n ∷ ns, os) else none

abbrev pub length_then : Option (ℕ × List ℕ) → (List ℕ → Option (List ℕ × List ℕ)) → Option (List ℕ × List ℕ)
length_then none next = none
length_then (some (n, os)) next = length_before n (next os)

-- the lengths of k strings that octets start with, and what follows them
unfoldable pub lengths_at : ℕ → List ℕ → Option (List ℕ × List ℕ)
lengths_at zero os = some ([], os)
lengths_at (suc k) os = length_then (number_at os) (λ rest. lengths_at k rest)

-- what follows the lengths is the strings' octets, no fewer and no more
abbrev pub strings_then : Option (List ℕ × List ℕ) → Option (List (List ℕ))
strings_then none = none
strings_then (some (ns, os)) = if eqb (length os) (sum ns) then some (dealt 255 ns os) else none

-- at most 1,000 strings
abbrev pub count_then : Option (ℕ × List ℕ) → Option (List (List ℕ))
count_then none = none
count_then (some (n, os)) = let strings = strings_then (lengths_at n os) in if leb n 1000 then strings else none

-- the strings of a block; nothing, where it is none
unfoldable pub strings_of : List ℕ → Option (List (List ℕ))
strings_of os = count_then (number_at os)

-- "abc", "", "de" are 3; 3, 0, 2; a d, b e, c. A block of no strings is 00
rows : (block ((0x61 ∷ 0x62 ∷ 0x63 ∷ []) ∷ [] ∷ (0x64 ∷ 0x65 ∷ []) ∷ []) ≡ 3 ∷ 3 ∷ 0 ∷ 2 ∷ 0x61 ∷ 0x64 ∷ 0x62 ∷ 0x65 ∷ 0x63 ∷ [])
    × (strings_of (3 ∷ 3 ∷ 0 ∷ 2 ∷ 0x61 ∷ 0x64 ∷ 0x62 ∷ 0x65 ∷ 0x63 ∷ []) ≡ some ((0x61 ∷ 0x62 ∷ 0x63 ∷ []) ∷ [] ∷ (0x64 ∷ 0x65 ∷ []) ∷ []))
    × (block [] ≡ 0 ∷ []) × (strings_of (0 ∷ []) ≡ some [])
unfolding block strings_of groups_within number_at numbers columns firsts rests lengths_at sum dealt fronted going
rows = (refl, refl, refl, refl)

-- no blocks: an octet left over; one octet too few, and a length that is cut off; a length of 256; 1,001 strings; a needless group in the number of strings, and in a length
no_blocks : (strings_of (0 ∷ 0 ∷ []) ≡ none) × (strings_of (1 ∷ 2 ∷ 0x61 ∷ []) ≡ none) × (strings_of (1 ∷ 0x80 ∷ []) ≡ none) × (strings_of (1 ∷ 0x80 ∷ 0x02 ∷ []) ≡ none)
    × (strings_of (0xe9 ∷ 0x07 ∷ []) ≡ none) × (strings_of (0x80 ∷ 0x00 ∷ []) ≡ none) × (strings_of (1 ∷ 0x80 ∷ 0x00 ∷ []) ≡ none)
unfolding strings_of number_at lengths_at sum
no_blocks = (refl, refl, refl, refl, refl, refl, refl)
