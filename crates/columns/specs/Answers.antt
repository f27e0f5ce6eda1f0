-- What the two functions answer, and what they do with what is lent.
use Rattle.std.specs.Prelude.{ℕ, ◌≡◌, refl, ◌&&◌, List, [], ◌∷◌, ◌++◌, length, drop, leb, if◌then◌else◌, Ok, Err}
use Rattle.std.proofs.Math.Option.{Option, none, some}
use Rattle.octets.specs.Answers.{Said}
use Rattle.octets.specs.Checks.{◌unless◌, checked}
use Rattle.octets.specs.Each.{each}
use Rattle.octets.specs.Lent.{Making, refused, made}
use Rattle.octets.specs.declared.Refusal.{Refusal}
use Rattle.octets.specs.declared.Refusal.TheVariants.{LengthTooLarge, OutputTooShort, StringsTooLarge, BlockNotWhole}
use Rattle.columns.specs.declared.Strings.{Strings}
use Rattle.columns.specs.Numbers.{groups_within, number_at}
use Rattle.columns.specs.Blocks.{strings_in, joined, lengths, sum, allowed, firsts, rests, columns, numbers, block, going, fronted, dealt, lengths_at, strings_of}

-- ---- writing

-- octets and lengths lent: 35, 1, then the block; octets after the strings are not looked at
unfoldable pub writing : List ℕ → List ℕ → Making ℕ
writing os ns =
    checked ((StringsTooLarge unless allowed ns) ∷ (LengthTooLarge unless leb (sum ns) (length os)) ∷ []) (block (strings_in ns os))

-- ---- reading

-- what a reader makes for two lent lists: octets and lengths, or a refusal
pub data MakingBoth : Type 0 where
  refused_both : Refusal → MakingBoth
  made_both : List ℕ → List ℕ → MakingBoth

abbrev pub made_of : Option (List (List ℕ)) → MakingBoth
made_of none = refused_both BlockNotWhole
made_of (some ss) = made_both (joined ss) (lengths ss)

-- the strings of a block, end to end, and their lengths; 36 where it is none
unfoldable pub reading : List ℕ → MakingBoth
reading os = made_of (strings_of os)

-- the answer and both lent lists afterwards, as `lend` says of one: 23 where either is too short; a refusal changes neither, and nothing after what is written changes
unfoldable pub lend_both : MakingBoth → List ℕ → List ℕ → Said Strings × List ℕ × List ℕ
lend_both (refused_both why) octets list = (Err why, octets, list)
lend_both (made_both os ns) octets list =
    if leb (length os) (length octets) && leb (length ns) (length list)
    then (Ok (record { strings = length ns; octets = length os }), os ++ drop (length os) octets, ns ++ drop (length ns) list)
    else (Err OutputTooShort, octets, list)

-- "abc", "", "de" and an octet more; a length too many; one octet too few; and the block read into five octets and four lengths, or into two lengths
rows : (writing (0x61 ∷ 0x62 ∷ 0x63 ∷ 0x64 ∷ 0x65 ∷ 0xff ∷ []) (3 ∷ 0 ∷ 2 ∷ []) ≡ made (3 ∷ 3 ∷ 0 ∷ 2 ∷ 0x61 ∷ 0x64 ∷ 0x62 ∷ 0x65 ∷ 0x63 ∷ []) 9)
    × (writing [] (256 ∷ []) ≡ refused StringsTooLarge) × (writing (0x61 ∷ []) (2 ∷ []) ≡ refused LengthTooLarge)
    × (lend_both (reading (3 ∷ 3 ∷ 0 ∷ 2 ∷ 0x61 ∷ 0x64 ∷ 0x62 ∷ 0x65 ∷ 0x63 ∷ [])) (9 ∷ 9 ∷ 9 ∷ 9 ∷ 9 ∷ []) (9 ∷ 9 ∷ 9 ∷ 9 ∷ []) ≡ (Ok (record { strings = 3; octets = 5 }), 0x61 ∷ 0x62 ∷ 0x63 ∷ 0x64 ∷ 0x65 ∷ [], 3 ∷ 0 ∷ 2 ∷ 9 ∷ []))
    × (lend_both (reading (3 ∷ 0 ∷ 0 ∷ 0 ∷ [])) (9 ∷ []) (9 ∷ 9 ∷ []) ≡ (Err OutputTooShort, 9 ∷ [], 9 ∷ 9 ∷ []))
    × (lend_both (reading (1 ∷ 2 ∷ 0x61 ∷ [])) (9 ∷ []) (9 ∷ []) ≡ (Err BlockNotWhole, 9 ∷ [], 9 ∷ []))
unfolding writing checked allowed each reading lend_both block strings_in joined strings_of groups_within number_at numbers columns firsts rests lengths_at sum dealt fronted going
rows = (refl, refl, refl, refl, refl, refl)
