-- What the packers make of the septets of a text.
use Rattle.std.specs.Prelude.{ℕ, ◌+◌, ◌≡◌, refl, List, [], ◌∷◌, ◌++◌, length, ltb, if◌then◌else◌}
use Rattle.std.proofs.Math.Option.{Option, none, some}
use Rattle.octets.specs.Lent.{Making, refused, made}
use Rattle.octets.specs.declared.Refusal.TheVariants.{NotInAlphabet, TooManySeptets}
use Rattle.septets.specs.Septets.{number_of, lowest_digits, packed_septets, header_septets, fill_bits}
use Rattle.gsm7.specs.Alphabet.{row_with, index_of}
use Rattle.gsm7.specs.Reading.{utf8}
use Rattle.gsm7.specs.Writing.{same, extended_code, code_of, two_octets, three_octets, first_character, before, starting_with, scan, septets_of}
use Rattle.gsm7.specs.declared.packing.Packed.{Packed}

-- what is told of octets that are packed, for n septets
abbrev pub packed_as : List ℕ → ℕ → Packed
packed_as octets n = record { octets = length octets; septets = n }

-- a header's octets, and septets after it and its fill bits (TS 23.040 §9.2.3.24)
abbrev pub octets_after : List ℕ → List ℕ → List ℕ
octets_after header ss = header ++ packed_septets (fill_bits (length header)) ss

-- the septets of a text packed after a header; 10 where the text has none, 22 where header and text take more than 255
unfoldable pub packed_after : List ℕ → Option (List ℕ) → Making Packed
packed_after header none = refused NotInAlphabet
packed_after header (some ss) =
    let n = header_septets (length header) + length ss in
    if ltb 255 n then refused TooManySeptets
    else made (octets_after header ss) (packed_as (octets_after header ss) n)

-- a text packed after a header, which has no octets where there is none
unfoldable pub packing : List ℕ → List ℕ → Making Packed
packing header text = packed_after header (septets_of text)

-- the euro sign is 9B 32, 2 septets; after a header of 6 octets "A" is 82, and all are 8 septets
known_packing : (packing [] (0xe2 ∷ 0x82 ∷ 0xac ∷ []) ≡ made (0x9b ∷ 0x32 ∷ []) (record { octets = 2; septets = 2 }))
    × (packing (0x05 ∷ 0x00 ∷ 0x03 ∷ 0x01 ∷ 0x02 ∷ 0x01 ∷ []) (0x41 ∷ []) ≡ made (0x05 ∷ 0x00 ∷ 0x03 ∷ 0x01 ∷ 0x02 ∷ 0x01 ∷ 0x82 ∷ []) (record { octets = 7; septets = 8 }))
unfolding number_of lowest_digits packed_septets row_with index_of utf8 same extended_code code_of two_octets three_octets first_character before starting_with scan packed_after packing
known_packing = (refl, refl)
