-- Known rows: headers that are read and written, and what is refused.
-- Assumes nothing.
use Rattle.std.specs.Prelude.{Ok, Err}
use Prim.Native.Nat.{ℕ, zero, suc}
use mathlib.Core.Path.{◌≡◌, refl}
use mathlib.Core.List.{List, [], ◌∷◌, ◌++◌}
use lib.ListN.{length, replicate}
use Rattle.octets.specs.Arrays.{pad}
use Rattle.octets.specs.Checks.{checked}
use Rattle.octets.specs.Lent.{refused, made}
use Rattle.octets.specs.declared.Refusal.{Refusal}
use Rattle.octets.specs.declared.Refusal.TheVariants.{HeaderNotWhole, ElementPassesHeader, ElementsTooLong}
use Rattle.header_elements.specs.Elements.{Element, element, joined, header_of, elements_after, elements_in}
use Rattle.header_elements.specs.Order.{having, below}
use Rattle.header_elements.specs.Record.{values, held, elements_read, elements_with, list_of, total, header_making}

-- a header is read as these elements, and they are written as the same header or another
abbrev ReadAndWritten : List ℕ → List Element → List ℕ → Type 0
ReadAndWritten header es other = (elements_read header ≡ Ok (held es)) × (header_making (held es) ≡ made other (length other))

abbrev Both : List ℕ → List Element → Type 0
Both header es = ReadAndWritten header es header

-- octets are read as these elements
abbrev Read : List ℕ → List Element → Type 0
Read s es = elements_read s ≡ Ok (held es)

-- octets are refused
abbrev Unread : List ℕ → Refusal → Type 0
Unread s why = elements_read s ≡ Err why

-- so many elements of these identifiers, lengths and values are refused
abbrev Unwritten : ℕ → List ℕ → List ℕ → List ℕ → Refusal → Type 0
Unwritten count identifiers lengths octets why = header_making (record { count = count; identifiers = identifiers; lengths = lengths; octets = octets }) ≡ refused why

-- element 00, of part 1 of 2; element 05, of ports
abbrev part : Element
part = element 0x00 (0x01 ∷ 0x02 ∷ 0x01 ∷ [])

abbrev ports : Element
ports = element 0x05 (0x0b ∷ 0x84 ∷ 0x23 ∷ 0xf0 ∷ [])

-- octets n times
abbrev times : ℕ → List ℕ → List ℕ
times zero xs = []
times (suc n) xs = xs ++ times n xs

pub known :
    -- a part; no element; one of no octets; a part and twice ports
    Both (0x05 ∷ 0x00 ∷ 0x03 ∷ 0x01 ∷ 0x02 ∷ 0x01 ∷ []) (part ∷ [])
    × Both (0x00 ∷ []) []
    × Both (0x02 ∷ 0x70 ∷ 0x00 ∷ []) (element 0x70 [] ∷ [])
    × Both (0x11 ∷ 0x00 ∷ 0x03 ∷ 0x01 ∷ 0x02 ∷ 0x01 ∷ 0x05 ∷ 0x04 ∷ 0x0b ∷ 0x84 ∷ 0x23 ∷ 0xf0 ∷ 0x05 ∷ 0x04 ∷ 0x0b ∷ 0x84 ∷ 0x23 ∷ 0xf0 ∷ []) (part ∷ ports ∷ ports ∷ [])
    -- 08 before 00: the part of eight bits comes first; FF, twice 70 and 08
    × ReadAndWritten (0x0b ∷ 0x08 ∷ 0x04 ∷ 0x00 ∷ 0x07 ∷ 0x02 ∷ 0x01 ∷ 0x00 ∷ 0x03 ∷ 0x09 ∷ 0x02 ∷ 0x01 ∷ []) (element 0x08 (0x00 ∷ 0x07 ∷ 0x02 ∷ 0x01 ∷ []) ∷ element 0x00 (0x09 ∷ 0x02 ∷ 0x01 ∷ []) ∷ [])
    (0x0b ∷ 0x00 ∷ 0x03 ∷ 0x09 ∷ 0x02 ∷ 0x01 ∷ 0x08 ∷ 0x04 ∷ 0x00 ∷ 0x07 ∷ 0x02 ∷ 0x01 ∷ [])
    × ReadAndWritten (0x09 ∷ 0xff ∷ 0x00 ∷ 0x70 ∷ 0x01 ∷ 0x01 ∷ 0x70 ∷ 0x00 ∷ 0x08 ∷ 0x00 ∷ []) (element 0xff [] ∷ element 0x70 (0x01 ∷ []) ∷ element 0x70 [] ∷ element 0x08 [] ∷ [])
    (0x09 ∷ 0x08 ∷ 0x00 ∷ 0x70 ∷ 0x01 ∷ 0x01 ∷ 0x70 ∷ 0x00 ∷ 0xff ∷ 0x00 ∷ [])
    -- 127 elements of no octets; one of 253 octets
    × Both (0xfe ∷ times 127 (0x70 ∷ 0x00 ∷ [])) (replicate 127 (element 0x70 []))
    × Both (0xff ∷ 0x70 ∷ 0xfd ∷ replicate 253 0x41) (element 0x70 (replicate 253 0x41) ∷ [])
    -- octets after the header, though they are no element
    × Read (0x02 ∷ 0x70 ∷ 0x00 ∷ 0x41 ∷ []) (element 0x70 [] ∷ [])
    -- no octet, and a header longer than the data, though a lone identifier octet is left of them: 17
    × Unread [] HeaderNotWhole
    × Unread (0x05 ∷ 0x00 ∷ []) HeaderNotWhole
    -- a lone identifier octet, alone and after an element; a length past the end: 24
    × Unread (0x01 ∷ 0x05 ∷ []) ElementPassesHeader
    × Unread (0x03 ∷ 0x70 ∷ 0x00 ∷ 0x05 ∷ []) ElementPassesHeader
    × Unread (0x05 ∷ 0x00 ∷ 0x04 ∷ 0x01 ∷ 0x02 ∷ 0x01 ∷ 0x41 ∷ []) ElementPassesHeader
    -- 128 elements of no octets; one of 254 octets; a count and lengths past the arrays: 25
    × Unwritten 128 (replicate 127 0x70) (replicate 127 0) (replicate 253 0) ElementsTooLong
    × Unwritten 1 (pad 127 (0x70 ∷ [])) (pad 127 (0xfe ∷ [])) (replicate 253 0x41) ElementsTooLong
    × Unwritten 18446744073709551615 (replicate 127 0x70) (replicate 127 0xff) (replicate 253 0) ElementsTooLong
unfolding elements_after elements_in elements_read values held pad having below elements_with list_of total joined header_of checked header_making
known = ((refl, refl), (refl, refl), (refl, refl), (refl, refl), (refl, refl), (refl, refl), (refl, refl), (refl, refl), refl, refl, refl, refl, refl, refl, refl, refl, refl)
