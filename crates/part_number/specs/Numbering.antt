-- What numbers a part of a concatenated short message: an element of its header (TS 23.040 §9.2.3.24.1, §9.2.3.24.8).
use Rattle.std.specs.Prelude.{ℕ, ◌+◌, ◌*◌, ◌≡◌, refl, Bool, true, false, ◌&&◌, List, [], ◌∷◌, length, get_or, eqb, ltb, if◌then◌else◌, Ok, Err}
use Rattle.std.specs.Prelude.{Option, Some, None}
use Rattle.std.specs.Option.{option_or}
use Rattle.octets.specs.Answers.{Said}
use Rattle.octets.specs.Choice.{within}
use Rattle.octets.specs.declared.Refusal.TheVariants.{HeaderNotWhole, HeaderPassesCount, ElementPassesHeader, NotAPart}
use Rattle.coding.specs.Coding.{coding_of, character_set}
use Rattle.user_data_header.specs.Header.{header_octets, in_count}
use Rattle.header_elements.specs.Elements.{Element, element, elements_after, elements_of, after_first}
use Rattle.part_number.specs.declared.PartNumber.{PartNumber}
use Rattle.part_number.specs.declared.Reference.{Reference}
use Rattle.part_number.specs.declared.Reference.TheVariants.{Eight, Sixteen}

abbrev pub numbered : Reference → ℕ → ℕ → PartNumber
numbered reference total number = record { reference = reference; total = total; number = number }

-- of a part that none numbers: zeros, and the reference in eight bits
abbrev pub unnumbered : PartNumber
unnumbered = numbered (Eight 0) 0 0

-- ---- the part element

-- identifier 00 with three octets: reference, total, number; 08 with four: reference in two octets, high octet first, total, number. Any other element numbers no part
unfoldable pub numbering_of : Element → Option PartNumber
numbering_of e =
    let v = e.value in
    if eqb e.identifier 0x00 && eqb (length v) 3 then Some (numbered (Eight (get_or v 0 0)) (get_or v 1 0) (get_or v 2 0))
    else if eqb e.identifier 0x08 && eqb (length v) 4 then Some (numbered (Sixteen (get_or v 0 0 * 256 + get_or v 1 0)) (get_or v 2 0) (get_or v 3 0))
    else None

-- the last such element counts
unfoldable pub last_numbering : List Element → Option PartNumber
last_numbering [] = None
last_numbering (e ∷ es) = option_or (last_numbering es) (numbering_of e)

-- ---- what user data say of the part that they are

-- 28: no element numbers it; the total is 0 or passes 8; the number is 0 or passes the total
unfoldable pub in_range : Option PartNumber → Said PartNumber
in_range None = Err NotAPart
in_range (Some n) = if within 1 8 n.total && within 1 n.total n.number then Ok n else Err NotAPart

-- by the elements of their header: 24, then 28
unfoldable pub by_elements : Said (List Element) → Said PartNumber
by_elements (Ok es) = in_range (last_numbering es)
by_elements (Err why) = Err why

-- 28 without TP-UDHI; with it 17, 18, 24, 28
unfoldable pub numbering_in : Bool → ℕ → ℕ → List ℕ → Said PartNumber
numbering_in udhi dcs udl ud =
    let h = header_octets ud in
    if udhi then (if ltb (length ud) h then Err HeaderNotWhole
    else if in_count (coding_of dcs) udl h then by_elements (elements_of (after_first ud))
    else Err HeaderPassesCount)
    else Err NotAPart

-- ---- known rows

-- element 00; of 00, 08 and a 00 of four octets the 08 counts; that 00 alone is none; part 3 of 2; 9 parts
known_numberings : (last_numbering (element 0x00 (7 ∷ 2 ∷ 1 ∷ []) ∷ []) ≡ Some (numbered (Eight 7) 2 1))
    × (last_numbering (element 0x00 (7 ∷ 2 ∷ 1 ∷ []) ∷ element 0x08 (1 ∷ 7 ∷ 3 ∷ 2 ∷ []) ∷ element 0x00 (1 ∷ 7 ∷ 3 ∷ 2 ∷ []) ∷ []) ≡ Some (numbered (Sixteen 263) 3 2))
    × (last_numbering (element 0x00 (7 ∷ 2 ∷ 1 ∷ 0 ∷ []) ∷ []) ≡ None)
    × (in_range (Some (numbered (Eight 7) 2 3)) ≡ Err NotAPart) × (in_range (Some (numbered (Eight 7) 9 1)) ≡ Err NotAPart)
unfolding last_numbering numbering_of in_range
known_numberings = (refl, refl, refl, refl, refl)

-- part 1 of 2 in 7-bit coding; with UDL 6, which its header passes; a lone identifier octet; no octet; a part without TP-UDHI
known_parts : (numbering_in true 0x00 8 (0x05 ∷ 0x00 ∷ 0x03 ∷ 0x07 ∷ 0x02 ∷ 0x01 ∷ 0x82 ∷ []) ≡ Ok (numbered (Eight 7) 2 1))
    × (numbering_in true 0x00 6 (0x05 ∷ 0x00 ∷ 0x03 ∷ 0x07 ∷ 0x02 ∷ 0x01 ∷ []) ≡ Err HeaderPassesCount)
    × (numbering_in true 0x04 2 (0x01 ∷ 0x00 ∷ []) ≡ Err ElementPassesHeader)
    × (numbering_in true 0x00 0 [] ≡ Err HeaderNotWhole)
    × (numbering_in false 0x00 8 (0x05 ∷ 0x00 ∷ 0x03 ∷ 0x07 ∷ 0x02 ∷ 0x01 ∷ 0x82 ∷ []) ≡ Err NotAPart)
unfolding numbering_in by_elements in_count coding_of character_set elements_after last_numbering numbering_of in_range
known_parts = (refl, refl, refl, refl, refl)
