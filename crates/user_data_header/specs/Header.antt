-- Text after a user data header (TS 23.040 §9.2.3.24), in 7-bit coding.
use Rattle.std.specs.Prelude.{ℕ, ◌+◌, ◌-◌, ◌≡◌, refl, Bool, true, List, [], ◌∷◌, length, get_or, take, drop, eqb, leb, ltb, if◌then◌else◌, Ok, Err}
use Rattle.octets.specs.Answers.{Said}
use Rattle.octets.specs.Held.{holding}
use Rattle.octets.specs.Lent.{Making, refused}
use Rattle.octets.specs.declared.Refusal.TheVariants.{LengthTooLarge, HeaderNotWhole, HeaderPassesCount, TooFewOctets}
use Rattle.coding.specs.declared.UserDataCoding.{UserDataCoding}
use Rattle.coding.specs.declared.UserDataCoding.TheVariants.{Gsm7Bit, EightBit, Ucs2, Compressed}
use Rattle.septets.specs.Septets.{number_of, lowest_digits, septets_in, octet_count, header_septets, fill_bits}
use Rattle.gsm7.specs.Alphabet.{row_with, character, escaped, replaced}
use Rattle.gsm7.specs.Reading.{utf8, text_of, after_escape, replaced_in, replaced_after}
use Rattle.gsm7.specs.Packing.{packing}
use Rattle.gsm7.specs.declared.packing.Packed.{Packed}
use Rattle.user_data_header.specs.declared.UnpackedWithHeader.{UnpackedWithHeader}

-- the octets of a header: its first octet counts those that follow
abbrev pub header_octets : List ℕ → ℕ
header_octets os = get_or os 0 0 + 1

-- in 7-bit coding the septets that a header of h octets takes don't pass UDL
unfoldable pub in_count : UserDataCoding → ℕ → ℕ → Bool
in_count Gsm7Bit udl h = leb (header_septets h) udl
in_count EightBit udl h = true
in_count Ucs2 udl h = true
in_count Compressed udl h = true

-- a header and a text in their arrays, with n escapes replaced
unfoldable pub header_given : List ℕ → List ℕ → ℕ → UnpackedWithHeader
header_given header text n = record {
  header = holding 255 header;
  text = holding 510 text;
  replaced_escapes = n;
}

-- what reading user data of n septets gives: the header, fill bits that are not looked at, and the text; 1 where n is more than 255, 17 where the header is not there whole (of empty data the length octet is missing), 18 where it takes more septets than n, 19 where the octets are too few for fill bits and text
unfoldable pub unpacked_with_header : List ℕ → ℕ → Said UnpackedWithHeader
unpacked_with_header os n =
    let h = header_octets os in
    if ltb 255 n then Err LengthTooLarge
    else if ltb (length os) h then Err HeaderNotWhole
    else if ltb n (header_septets h) then Err HeaderPassesCount
    else if ltb (length (drop h os)) (octet_count (fill_bits h) (n - header_septets h)) then Err TooFewOctets
    else
    let ss = septets_in (drop h os) (fill_bits h) (n - header_septets h) in
    Ok (header_given (take h os) (text_of ss) (replaced_in ss))

-- what packing gives; 17 where the header is not as long as its first octet says
unfoldable pub packing_with_header : List ℕ → List ℕ → Making Packed
packing_with_header header text = if eqb (length header) (header_octets header) then packing header text else refused HeaderNotWhole

-- a header of 6 octets, and "A" after it, and after an escape; no octet; header 00, which takes 2 septets, with the octet of its fill bits and without; a header that is too short to be packed
known_headers : (unpacked_with_header (0x05 ∷ 0x00 ∷ 0x03 ∷ 0x01 ∷ 0x02 ∷ 0x01 ∷ 0x82 ∷ []) 8 ≡ Ok (header_given (0x05 ∷ 0x00 ∷ 0x03 ∷ 0x01 ∷ 0x02 ∷ 0x01 ∷ []) (0x41 ∷ []) 0))
    × (unpacked_with_header (0x05 ∷ 0x00 ∷ 0x03 ∷ 0x01 ∷ 0x02 ∷ 0x01 ∷ 0x36 ∷ 0x41 ∷ []) 9 ≡ Ok (header_given (0x05 ∷ 0x00 ∷ 0x03 ∷ 0x01 ∷ 0x02 ∷ 0x01 ∷ []) (0x41 ∷ []) 1))
    × (unpacked_with_header [] 2 ≡ Err HeaderNotWhole) × (unpacked_with_header (0x00 ∷ []) 1 ≡ Err HeaderPassesCount) × (unpacked_with_header (0x00 ∷ 0x00 ∷ []) 2 ≡ Ok (header_given (0x00 ∷ []) [] 0)) × (unpacked_with_header (0x00 ∷ []) 2 ≡ Err TooFewOctets)
    × (packing_with_header (0x01 ∷ []) [] ≡ refused HeaderNotWhole)
unfolding number_of lowest_digits septets_in row_with character escaped replaced utf8 text_of after_escape replaced_in replaced_after unpacked_with_header packing_with_header
known_headers = (refl, refl, refl, refl, refl, refl, refl)
