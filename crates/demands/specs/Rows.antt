-- Document 01's known messages: the ten rows marked +.
use Rattle.std.specs.Prelude.{ℕ, ℤ, pos, negsuc, length, ◌≡◌, List, [], ◌∷◌, ◌++◌, Ok}
use Rattle.octets.specs.Lent.{made}
use Rattle.octets.specs.Texts.{codes}
use Rattle.coding.specs.declared.UserDataCoding.{UserDataCoding}
use Rattle.coding.specs.declared.UserDataCoding.TheVariants.{Gsm7Bit, EightBit, Ucs2}
use Rattle.coding.specs.Coding.{coding_of}
use Rattle.gsm7.specs.Reading.{unpacked, text_given}
use Rattle.gsm7.specs.Packing.{packing, packed_as}
use Rattle.time.specs.Time.{time_octets, time_digits}
use Rattle.time.specs.Timestamp.{timestamp}
use Rattle.address.specs.Address.{address_with, address_in, encoding, canonical_address}
use Rattle.layout.specs.Layout.{read, answer, alone}
use Rattle.parameters.specs.declared.RpOutcome.TheVariants.{RpError}
use Rattle.deliver_report.specs.DeliverReport.{layout_of, stopped}
use Rattle.user_data_header.specs.Header.{unpacked_with_header, packing_with_header, header_given}

pub data Row : Type 0 where
  -- a DCS and its coding
  coding : ℕ → UserDataCoding → Row
  -- octets and a count of septets, read as text; and how many escapes are replaced in it
  reads : List ℕ → ℕ → List ℕ → ℕ → Row
  -- a text, its octets and their count of septets
  packs : List ℕ → List ℕ → ℕ → Row
  -- a header and a text; what stands after the header, and the count of septets: packed, and read back
  packs_after : List ℕ → List ℕ → List ℕ → ℕ → Row
  reads_after : List ℕ → List ℕ → List ℕ → ℕ → Row
  -- fourteen digits and their seven octets, both ways
  time : List ℕ → List ℕ → Row
  digits : List ℕ → List ℕ → Row
  -- a zone in quarter hours and its two digits
  zone : ℤ → List ℕ → Row
  -- type, plan and text of an address, and the octets that are written
  writes_address : ℕ → ℕ → List ℕ → List ℕ → Row
  -- an address field, and type, plan and text that it is read as
  reads_address : List ℕ → ℕ → ℕ → List ℕ → Row
  -- an address field and its canonical octets
  canonical : List ℕ → List ℕ → Row
  -- a DELIVER-REPORT of an RP-ERROR that is read as the stopped record: UDHI 0, cause FF, indicator 0, nothing else
  reads_stopped : List ℕ → Row

-- what a row says
unfoldable pub Holds : Row → Type 0
Holds (coding dcs c) = coding_of dcs ≡ c
Holds (reads octets n text k) = unpacked octets 0 n ≡ Ok (text_given text k)
Holds (packs text octets n) = packing [] text ≡ made octets (packed_as octets n)
Holds (packs_after header text octets n) = packing_with_header header text ≡ made (header ++ octets) (packed_as (header ++ octets) n)
Holds (reads_after header text octets n) = unpacked_with_header (header ++ octets) n ≡ Ok (header_given header text 0)
Holds (time ds octets) = time_octets ds ≡ octets
Holds (digits octets ds) = time_digits octets ≡ ds
Holds (zone z ds) = timestamp 24 2 15 12 30 45 z ≡ Ok (codes "240215123045" ++ ds)
Holds (writes_address ton npi text octets) = encoding (address_with ton npi text) ≡ made octets (length octets)
Holds (reads_address f ton npi text) = address_in f ≡ address_with ton npi text
Holds (canonical f octets) = canonical_address f ≡ octets
Holds (reads_stopped s) = answer alone (read (layout_of RpError) s) ≡ Ok stopped

abbrev pub rows : List Row
rows =
    coding 0x0c Gsm7Bit ∷
    coding 0x48 Ucs2 ∷
    coding 0xc8 Gsm7Bit ∷
    coding 0xf4 EightBit ∷
    -- "€" is 9B 32, 2 septets
    packs (0xe2 ∷ 0x82 ∷ 0xac ∷ []) (0x9b ∷ 0x32 ∷ []) 2 ∷
    -- 9B 0D and 9B 20, 2 septets: space; "A"
    reads (0x9b ∷ 0x0d ∷ []) 2 (0x20 ∷ []) 1 ∷
    reads (0x9b ∷ 0x20 ∷ []) 2 (0x41 ∷ []) 1 ∷
    -- header 05 00 03 01 02 01 and "A": the header, 82; 8 septets
    packs_after (0x05 ∷ 0x00 ∷ 0x03 ∷ 0x01 ∷ 0x02 ∷ 0x01 ∷ []) (0x41 ∷ []) (0x82 ∷ []) 8 ∷
    reads_after (0x05 ∷ 0x00 ∷ 0x03 ∷ 0x01 ∷ 0x02 ∷ 0x01 ∷ []) (0x41 ∷ []) (0x82 ∷ []) 8 ∷
    -- 24021512304500 is 42 20 51 21 03 54 00
    time (codes "24021512304500") (0x42 ∷ 0x20 ∷ 0x51 ∷ 0x21 ∷ 0x03 ∷ 0x54 ∷ 0x00 ∷ []) ∷
    digits (0x42 ∷ 0x20 ∷ 0x51 ∷ 0x21 ∷ 0x03 ∷ 0x54 ∷ 0x00 ∷ []) (codes "24021512304500") ∷
    -- zones -5, 79, -79
    zone (negsuc 4) (codes "85") ∷
    zone (pos 79) (codes "79") ∷
    zone (negsuc 78) (codes "F9") ∷
    -- type 1 plan 1 "12345" is 05 91 21 43 F5
    writes_address 1 1 (codes "12345") (0x05 ∷ 0x91 ∷ 0x21 ∷ 0x43 ∷ 0xf5 ∷ []) ∷
    -- 03 91 F1 02 reads as "12", canonical 02 91 21
    reads_address (0x03 ∷ 0x91 ∷ 0xf1 ∷ 0x02 ∷ []) 1 1 (codes "12") ∷
    canonical (0x03 ∷ 0x91 ∷ 0xf1 ∷ 0x02 ∷ []) (0x02 ∷ 0x91 ∷ 0x21 ∷ []) ∷
    -- type 5 plan 0 "AB" is 04 D0 41 21
    writes_address 5 0 (codes "AB") (0x04 ∷ 0xd0 ∷ 0x41 ∷ 0x21 ∷ []) ∷
    -- RP-ERROR DELIVER-REPORT 04 is the same record as 00 FF 00
    reads_stopped (0x04 ∷ []) ∷
    reads_stopped (0x00 ∷ 0xff ∷ 0x00 ∷ []) ∷
    []

infixr 5 ◌also◌
-- every row of a table holds
pub data All : List Row → Type 0 where
  none : All []
  ◌also◌ : {r : Row} {rs : List Row} → Holds r → All rs → All (r ∷ rs)
