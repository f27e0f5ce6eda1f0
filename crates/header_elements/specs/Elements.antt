-- Elements of a user data header (TS 23.040 §9.2.3.24): an identifier octet, a length octet and that many octets; one after the other, until the header ends.
use Rattle.std.specs.Prelude.{ℕ, zero, suc, ◌≡◌, refl, List, [], ◌∷◌, ◌++◌, length, get_or, take, drop, leb, ltb, if◌then◌else◌, Ok, Err}
use Rattle.octets.specs.Answers.{Said}
use Rattle.octets.specs.declared.Refusal.TheVariants.{HeaderNotWhole, ElementPassesHeader}
use Rattle.user_data_header.specs.Header.{header_octets}

pub record Element : Type 0 where
  pub identifier : ℕ
  pub value : List ℕ

abbrev pub element : ℕ → List ℕ → Element
element i v = record { identifier = i; value = v }

-- ---- the octets of elements

-- one after the other
unfoldable pub joined : List Element → List ℕ
joined [] = []
joined (e ∷ es) = e.identifier ∷ length e.value ∷ e.value ++ joined es

-- a header of elements: its first octet counts those that follow
unfoldable pub header_of : List Element → List ℕ
header_of es = length (joined es) ∷ joined es

-- ---- the elements of octets (laws `elements_are` and `header_is` say them without this walk: the octets are those of the elements, one after the other)

-- an element before others
abbrev pub before : Element → Said (List Element) → Said (List Element)
before e (Ok es) = Ok (e ∷ es)
before e (Err why) = Err why

-- the elements of octets of which so many are skipped; 24: a lone identifier octet is left, or an element passes the end
unfoldable pub elements_after : ℕ → List ℕ → Said (List Element)
elements_after skipped [] = Ok []
elements_after (suc skipped) (x ∷ s) = elements_after skipped s
elements_after zero (i ∷ []) = Err ElementPassesHeader
elements_after zero (i ∷ n ∷ s) =
    let first = element i (take n s) in
    if leb n (length s) then before first (elements_after (suc n) (n ∷ s)) else Err ElementPassesHeader

abbrev pub elements_of : List ℕ → Said (List Element)
elements_of s = elements_after 0 s

-- the octets of a header after its first, which counts them; what follows the header is not looked at
abbrev pub after_first : List ℕ → List ℕ
after_first s = take (get_or s 0 0) (drop 1 s)

-- the elements of a header: 17, then 24
unfoldable pub elements_in : List ℕ → Said (List Element)
elements_in s = if ltb (length s) (header_octets s) then Err HeaderNotWhole else elements_of (after_first s)

-- 05 00 03 01 02 01 has one element, of a part; 00 has none; 05 is a lone identifier octet, and 05 02 01 passes the end
rows : (elements_in (0x05 ∷ 0x00 ∷ 0x03 ∷ 0x01 ∷ 0x02 ∷ 0x01 ∷ []) ≡ Ok (element 0x00 (1 ∷ 2 ∷ 1 ∷ []) ∷ [])) × (elements_in (0x00 ∷ []) ≡ Ok [])
    × (elements_of (0x05 ∷ []) ≡ Err ElementPassesHeader) × (elements_of (0x05 ∷ 0x02 ∷ 0x01 ∷ []) ≡ Err ElementPassesHeader)
    × (header_of (element 0x00 (1 ∷ 2 ∷ 1 ∷ []) ∷ []) ≡ 0x05 ∷ 0x00 ∷ 0x03 ∷ 0x01 ∷ 0x02 ∷ 0x01 ∷ [])
unfolding elements_in elements_after header_of joined
rows = (refl, refl, refl, refl, refl)
