-- The store of open messages, as octets at fixed places: 16 slots of 2356 octets. In a slot:
--     0          0 where no message is open there
--     1          TP-DCS
--     2 to 9     for each number from 1 to 8, 0 where the part is not held
--     10 to 307  the key: total, width, reference (high octet first), type, plan, length of the text (high octet first), text
--     308 on     for each number 256 octets: TP-UDL, then the user data
use Rattle.std.specs.Prelude.{ℕ, zero, suc, ◌+◌, ◌*◌, ◌/◌, ◌%◌, ◌<◌, ◌≡◌, Bool, true, false, not, ◌&&◌, ◌||◌, List, [], ◌∷◌, ◌++◌, length, get_or, set, take, drop, replicate, eqb, leb, ltb, if◌then◌else◌, Some, None, Option as Maybe}
use Rattle.std.proofs.Math.Option.{Option, none, some}
use Rattle.std.proofs.lemmas.List.Edits.{sets}
use Rattle.coding.specs.Coding.{coding_of, data_octets}
use Rattle.part_number.specs.declared.Reference.{Reference}
use Rattle.part_number.specs.declared.Reference.TheVariants.{Eight, Sixteen}
use Rattle.message_store.specs.Part.{Key, Part, shown_in}

-- ---- octets that stand at the start of others; the first place of n that passes a test, or n

unfoldable pub begins : List ℕ → List ℕ → Bool
begins [] s = true
begins (x ∷ xs) [] = false
begins (x ∷ xs) (y ∷ s) = eqb x y && begins xs s

unfoldable pub first : (ℕ → Bool) → ℕ → ℕ → ℕ
first test zero k = k
first test (suc n) k = if test k then k else first test n (suc k)

-- ---- a slot

abbrev pub is_open : List ℕ → Bool
is_open slot = not (eqb (get_or slot 0 0) 0)

abbrev pub coding_in : List ℕ → ℕ
coding_in slot = get_or slot 1 0

-- the part with a number from 1 to 8 is held
abbrev pub is_held : ℕ → List ℕ → Bool
is_held n slot = not (eqb (get_or slot (1 + n) 0) 0)

-- its 256 octets: TP-UDL, then the user data
abbrev pub part_at : ℕ → ℕ
part_at n = 52 + n * 256

abbrev pub block : ℕ → List ℕ → List ℕ
block n slot = take 256 (drop (part_at n) slot)

abbrev pub reference_octets : Reference → List ℕ
reference_octets (Eight r) = 8 ∷ 0 ∷ r ∷ []
reference_octets (Sixteen r) = 16 ∷ r / 256 ∷ r % 256 ∷ []

unfoldable pub key_octets : Key → List ℕ
key_octets k = k.total ∷ reference_octets k.reference ++ k.ton ∷ k.npi ∷ length k.text / 256 ∷ length k.text % 256 ∷ k.text

-- a message is open in the slot, with these octets as its key
unfoldable pub has_key : List ℕ → List ℕ → Bool
has_key octets slot = is_open slot && begins octets (drop 10 slot)

abbrev pub belongs : Key → List ℕ → Bool
belongs key slot = has_key (key_octets key) slot

-- refusal 1: a length field of an open slot passes its array, that of the address or the number of parts
unfoldable pub slot_fits : List ℕ → Bool
slot_fits slot = not (is_open slot) || (leb (get_or slot 16 0 * 256 + get_or slot 17 0) 290 && leb (get_or slot 10 0) 8)

-- the part in its 256 octets; UDL and coding scheme tell how many are data
unfoldable pub part_of : ℕ → List ℕ → Part
part_of dcs octets = record { udl = get_or octets 0 0; octets = take (data_octets (coding_of dcs) (get_or octets 0 0)) (drop 1 octets) }

-- what a slot holds with a number
unfoldable pub holding : ℕ → List ℕ → Option Part
holding n slot = if is_held n slot then some (part_of (coding_in slot) (block n slot)) else none

-- what it holds from number n on
unfoldable pub holdings : ℕ → ℕ → List ℕ → List (Option Part)
holdings n zero slot = []
holdings n (suc count) slot = holding n slot ∷ holdings (suc n) count slot

-- a slot opened for a message; with a part; closed
unfoldable pub opened_with : List ℕ → ℕ → List ℕ → List ℕ
opened_with octets dcs slot = sets slot 0 (1 ∷ dcs ∷ replicate 8 0 ++ octets)

abbrev pub opened_for : Key → ℕ → List ℕ → List ℕ
opened_for key dcs slot = opened_with (key_octets key) dcs slot

unfoldable pub with_part : ℕ → Part → List ℕ → List ℕ
with_part n p slot = sets (set slot (1 + n) 1) (part_at n) (p.udl ∷ p.octets)

abbrev pub closed : List ℕ → List ℕ
closed slot = set slot 0 0

-- ---- the store

abbrev pub store_octets : ℕ
store_octets = 37696

abbrev pub slot_at : ℕ → List ℕ → List ℕ
slot_at k store = take 2356 (drop (k * 2356) store)

-- the 16 slots of a store, one after the other
pub record Slots (store : List ℕ) (slots : List (List ℕ)) : Type 0 where
  pub count : length slots ≡ 16
  pub each : (k : ℕ) → k < 16 → get_or slots k [] ≡ slot_at k store

abbrev pub with_slot : ℕ → List ℕ → List ℕ → List ℕ
with_slot k slot store = take (k * 2356) store ++ (slot ++ drop 2356 (drop (k * 2356) store))

-- the slot of a message; a slot where none is open; 16, if there is none
unfoldable pub slot_with : List ℕ → List ℕ → ℕ
slot_with octets store = first (λ k. has_key octets (slot_at k store)) 16 0

abbrev pub slot_of : Key → List ℕ → ℕ
slot_of key store = slot_with (key_octets key) store

unfoldable pub free_slot : List ℕ → ℕ
free_slot store = first (λ k. not (is_open (slot_at k store))) 16 0

-- a slot that was found, none past the last
abbrev pub slot_there : ℕ → Maybe ℕ
slot_there k = if ltb k 16 then Some k else None

-- refusal 1: a length field passes its array, or the store is too short
unfoldable pub fits : List ℕ → Bool
fits store = leb store_octets (length store) && eqb (first (λ k. not (slot_fits (slot_at k store))) 16 0) 16

-- ---- messages

-- what is held of a message: its coding scheme, and for each number from 1 to its total the part, if it is held
pub record Message : Type 0 where
  pub dcs : ℕ
  pub parts : List (Option Part)

unfoldable pub message_in : ℕ → List ℕ → Message
message_in total slot = record { dcs = coding_in slot; parts = holdings 1 total slot }

-- the numbers that are missing, of parts from number n on
unfoldable pub missing_from : ℕ → List (Option Part) → List ℕ
missing_from n [] = []
missing_from n (none ∷ ps) = n ∷ missing_from (suc n) ps
missing_from n (some p ∷ ps) = missing_from (suc n) ps

abbrev pub missing_of : Message → List ℕ
missing_of m = missing_from 1 m.parts

-- what is shown of its parts, one after the other
unfoldable pub shown_parts : ℕ → List (Option Part) → List ℕ
shown_parts dcs [] = []
shown_parts dcs (none ∷ ps) = shown_parts dcs ps
shown_parts dcs (some p ∷ ps) = shown_in (coding_of dcs) p ++ shown_parts dcs ps

abbrev pub shown_of : Message → List ℕ
shown_of m = shown_parts m.dcs m.parts

-- what a store holds of a message; nothing, where it is not open
unfoldable pub held_of : Key → List ℕ → Option Message
held_of key store = let k = slot_of key store in if eqb k 16 then none else some (message_in key.total (slot_at k store))
