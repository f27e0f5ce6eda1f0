-- Known rows of the store: a message of two parts in 8-bit coding, the second of which comes first.
-- Assumes nothing.
use Rattle.std.specs.Prelude.{Ok}
use Prim.Native.Nat.{ℕ}
use mathlib.Core.Path.{◌≡◌, refl}
use mathlib.Core.Bool.{true}
use mathlib.Core.List.{List, [], ◌∷◌}
use mathlib.Core.Option.{some}
use lib.ListN.{replicate}
use Rattle.octets.specs.Arrays.{pad}
use Rattle.octets.specs.Held.{holding as array_holding}
use Rattle.octets.specs.Lent.{lend}
use Rattle.coding.specs.Coding.{coding_of, character_set, data_octets}
use Rattle.part_number.specs.Numbering.{numbered}
use Rattle.part_number.specs.declared.Reference.{Reference}
use Rattle.message_store.specs.Part.{Key, Arrived, shown_in}
use Rattle.message_store.specs.Store.{begins, first, has_key, belongs, slot_fits, part_of, holding, holdings, key_octets, opened_with, opened_for, with_part, slot_with, free_slot, fits, message_in, missing_from, shown_parts}
use Rattle.reassembly.specs.declared.MessageTaken.{MessageTaken}
use Rattle.reassembly.specs.Calls.{placing_as, placing, joining, told, message_making, handing, finding, taking}

key : Key
key = record { ton = 1; npi = 1; text = 0x31 ∷ 0x32 ∷ []; reference = Reference.Eight 7; total = 2 }

second : Arrived
second = record { key = key; dcs = 4; number = 2; part = record { udl = 8; octets = 5 ∷ 0 ∷ 3 ∷ 7 ∷ 2 ∷ 2 ∷ 0x43 ∷ 0x44 ∷ [] } }

one : Arrived
one = record { key = key; dcs = 4; number = 1; part = record { udl = 7; octets = 5 ∷ 0 ∷ 3 ∷ 7 ∷ 2 ∷ 1 ∷ 0x41 ∷ [] } }

-- the slot that holds the second part
slot : List ℕ
slot = with_part 2 second.part (opened_for key 4 (replicate 2356 0))

slot_rows : (belongs key slot ≡ true) × (missing_from 1 (holdings 1 2 slot) ≡ 1 ∷ []) × (holding 2 slot ≡ some second.part)
unfolding slot key second has_key holding holdings missing_from with_part opened_with key_octets begins part_of coding_of character_set data_octets
slot_rows = (refl, refl, refl)

empty : List ℕ
empty = replicate 37696 0

-- number 1 is missing
first_comes : (placing second empty).0 ≡ Ok (record { part = numbered (Reference.Eight 7) 2 2; missing = record { octets = 1 ∷ 0 ∷ 0 ∷ 0 ∷ 0 ∷ 0 ∷ 0 ∷ 0 ∷ []; length = 1 } })
unfolding empty key second placing_as told array_holding first slot_with free_slot has_key holding holdings message_in missing_from with_part opened_with key_octets begins part_of coding_of character_set data_octets pad
first_comes = refl

-- then nothing is missing, and the message is taken: 41 43 44
both : List ℕ
both = (placing one (placing second empty).1).1

both_come : (taking key both (9 ∷ 9 ∷ 9 ∷ 9 ∷ [])).0 ≡ Ok (MessageTaken.Whole 4 3)
unfolding empty key second one both placing_as joining told first slot_with free_slot fits slot_fits has_key holding holdings message_in missing_from with_part opened_with key_octets begins part_of coding_of character_set data_octets pad taking finding handing message_making lend shown_parts shown_in
both_come = refl

both_shown : (taking key both (9 ∷ 9 ∷ 9 ∷ 9 ∷ [])).2 ≡ 0x41 ∷ 0x43 ∷ 0x44 ∷ 9 ∷ []
unfolding empty key second one both placing_as joining told first slot_with free_slot fits slot_fits has_key holding holdings message_in missing_from with_part opened_with key_octets begins part_of coding_of character_set data_octets pad taking finding handing message_making lend shown_parts shown_in
both_shown = refl
