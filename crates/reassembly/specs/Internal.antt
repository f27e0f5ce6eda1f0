-- What only functions of this crate say to each other: the slot that was found, and what is kept of a part.
use Rattle.std.specs.Prelude.{ℕ, List, Ok, Err, Option as Maybe}
use Rattle.octets.specs.Answers.{Said}
use Rattle.message_store.specs.Part.{Part}
use Rattle.message_store.specs.Store.{slot_there}
use Rattle.reassembly.specs.declared.PartFields.{PartFields}

-- the slot that was found, none where the message is not open
abbrev pub slot_found : Said ℕ → Said (Maybe ℕ)
slot_found (Ok k) = Ok (slot_there k)
slot_found (Err why) = Err why

-- what is kept of a part
abbrev pub kept : PartFields → List ℕ → Part
kept f octets = record { udl = f.udl; octets = octets }
