-- What only functions of this crate say to each other: the rest of the layout from a field on, fields by their places in a string, and values that are written.
use Rattle.std.specs.Prelude.{ℕ, ◌+◌, ◌≤◌, ◌≡◌, List, [], ◌∷◌, ◌++◌, eqb, length, take, drop, Ok, Err}
use Rattle.octets.specs.Answers.{Said}
use Rattle.octets.specs.Checks.{◌unless◌, checked}
use Rattle.octets.specs.Lent.{Making}
use Rattle.octets.specs.declared.Refusal.TheVariants.{WrongMessageType, NotATime}
use Rattle.coding.specs.Coding.{coding_of, data_octets, data_checks}
use Rattle.time.specs.Time.{is_time, time_octets}
use Rattle.address.specs.Address.{address_size, canonical_address}
use Rattle.address.specs.Writing.{address_octets, octets_or, address_checks}
use Rattle.layout.specs.Layout.{Format, Reached, reached, halted, field, one, time, done, address as addressKind, user_data, kept, cut}
use Rattle.deliver.specs.Layout.{Fields, bits}
use Rattle.deliver.specs.declared.reading.DeliverFields.{DeliverFields}
use Rattle.deliver.specs.declared.writing.DeliverValues.{DeliverValues}

-- ---- reading

-- after TP-DCS
unfoldable pub after_coding : ℕ → List ℕ → ℕ → ℕ → Format Fields
after_coding first oa pid dcs =
    time λ scts. one λ udl. field (user_data (data_octets (coding_of dcs) udl)) λ ud.
    done (record { first = first; oa = oa; pid = pid; dcs = dcs; scts = scts; udl = udl; ud = ud })

-- after the address
unfoldable pub after_address : ℕ → List ℕ → Format Fields
after_address first oa = one λ pid. one λ dcs. after_coding first oa pid dcs

-- the fields at places of a string
unfoldable pub fields_at : List ℕ → DeliverFields → Fields
fields_at s p = record {
  first = kept bits p.first;
  oa = canonical_address (cut addressKind (drop p.address s));
  pid = p.pid;
  dcs = p.dcs;
  scts = take 7 (drop p.timestamp s);
  udl = p.udl;
  ud = take p.octets (drop p.«data» s);
}

-- the place after them
abbrev pub reached_at : DeliverFields → ℕ
reached_at p = p.«data» + p.octets

-- what an answer says of a string: the fields, and the place after them; or the refusal
abbrev pub found_says : List ℕ → Said DeliverFields → Reached Fields
found_says s (Ok p) = reached (fields_at s p) (reached_at p)
found_says s (Err why) = halted why

-- the places lie in the string, the address's is the given one
abbrev pub Inside : List ℕ → ℕ → DeliverFields → Type 0
Inside s at p =
    (p.address + address_size (drop p.address s) ≤ length s) × (p.timestamp + 7 ≤ length s) × (reached_at p ≤ length s) × (p.octets ≤ 255) × (p.address ≡ at)

-- ---- writing: values, the address's type, plan and text, the time's digits, the user data

-- their octets, in the layout's order
abbrev pub octets_in : DeliverValues → ℕ → ℕ → List ℕ → List ℕ → List ℕ → List ℕ
octets_in v ton npi text digits ud = v.first ∷ (octets_or [] (address_octets ton npi text) ++ (v.pid ∷ v.dcs ∷ (time_octets digits ++ (v.udl ∷ ud))))

-- what a writer makes of them, where no length passes its array: refusals 3, 7 and 8 of the data, 9 to 11 of the address, and 12
unfoldable pub making : DeliverValues → ℕ → ℕ → List ℕ → List ℕ → List ℕ → Making ℕ
making v ton npi text digits ud =
    checked ((WrongMessageType unless eqb v.mti 0) ∷ (data_checks v.dcs v.udl (length ud) ++ (address_checks ton npi text ++ ((NotATime unless is_time digits) ∷ []))))
    (octets_in v ton npi text digits ud)
