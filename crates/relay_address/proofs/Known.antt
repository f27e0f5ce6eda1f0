-- Known rows: relay addresses that are read and written, and what is refused.
-- Assumes nothing.
use Rattle.std.specs.Prelude.{Option, Some, None, Err}
use Prim.Native.Nat.{ℕ}
use Prim.Native.String.{String}
use mathlib.Core.Path.{◌≡◌, refl}
use mathlib.Core.List.{List, [], ◌∷◌, ◌++◌}
use lib.ListN.{length, replicate}
use Rattle.octets.specs.Arrays.{pad}
use Rattle.octets.specs.Held.{holding}
use Rattle.octets.specs.Checks.{checked}
use Rattle.octets.specs.Each.{each}
use Rattle.octets.specs.Lent.{refused, made}
use Rattle.octets.specs.SemiOctets.{semi_octets, in_pairs}
use Rattle.octets.specs.Texts.{codes}
use Rattle.octets.specs.declared.Refusal.{Refusal}
use Rattle.octets.specs.declared.Refusal.TheVariants.{LengthTooLarge, OctetsEnd, NumberTypeOrPlanTooLarge, NotInAlphabet, AddressTooLong, AlphanumericRelayAddress}
use Rattle.gsm7.specs.Alphabet.{index_of}
use Rattle.address.specs.Address.{digit_character, without_f}
use Rattle.address.specs.Writing.{digit_characters, digit_value, is_digit}
use Rattle.relay_address.specs.declared.RelayAddress.{RelayAddress}
use Rattle.relay_address.specs.Relay.{relay_with, relay_of, read_as, relay_read, relay_octets, relay_checks, relay_making}

-- all octets are read as this address, or as none
abbrev Reads : List ℕ → Option RelayAddress → Type 0
Reads s a = relay_read s ≡ read_as a (length s)

abbrev Unread : List ℕ → Type 0
Unread s = relay_read s ≡ Err OctetsEnd

abbrev Writes : Option RelayAddress → List ℕ → Type 0
Writes a octets = relay_making a ≡ made octets (length octets)

abbrev Unwritten : RelayAddress → Refusal → Type 0
Unwritten a why = relay_making (Some a) ≡ refused why

abbrev Both : List ℕ → Option RelayAddress → Type 0
Both s a = Reads s a × Writes a s

-- an address of type and plan 1
abbrev number : String → RelayAddress
number text = relay_with 1 1 (codes text)

-- 12 ten times
abbrev twenty : List ℕ
twenty = replicate 10 0x21

-- a record with this type, plan and length, and letters in its array
abbrev with : ℕ → ℕ → ℕ → RelayAddress
with ton npi n = record { ton = ton; npi = npi; address = record { octets = replicate 508 0x78; length = n } }

pub known :
    -- no address; a number; a number of no digits; F alone; octets after an address
    Both (0x00 ∷ []) None
    × Both (0x07 ∷ 0x91 ∷ 0x13 ∷ 0x26 ∷ 0x04 ∷ 0x00 ∷ 0x00 ∷ 0xf0 ∷ []) (Some (number "31624000000"))
    × Both (0x01 ∷ 0x91 ∷ []) (Some (number ""))
    × Reads (0x02 ∷ 0x91 ∷ 0xff ∷ []) (Some (number ""))
    × (relay_read (0x02 ∷ 0x91 ∷ 0xf1 ∷ 0x22 ∷ []) ≡ read_as (Some (number "1")) 3)
    -- F in the middle; every digit
    × Reads (0x03 ∷ 0x91 ∷ 0xf1 ∷ 0x32 ∷ []) (Some (number "123"))
    × Both (0x09 ∷ 0xa8 ∷ 0x10 ∷ 0x32 ∷ 0x54 ∷ 0x76 ∷ 0x98 ∷ 0xba ∷ 0xdc ∷ 0xfe ∷ []) (Some (relay_with 2 8 (codes "0123456789*#abc")))
    -- 20 digits; 21 are read, and 11 in writing; 20 and FF are written without it
    × Both (0x0b ∷ 0x91 ∷ twenty) (Some (number "12121212121212121212"))
    × Reads (0x0c ∷ 0x91 ∷ twenty ++ 0xf3 ∷ []) (Some (number "121212121212121212123"))
    × Unwritten (number "121212121212121212123") AddressTooLong
    × Reads (0x0c ∷ 0x91 ∷ twenty ++ 0xff ∷ []) (Some (number "12121212121212121212"))
    -- 508 digits
    × Reads (0xff ∷ 0x91 ∷ replicate 254 0x55) (Some (relay_with 1 1 (replicate 508 0x35)))
    × Unwritten (relay_with 1 1 (replicate 508 0x35)) AddressTooLong
    -- type 5 is read as digits, and 32 in writing: after 9, and before 10 and 11
    × Reads (0x03 ∷ 0xd0 ∷ 0x41 ∷ 0x21 ∷ []) (Some (relay_with 5 0 (codes "1412")))
    × Unwritten (relay_with 5 0 (codes "1412")) AlphanumericRelayAddress
    × Unwritten (with 5 0 508) AlphanumericRelayAddress
    × Unwritten (with 5 16 508) NumberTypeOrPlanTooLarge
    × Unwritten (with 8 15 508) NumberTypeOrPlanTooLarge
    × Unwritten (with 1 15 508) NotInAlphabet
    -- a length past the array; no address, which has none
    × Unwritten (with 8 16 509) LengthTooLarge
    × Writes None (0x00 ∷ [])
    -- no octet, no type octet, a value that isn't whole
    × Unread [] × Unread (0x01 ∷ []) × Unread (0x03 ∷ 0x91 ∷ 0x21 ∷ [])
unfolding codes pad holding each checked semi_octets in_pairs index_of digit_characters digit_character digit_value is_digit without_f relay_with relay_of relay_read relay_octets relay_checks relay_making
known = ((refl, refl), (refl, refl), (refl, refl), refl, refl, refl, (refl, refl), (refl, refl), refl, refl, refl, refl, refl, refl, refl, refl, refl, refl, refl, refl, refl, refl, refl, refl)
