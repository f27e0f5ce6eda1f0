-- What is claimed of relay addresses that were read: when two are equal, and what writing one answers.
use Rattle.std.specs.Prelude.{ℕ, ◌<◌, ◌≡◌, List, [], ◌∷◌, ◌++◌, length, drop, Some, Ok, Err}
use Rattle.octets.specs.Lent.{lend}
use Rattle.octets.specs.declared.Refusal.TheVariants.{AddressTooLong, AlphanumericRelayAddress}
use Rattle.address.specs.Address.{type_of_number, plan_of}
use Rattle.relay_address.specs.declared.RelayAddress.{RelayAddress}
use Rattle.relay_address.specs.Relay.{digits_in, read_as, relay_read, value_of, digits_held, octets_of, relay_making}

-- of the octets that two length octets count: both addresses are absent, or type, plan and digits without F agree
abbrev pub Agree : List ℕ → List ℕ → Type 0
Agree [] [] = Unit
Agree [] (p ∷ w) = ⊥
Agree (o ∷ v) [] = ⊥
Agree (o ∷ v) (p ∷ w) = (type_of_number o ≡ type_of_number p) × (plan_of o ≡ plan_of p) × (digits_in v ≡ digits_in w)

-- the value of a record's digits, written afresh, passes 10 octets
abbrev pub Long : RelayAddress → Type 0
Long a = 10 < length (value_of (digits_held a))

-- writing to this buffer is refused where type of number is 5 (32), where the value passes 10 octets (11), and nowhere else; what is written reads back as the same address
pub record Rewritten (a : RelayAddress) (buffer : List ℕ) : Type 0 where
  pub alphanumeric : a.ton ≡ 5 → lend (relay_making (Some a)) buffer ≡ (Err AlphanumericRelayAddress, buffer)
  pub long : (a.ton ≡ 5 → ⊥) → Long a → lend (relay_making (Some a)) buffer ≡ (Err AddressTooLong, buffer)
  pub written : (a.ton ≡ 5 → ⊥) → (Long a → ⊥) → lend (relay_making (Some a)) buffer ≡ (Ok (length (octets_of a)), octets_of a ++ drop (length (octets_of a)) buffer)
  pub back : (rest : List ℕ) → relay_read (octets_of a ++ rest) ≡ read_as (Some a) (length (octets_of a))
