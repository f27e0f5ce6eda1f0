-- What functions of the codec say to each other of an address: nobody has to believe anything here.
use Rattle.std.specs.Prelude.{ℕ, ◌≤◌, ◌+◌, List, [], length, get_or, drop, leb, if◌then◌else◌, Ok, Err}
use Rattle.std.proofs.Math.Option.{Option, none, some}
use Rattle.octets.specs.Answers.{Said}
use Rattle.octets.specs.Lent.{Making, refused, made}
use Rattle.octets.specs.declared.Place.{Place}
use Rattle.octets.specs.declared.Refusal.TheVariants.{OctetsEnd}
use Rattle.address.specs.Address.{address_size}

-- what a check of an address tells of what is to be written: the length octet, or the refusal
abbrev pub check_of : Making ℕ → Said ℕ
check_of (refused r) = Err r
check_of (made octets answer) = Ok (get_or octets 0 0)

-- the septets of a text that has some; and that there are at most n
abbrev pub septets_or : Option (List ℕ) → List ℕ
septets_or none = []
septets_or (some ss) = ss

abbrev pub Spells : Option (List ℕ) → ℕ → Type 0
Spells none n = ⊥
Spells (some ss) n = length ss ≤ n

-- the whole address field at a place, with the place after it
unfoldable pub address_span : List ℕ → Place → Said (ℕ × Place)
address_span s p = if leb (address_size (drop p.at s)) (length (drop p.at s)) then Ok (p.at, record { at = p.at + address_size (drop p.at s) }) else Err OctetsEnd
