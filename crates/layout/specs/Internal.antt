-- What functions of the codec say to each other of what they read at a place: nobody has to believe anything here.
use Rattle.std.specs.Prelude.{ℕ, List, get_or, drop, Ok, Err}
use Rattle.octets.specs.Answers.{Said}
use Rattle.octets.specs.Places.{span_at}
use Rattle.octets.specs.declared.Place.{Place}
use Rattle.layout.specs.Layout.{indicator_size, Reached, reached, halted}

-- the first of octets that are there
abbrev pub leading_at : List ℕ → Said (ℕ × Place) → Said (ℕ × Place)
leading_at s (Ok there) = Ok (get_or s there.0 0, there.1)
leading_at s (Err why) = Err why

-- what reading at a place finds of an indicator: its first octet, and the place after its last extension octet
unfoldable pub indicator_at : List ℕ → Place → Said (ℕ × Place)
indicator_at s p = leading_at s (span_at s p (indicator_size (drop p.at s)))

-- what was read, and the place after it
abbrev pub placed : {A : Type 0} → Reached A → Said (A × Place)
placed (reached a at) = Ok (a, record { at = at })
placed (halted why) = Err why
