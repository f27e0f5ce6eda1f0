-- What reading at a place finds. The octets end where a field is not whole: refusal 2.
use Rattle.std.specs.Prelude.{ℕ, ◌+◌, ◌≡◌, refl, List, [], ◌∷◌, length, get_or, drop, ltb, leb, if◌then◌else◌, Ok, Err}
use Rattle.octets.specs.Answers.{Said}
use Rattle.octets.specs.declared.Place.{Place}
use Rattle.octets.specs.declared.Refusal.TheVariants.{OctetsEnd}

-- one octet, and the place after it
unfoldable pub octet_at : List ℕ → Place → Said (ℕ × Place)
octet_at s p = if ltb p.at (length s) then Ok (get_or s p.at 0, record { at = p.at + 1 }) else Err OctetsEnd

-- the next n octets: where they start, and the place after them
unfoldable pub span_at : List ℕ → Place → ℕ → Said (ℕ × Place)
span_at s p n = if leb n (length (drop p.at s)) then Ok (p.at, record { at = p.at + n }) else Err OctetsEnd

-- two octets, at the second and after it; zero octets are present at every place, even past the end
known_places : (octet_at (0x11 ∷ 0x22 ∷ []) (record { at = 1 }) ≡ Ok (0x22, record { at = 2 }))
    × (octet_at (0x11 ∷ 0x22 ∷ []) (record { at = 2 }) ≡ Err OctetsEnd)
    × (span_at (0x11 ∷ 0x22 ∷ []) (record { at = 1 }) 1 ≡ Ok (1, record { at = 2 }))
    × (span_at (0x11 ∷ 0x22 ∷ []) (record { at = 1 }) 2 ≡ Err OctetsEnd)
    × (span_at (0x11 ∷ 0x22 ∷ []) (record { at = 3 }) 0 ≡ Ok (3, record { at = 3 }))
unfolding octet_at span_at
known_places = (refl, refl, refl, refl, refl)
