-- SMS-STATUS-REPORT (TS 23.040 §9.2.2.3): its layout.
use Rattle.std.specs.Prelude.{ℕ, ◌≡◌, refl, List, [], ◌∷◌, ◌++◌, Some, None, Option}
use Rattle.octets.specs.Each.{each}
use Rattle.octets.specs.SemiOctets.{semi_octets, in_pairs}
use Rattle.address.specs.Address.{without_f, value_text, text_in, canonical_address}
use Rattle.address.specs.Writing.{address_octets}
use Rattle.layout.specs.Layout.{Format, message, field, end_or, one, time, done, ◌then◌, address, leading, kept, indicator_size, after, reading, read_from, reached}
use Rattle.parameters.specs.Layout.{parameters}
use Rattle.parameters.specs.Parameters.{Parameters, no_parameters}

-- the fields, by their canonical octets
pub record Fields : Type 0 where
  pub first : ℕ
  pub mr : ℕ
  pub ra : List ℕ
  pub scts : List ℕ
  pub dt : List ℕ
  pub st : ℕ
  pub pi : Option ℕ
  pub held : Parameters

-- UDHI 6, SRQ 5, LP 3, MMS 2
abbrev pub bits : List ℕ
bits = 6 ∷ 5 ∷ 3 ∷ 2 ∷ []

-- MTI 2 and those bits; MR, address, two times, status; then the end, with no indicator, or indicator and parameters (§9.2.3.27)
unfoldable pub fields : Format Fields
fields =
    message 2 bits λ first. one λ mr. field address λ ra. time λ scts. time λ dt. one λ st.
    let with : Option ℕ → Parameters → Format Fields = λ pi held. done (record { first = first; mr = mr; ra = ra; scts = scts; dt = dt; st = st; pi = pi; held = held }) in
    end_or (with None no_parameters) λ i. parameters (leading i) then λ p. with (Some (leading i)) p

-- ---- a known row: 02 07, an address without digits 00 91, two times, status 30; then the end, which is no indicator, or 00, which is indicator 0

abbrev time_at : ℕ → List ℕ
time_at second = 0x42 ∷ 0x20 ∷ 0x51 ∷ 0x21 ∷ 0x03 ∷ second ∷ 0x00 ∷ []

abbrev to_status : List ℕ → List ℕ
to_status more = 0x02 ∷ 0x07 ∷ 0x00 ∷ 0x91 ∷ (time_at 0x54 ++ (time_at 0x94 ++ (0x30 ∷ more)))

abbrev with_indicator : Option ℕ → Fields
with_indicator pi = record { first = 2; mr = 7; ra = 0x00 ∷ 0x91 ∷ []; scts = time_at 0x54; dt = time_at 0x94; st = 0x30; pi = pi; held = no_parameters }

known_ends : (read_from fields (to_status []) 0 ≡ reached (with_indicator None) 19) × (read_from fields (to_status (0x00 ∷ [])) 0 ≡ reached (with_indicator (Some 0)) 20)
unfolding fields read_from reading after kept indicator_size parameters without_f value_text text_in address_octets canonical_address each semi_octets in_pairs
known_ends = (refl, refl)
