-- SMS-DELIVER (TS 23.040 §9.2.2.1): its layout.
use Rattle.std.specs.Prelude.{ℕ, List, [], ◌∷◌}
use Rattle.coding.specs.Coding.{coding_of, data_octets}
use Rattle.layout.specs.Layout.{Format, message, field, one, time, done, address, user_data}

-- the fields, by their canonical octets
pub record Fields : Type 0 where
  pub first : ℕ
  pub oa : List ℕ
  pub pid : ℕ
  pub dcs : ℕ
  pub scts : List ℕ
  pub udl : ℕ
  pub ud : List ℕ

-- RP 7, UDHI 6, SRI 5, LP 3, MMS 2
abbrev pub bits : List ℕ
bits = 7 ∷ 6 ∷ 5 ∷ 3 ∷ 2 ∷ []

-- MTI 0 and those bits; address, PID, DCS, time, UDL, data
unfoldable pub fields : Format Fields
fields =
    message 0 bits λ first. field address λ oa. one λ pid. one λ dcs. time λ scts. one λ udl. field (user_data (data_octets (coding_of dcs) udl)) λ ud.
    done (record { first = first; oa = oa; pid = pid; dcs = dcs; scts = scts; udl = udl; ud = ud })
