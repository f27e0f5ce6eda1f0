-- SMS-SUBMIT (TS 23.040 §9.2.2.2): its layout.
use Rattle.std.specs.Prelude.{ℕ, ◌/◌, ◌%◌, Bool, List, [], ◌∷◌, leb, length, if◌then◌else◌}
use Rattle.octets.specs.declared.Refusal.TheVariants.{HeaderNotWhole, HeaderPassesCount}
use Rattle.coding.specs.Coding.{coding_of, data_octets}
use Rattle.user_data_header.specs.Header.{header_octets, in_count}
use Rattle.layout.specs.Layout.{Format, message, field, one, require, done, address, octets, any, user_data, is_set}
use Rattle.validity_period.specs.Validity.{period_size}

-- ---- the header of user data (§9.2.3.24)

-- the octets that a header takes: its first octet plus 1, and 1 where the data are empty and so don't hold it; none without TP-UDHI
unfoldable pub header_size : Bool → List ℕ → ℕ
header_size udhi ud = if udhi then header_octets ud else 0

-- ---- the layout

-- the fields, by their canonical octets
pub record Fields : Type 0 where
  pub first : ℕ
  pub mr : ℕ
  pub da : List ℕ
  pub pid : ℕ
  pub dcs : ℕ
  pub vp : List ℕ
  pub udl : ℕ
  pub ud : List ℕ

-- RP 7, UDHI 6, SRR 5, VPF 4 and 3, RD 2
abbrev pub bits : List ℕ
bits = 7 ∷ 6 ∷ 5 ∷ 4 ∷ 3 ∷ 2 ∷ []

-- TP-VPF of a first octet
abbrev pub format_in : ℕ → ℕ
format_in first = first / 8 % 4

-- MTI 1 and those bits; MR, address, PID, DCS, validity, UDL, data; the header fits the data and, in 7-bit coding, the UDL
unfoldable pub fields : Format Fields
fields =
    message 1 bits λ first. one λ mr. field address λ da. one λ pid. one λ dcs. field (octets any (period_size (format_in first))) λ vp. one λ udl. field (user_data (data_octets (coding_of dcs) udl)) λ ud.
    let h = header_size (is_set 6 first) ud in
    require HeaderNotWhole (leb h (length ud)) (require HeaderPassesCount (in_count (coding_of dcs) udl h)
    (done (record { first = first; mr = mr; da = da; pid = pid; dcs = dcs; vp = vp; udl = udl; ud = ud })))
