-- The shift page: status reports laid out as lines of 38 characters and a line feed.
use Rattle.std.specs.Prelude.{ℕ, ◌-◌, ◌≡◌, refl, Bool, false, ◌&&◌, List, [], ◌∷◌, ◌++◌, map, leb, ltb, length, replicate, if◌then◌else◌, None}
use Prim.Native.Char.{code}
use Rattle.octets.specs.Arrays.{pad}
use Rattle.octets.specs.Checks.{Check, ◌unless◌, checked, all_fit}
use Rattle.octets.specs.Choice.{within}
use Rattle.octets.specs.Decimal.{significant, decimal_text}
use Rattle.octets.specs.Each.{each}
use Rattle.octets.specs.Lent.{Making, refused}
use Rattle.octets.specs.Texts.{codes}
use Rattle.octets.specs.declared.Refusal.TheVariants.{LengthTooLarge, NotATime, TooManyRecords, RecipientNotPrintable}
use Rattle.octets.specs.Held.{holding, filled}
use Rattle.time.specs.Time.{hex_digit, in_hex, is_time, time_in}
use Rattle.address.specs.Address.{address_with, text_held}
use Rattle.status_report.specs.StatusReport.{lengths_of}
use Rattle.status_report.specs.declared.SmsStatusReport.{SmsStatusReport}

-- ---- columns

-- a text in n columns, from the left and from the right; unused columns are spaces
unfoldable pub left : ℕ → List ℕ → List ℕ
left n text = text ++ replicate (n - length text) (code " ")

unfoldable pub right : ℕ → List ℕ → List ℕ
right n text = replicate (n - length text) (code " ") ++ text

-- ---- lines of 38 characters

-- three fields from the left, in 20, 2 and 14 columns, with a space between
unfoldable pub fields : List ℕ → List ℕ → List ℕ → List ℕ
fields recipient status discharge = left 20 recipient ++ (code " " ∷ (left 2 status ++ (code " " ∷ left 14 discharge)))

unfoldable pub heading : List ℕ
heading = fields (codes "RECIPIENT") (codes "ST") (codes "DISCHARGE")

-- a record's line: the recipient, the status in two capital hexadecimal digits, the discharge time as held
unfoldable pub report_line : SmsStatusReport → List ℕ
report_line r = fields (text_held r.tp_recipient_address) (in_hex r.tp_status) (filled r.tp_discharge_time)

-- the last line: the number of records in decimal, in 17 columns from the right
unfoldable pub total_line : ℕ → List ℕ
total_line n = left 20 (codes "TOTAL") ++ (code " " ∷ right 17 (decimal_text n))

-- ---- the page

-- lines, with a line feed after each
unfoldable pub ended : List (List ℕ) → List ℕ
ended [] = []
ended (line ∷ lines) = line ++ (0x0a ∷ ended lines)

-- the heading, a line for each record in the order given, and the last line
unfoldable pub shift_page : List SmsStatusReport → List ℕ
shift_page rs = ended (heading ∷ (map report_line rs ++ (total_line (length rs) ∷ [])))

-- ---- checks

-- at most 20 octets, each from 20 to 7E
unfoldable pub printable : List ℕ → Bool
printable text = leb (length text) 20 && each (within 0x20 0x7e) text

-- of a record: 1, 34, 12
unfoldable pub report_checks : SmsStatusReport → List Check
report_checks r = (LengthTooLarge unless all_fit (lengths_of r)) ∷ (RecipientNotPrintable unless printable (text_held r.tp_recipient_address)) ∷ (NotATime unless is_time (filled r.tp_discharge_time)) ∷ []

-- of records, in their order
unfoldable pub reports_checks : List SmsStatusReport → List Check
reports_checks [] = []
reports_checks (r ∷ rs) = report_checks r ++ reports_checks rs

-- ---- what is made of records: 33 before any of them is looked at, then their checks, then the page
unfoldable pub paging : List SmsStatusReport → Making ℕ
paging rs = if ltb 99 (length rs) then refused TooManyRecords else checked (reports_checks rs) (shift_page rs)

-- ---- known rows: no report, and one

known : SmsStatusReport
known = record {
  tp_udhi = false;
  tp_srq = false;
  tp_lp = false;
  tp_mms = false;
  tp_mr = 0;
  tp_recipient_address = address_with 1 1 (codes "12345");
  tp_service_centre_timestamp = time_in [];
  tp_discharge_time = record { octets = codes "240215123045fA"; length = 14 };
  tp_status = 0x4f;
  tp_parameter_indicator = None;
  tp_pid = None;
  tp_dcs = None;
  tp_user_data_length = None;
  tp_user_data = holding 255 [];
}

known_pages : (shift_page [] ≡ ended (codes "RECIPIENT            ST DISCHARGE     " ∷ codes "TOTAL                                0" ∷ []))
    × (shift_page (known ∷ []) ≡ ended (codes "RECIPIENT            ST DISCHARGE     " ∷ codes "12345                4F 240215123045fA" ∷ codes "TOTAL                                1" ∷ []))
    × (ended (codes "a" ∷ codes "b" ∷ []) ≡ codes "a" ++ (0x0a ∷ (codes "b" ++ (0x0a ∷ []))))
unfolding known shift_page heading fields left right report_line total_line codes decimal_text significant hex_digit address_with pad ended holding
known_pages = (refl, refl, refl)
