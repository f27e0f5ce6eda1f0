-- What the checks of a record, and of records in their order, find.
-- Assumes nothing.
use Rattle.std.specs.Prelude.{Err, None}
use Prim.Native.Nat.{ℕ, ◌+◌, ◌<◌, ◌≤◌}
use mathlib.Core.Path.{◌≡◌, ◌∙◌}
use mathlib.Core.Bool.{true, false}
use mathlib.Core.List.{List, [], ◌∷◌, ◌++◌, append_assoc, map}
use mathlib.Core.Logic.{◌↔◌}
use native.Mathlib.Numerals.{add-one}
use native.Mathlib.Omega.{arith}
use borrow.Author.Tests.{leb-true}
use lib.Dec.{leb, eqb}
use lib.ListN.{length, get_or, drop, drop_of_length-le}
use lib.Seq.{drop-cons}
use Rattle.octets.specs.Answers.{fine}
use Rattle.octets.specs.Checks.{found, ◌unless◌, all_fit}
use Rattle.octets.specs.Choice.{within}
use Rattle.octets.specs.Each.{each}
use Rattle.octets.specs.declared.Refusal.{Refusal}
use Rattle.octets.specs.declared.Refusal.TheVariants.{LengthTooLarge, NotATime, RecipientNotPrintable}
use Rattle.octets.specs.Held.{filled}
use Rattle.octets.specs.Lent.{Wrote}
use Rattle.octets.proofs.Checks.{passed, against, holds, both_hold, all_fit_lem}
use Rattle.octets.proofs.Choice.{and_true, and_means, leb_means, within_means}
use Rattle.octets.proofs.Each.{each_means}
use Rattle.time.specs.Time.{is_hex, is_time, in_hex}
use Rattle.time.proofs.Laws.{time_means}
use Rattle.address.specs.Address.{text_held}
use Rattle.status_report.specs.StatusReport.{lengths_of}
use Rattle.status_report.specs.declared.SmsStatusReport.{SmsStatusReport}
use Rattle.shift_page.specs.ShiftPage.{printable, report_checks, reports_checks, fields, report_line, ended}

-- ---- of a record: 1, 34, 12

module _ (r : SmsStatusReport) where
  abbrev pub recipient_of : List ℕ
  recipient_of = text_held r.tp_recipient_address

  abbrev pub discharge_of : List ℕ
  discharge_of = filled r.tp_discharge_time

  pub lengths_against : all_fit (lengths_of r) ≡ false → found (report_checks r) ≡ Err LengthTooLarge
  unfolding report_checks
  lengths_against e = rw e

  module _ (e : all_fit (lengths_of r) ≡ true) where
    pub recipient_against : printable recipient_of ≡ false → found (report_checks r) ≡ Err RecipientNotPrintable
    unfolding report_checks
    recipient_against p = rw (e, p)

    module _ (p : printable recipient_of ≡ true) where
      pub time_against : is_time discharge_of ≡ false → found (report_checks r) ≡ Err NotATime
      unfolding report_checks
      time_against t = rw (e, p, t)

      pub report_fine : is_time discharge_of ≡ true → found (report_checks r) ≡ fine
      unfolding report_checks
      report_fine t = rw (e, p, t)

  -- a record that passes
  pub record Passed : Type 0 where
    pub lengths : all_fit (lengths_of r) ≡ true
    pub short : length recipient_of ≤ 20
    pub shown : each (within 0x20 0x7e) recipient_of ≡ true
    pub long : length discharge_of ≡ 14
    pub digits : each is_hex discharge_of ≡ true

  pub fine_told : found (report_checks r) ≡ fine → Passed
  unfolding report_checks printable is_time
  fine_told e =
      let (l, f) = holds LengthTooLarge (all_fit (lengths_of r)) ((RecipientNotPrintable unless printable recipient_of) ∷ (NotATime unless is_time discharge_of) ∷ []) e in
      let (p, g) = holds RecipientNotPrintable (printable recipient_of) ((NotATime unless is_time discharge_of) ∷ []) f in
      let (t, h) = holds NotATime (is_time discharge_of) [] g in
      let (short, shown) = and_true (leb (length recipient_of) 20) (each (within 0x20 0x7e) recipient_of) p in
      record {
        lengths = l;
        short = leb-true (length recipient_of) 20 short;
        shown = shown;
        long = ((time_means discharge_of).0 t).0;
        digits = (and_true (eqb (length discharge_of) 14) (each is_hex discharge_of) t).1;
      }

  -- its columns, as the code cuts them out
  module _ (e : found (report_checks r) ≡ fine) where
    pub recipient_short : {s : List ℕ} → s ≡ recipient_of → length s ≤ 20
    recipient_short is = rw is (fine_told e).short

    pub discharge_few : r.tp_discharge_time.length ≤ 14
    discharge_few = let fit = all_fit_lem (lengths_of r) (fine_told e).lengths in omega (arith, fit)

    pub discharge_long : {s : List ℕ} → s ≡ discharge_of → length s ≡ 14
    discharge_long is = rw is (fine_told e).long

  pub line_wrote : {recipient discharge : List ℕ} {at next : ℕ} {before after : List ℕ} → Wrote at (ended (fields recipient (in_hex r.tp_status) discharge ∷ [])) before next after
      → recipient ≡ recipient_of → discharge ≡ discharge_of → Wrote at (ended (report_line r ∷ [])) before next after
  unfolding report_line
  line_wrote w is_r is_d = rw (← is_r, ← is_d) w

-- a recipient that is shown, in plain terms
pub printable_means : (text : List ℕ) → (printable text ≡ true) ↔ ((length text ≤ 20) × ((i : ℕ) → i < length text → (0x20 ≤ get_or text i 0) × (get_or text i 0 ≤ 0x7e)))
unfolding printable
printable_means text =
    let all = each_means (within 0x20 0x7e) text in
    and_means _ _ (leb_means (length text) 20) (λ e i h. (within_means 0x20 0x7e (get_or text i 0)).0 (all.0 e i h), λ f. all.1 (λ i h. (within_means 0x20 0x7e (get_or text i 0)).1 (f i h)))

-- ---- of records

-- those that pass leave the next to decide
pub first_against : (rs : List SmsStatusReport) (r : SmsStatusReport) (more : List SmsStatusReport) {why : Refusal} → found (reports_checks rs) ≡ fine → found (report_checks r) ≡ Err why → found (reports_checks (rs ++ (r ∷ more))) ≡ Err why
unfolding reports_checks
first_against [] r more e a = against (reports_checks more) (report_checks r) a
first_against (q ∷ rs) r more e a =
    let (f, g) = both_hold (report_checks q) (reports_checks rs) e in
    passed (reports_checks (rs ++ (r ∷ more))) (report_checks q) f ∙ first_against rs r more g a

-- what the code reads outside an array
abbrev pub nowhere : SmsStatusReport
nowhere = record {
  tp_udhi = false;
  tp_srq = false;
  tp_lp = false;
  tp_mms = false;
  tp_mr = 0;
  tp_recipient_address = record { ton = 0; npi = 0; address = record { octets = []; length = 0 } };
  tp_service_centre_timestamp = record { octets = []; length = 0 };
  tp_discharge_time = record { octets = []; length = 0 };
  tp_status = 0;
  tp_parameter_indicator = None;
  tp_pid = None;
  tp_dcs = None;
  tp_user_data_length = None;
  tp_user_data = record { octets = []; length = 0 };
}

-- a loop has passed the first i of so many
module _ (rs : List SmsStatusReport) (i : ℕ) where
  module _ (h : i < length rs) where
    abbrev rest : List SmsStatusReport
    rest = drop (i + 1) rs

    abbrev report : SmsStatusReport
    report = get_or rs i nowhere

    -- one more record
    next_report : drop i rs ≡ report ∷ rest
    next_report = rw (add-one, drop-cons rs i nowhere h)

    pub report_passed : found (report_checks report) ≡ fine → found (reports_checks (drop i rs)) ≡ found (reports_checks rest)
    unfolding reports_checks
    report_passed e = rw next_report (passed (reports_checks rest) (report_checks report) e)

    pub report_against : {why : Refusal} → found (report_checks report) ≡ Err why → found (reports_checks (drop i rs)) ≡ Err why
    unfolding reports_checks
    report_against e = rw next_report (against (reports_checks rest) (report_checks report) e)

    pub both_fine : found (reports_checks (drop i rs)) ≡ fine → (found (report_checks report) ≡ fine) × (found (reports_checks rest) ≡ fine)
    unfolding reports_checks
    both_fine e = both_hold (report_checks report) (reports_checks rest) (rw next_report at e)

    pub next_line : ended (map report_line (drop i rs)) ≡ ended (report_line report ∷ []) ++ ended (map report_line rest)
    unfolding ended
    next_line = rw (next_report, append_assoc)

  module _ (h : length rs ≤ i) where
    pub no_lines : ended (map report_line (drop i rs)) ≡ []
    unfolding ended
    no_lines = rw (drop_of_length-le rs h)

    pub reports_end : found (reports_checks (drop i rs)) ≡ fine
    unfolding reports_checks
    reports_end = rw (drop_of_length-le rs h)
