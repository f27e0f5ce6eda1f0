-- What a page tells: line k + 1 tells record k, and the last line the number of records. So equal pages are of records that tell the same.
-- Assumes nothing.
use Rattle.std.specs.Prelude.{Ok}
use Prim.Native.Nat.{ℕ, zero, suc, ◌+◌, ◌*◌, ◌/◌, ◌%◌, ◌<◌, ◌≤◌}
use Prim.Native.Char.{code}
use mathlib.Core.Path.{◌≡◌, refl, sym, ap, ◌∙◌}
use mathlib.Core.List.{List, [], ◌∷◌, ◌++◌, map}
use native.Mathlib.Numerals.{add-one}
use native.Mathlib.Nat.{not-suc-le-zero}
use native.Mathlib.Omega.{arith}
use borrow.Author.Tests.{ltb-false}
use lib.Dec.{ltb}
use lib.ListN.{length, get_or, take, drop, length-append, length-map, get_or-append, get_or-map}
use lib.Seq.{take_at, get_or_at, take_all, drop-append-add, get_or-append-add}
use Rattle.octets.specs.Answers.{fine}
use Rattle.octets.specs.Checks.{found}
use Rattle.octets.specs.Each.{Octets}
use Rattle.octets.specs.Lent.{made, lend}
use Rattle.octets.specs.declared.Refusal.TheVariants.{TooManyRecords}
use Rattle.octets.proofs.Checks.{both_hold, made_told, made_unless, made_counts}
use Rattle.octets.proofs.Laws.{take_cleared}
use Rattle.time.specs.Time.{hex_digit, in_hex, hex_value}
use Rattle.time.proofs.Hex.{hex_digit_lem}
use Rattle.layout.proofs.Answered.{written}
use Rattle.status_report.specs.StatusReport.{blank, cleared, Typed}
use Rattle.status_report.specs.declared.SmsStatusReport.{SmsStatusReport}
use Rattle.shift_page.specs.ShiftPage.{left, fields, heading, report_line, total_line, ended, shift_page, report_checks, reports_checks, paging}
use Rattle.shift_page.specs.Told.{line_at, end_at, told_by, told_of, Tells}
use Rattle.shift_page.proofs.Lines.{length_left, left_full}
use Rattle.shift_page.proofs.Trimmed.{trimmed_left}
use Rattle.shift_page.proofs.Checks.{recipient_of, discharge_of, fine_told}
use Rattle.shift_page.proofs.Page.{Line, Lines, one_more, total_line_lem, page_lines, page_size}

-- ---- line after line

module _ (d : List ℕ) where
  pub line_at_lem : (ls : List (List ℕ)) → Lines ls → (k : ℕ) → k < length ls → (line_at (ended ls) k ≡ get_or ls k d) × (end_at (ended ls) k ≡ 0x0a) × Line (get_or ls k d)
  unfolding ended
  line_at_lem [] more k h = absurd (not-suc-le-zero h)
  line_at_lem (l ∷ ls) (one_more one more) zero h = (take_at l (0x0a ∷ ended ls) 38 one.size, get_or_at l 0x0a (ended ls) 0 38 one.size, one)
  line_at_lem (l ∷ ls) (one_more one more) (suc k) h =
      let at : 39 * suc k ≡ length l + suc (39 * k) = omega (arith, one.size) in
      let end : 39 * suc k + 38 ≡ length l + suc (39 * k + 38) = omega (arith, one.size) in
      let (x, y, z) = line_at_lem ls more k (omega arith) in
      (rw (at, drop-append-add l (0x0a ∷ ended ls) (suc (39 * k))) x, rw (end, get_or-append-add l (0x0a ∷ ended ls) (suc (39 * k + 38)) 0) y, z)

-- ---- in a line column by column

module _ (xs ys : List ℕ) (n k : ℕ) (e : length xs ≡ n) where
  drop_past : drop (n + k) (xs ++ ys) ≡ drop k ys
  drop_past = rw (← e) (drop-append-add xs ys k)

  get_d_past : get_or (xs ++ ys) (n + k) 0 ≡ get_or ys k 0
  get_d_past = rw (← e) (get_or-append-add xs ys k 0)

-- the value of an octet's two digits
in_hex_lem : (octet : ℕ) → octet < 256 → 16 * hex_value (hex_digit (octet / 16)) + hex_value (hex_digit (octet % 16)) ≡ octet
in_hex_lem octet h = rw ((hex_digit_lem (octet / 16) (omega arith)).2, (hex_digit_lem (octet % 16) (omega arith)).2) (omega arith)

module _ (r s d : List ℕ) (short : length r ≤ 20) (two : length s ≡ 2) (long : length d ≡ 14) where
  abbrev after : List ℕ
  after = code " " ∷ (s ++ (code " " ∷ d))

  fields_are : fields r s d ≡ left 20 r ++ after
  unfolding fields
  fields_are = rw (left_full 2 s two, left_full 14 d long)

  recipient_columns : take 20 (fields r s d) ≡ left 20 r
  recipient_columns = rw fields_are (take_at (left 20 r) after 20 (length_left 20 r short))

  status_column : (k : ℕ) → get_or (fields r s d) (20 + k) 0 ≡ get_or after k 0
  status_column k = rw fields_are (get_d_past (left 20 r) after 20 k (length_left 20 r short))

  discharge_columns : take 14 (drop 24 (fields r s d)) ≡ d
  discharge_columns = rw (fields_are, drop_past (left 20 r) after 20 4 (length_left 20 r short), drop_past s (code " " ∷ d) 2 1 two) (take_all 14 d (omega arith))

-- a record's line tells the record
pub line_tells : (r : SmsStatusReport) → r.tp_status < 256 → found (report_checks r) ≡ fine → told_by (report_line r) ≡ told_of r
unfolding report_line
line_tells r octet e =
    let p = fine_told r e in
    let status = in_hex r.tp_status in
    rw (
      recipient_columns (recipient_of r) status (discharge_of r) p.short refl p.long,
      trimmed_left 20 (recipient_of r),
      status_column (recipient_of r) status (discharge_of r) p.short refl p.long 1,
      status_column (recipient_of r) status (discharge_of r) p.short refl p.long 2,
      in_hex_lem r.tp_status octet,
      discharge_columns (recipient_of r) status (discharge_of r) p.short refl p.long,
    )

-- ---- the page

abbrev pub statuses : List SmsStatusReport → List ℕ
statuses = map (λ r. r.tp_status)

fine_at : (rs : List SmsStatusReport) → found (reports_checks rs) ≡ fine → (k : ℕ) → k < length rs → found (report_checks (get_or rs k blank)) ≡ fine
unfolding reports_checks
fine_at [] e k h = absurd (not-suc-le-zero h)
fine_at (r ∷ rs) e zero h = (both_hold (report_checks r) (reports_checks rs) e).0
fine_at (r ∷ rs) e (suc k) h = fine_at rs (both_hold (report_checks r) (reports_checks rs) e).1 k (omega arith)

module _ (rs : List SmsStatusReport) (e : found (reports_checks rs) ≡ fine) (few : length rs ≤ 99) where
  abbrev all : List (List ℕ)
  all = heading ∷ (map report_line rs ++ (total_line (length rs) ∷ []))

  how_many : length all ≡ length rs + 2
  how_many = simp (length-append, length-map) (omega arith)

  at_line : (d : List ℕ) (k : ℕ) → k < length rs + 2 → (line_at (shift_page rs) k ≡ get_or all k d) × (end_at (shift_page rs) k ≡ 0x0a) × Line (get_or all k d)
  unfolding shift_page
  at_line d k h = line_at_lem d all (page_lines rs e few) k (rw how_many h)

  record_line : (k : ℕ) → k < length rs → line_at (shift_page rs) (k + 1) ≡ report_line (get_or rs k blank)
  record_line k h =
      (at_line (report_line blank) (k + 1) (omega arith)).0
      ∙ rw (add-one k) (get_or-append (map report_line rs) (total_line (length rs) ∷ []) (report_line blank) k (rw length-map h) ∙ get_or-map report_line rs k blank)

  last_line : line_at (shift_page rs) (length rs + 1) ≡ total_line (length rs)
  last_line = (at_line [] (length rs + 1) (omega arith)).0 ∙ rw (add-one (length rs)) (get_or_at (map report_line rs) (total_line (length rs)) [] [] (length rs) (length-map rs report_line))

  status_octet : Octets (statuses rs) → (k : ℕ) → (get_or rs k blank).tp_status < 256
  unfolding blank
  status_octet o k = rw (← get_or-map (λ r. r.tp_status) rs k blank) (o k)

  -- a page tells its records
  pub page_tells : Octets (statuses rs) → Tells (shift_page rs) rs
  page_tells o = record {
    size = page_size rs e few;
    lines = λ k h. let (x, y, z) = at_line [] k h in (rw x z.size, rw x z.one, y);
    first = (at_line [] 0 (omega arith)).0;
    records = λ k h. rw (record_line k h) (line_tells (get_or rs k blank) (status_octet o k) (fine_at rs e k h));
    total = rw last_line (total_line_lem (length rs) few).1;
  }

-- ---- what was made, and what was written to a lent buffer

module _ (rs : List SmsStatusReport) where
  pub made_tells : {octets : List ℕ} {count : ℕ} → Octets (statuses rs) → paging rs ≡ made octets count → Tells octets rs
  unfolding paging
  made_tells o m =
      let (few, c) = made_unless TooManyRecords (ltb 99 (length rs)) m in
      let (f, is) = made_told (reports_checks rs) (shift_page rs) c in
      rw (← is) (page_tells rs f (omega (arith, ltb-false 99 (length rs) few)) o)

  counts : (xs : List ℕ) (a : ℕ) → paging rs ≡ made xs a → a ≡ length xs
  unfolding paging
  counts xs a m = made_counts (reports_checks rs) (shift_page rs) (made_unless TooManyRecords (ltb 99 (length rs)) m).1

  -- the octets that `shift_page` wrote, as many as it answers, tell the records
  pub written_tells : Octets (statuses rs) → (buffer : List ℕ) (k : ℕ) → (lend (paging rs) buffer).0 ≡ Ok k → Tells (take k (lend (paging rs) buffer).1) rs
  written_tells o buffer k e = made_tells o (written (paging rs) buffer k counts e)

-- pages that are equal are of as many records, which tell the same in their order
pub equal_pages : {page : List ℕ} {rs ss : List SmsStatusReport} → Tells page rs → Tells page ss
    → (length rs ≡ length ss) × ((k : ℕ) → k < length rs → told_of (get_or rs k blank) ≡ told_of (get_or ss k blank))
equal_pages {rs = rs} {ss} p q =
    let same : length rs ≡ length ss = omega (arith, p.size, q.size) in
    (same, λ k h. sym (p.records k h) ∙ q.records k (omega arith))

-- ---- what is no part of a record is not looked at

of_cleared : (r : SmsStatusReport) → Typed r → (report_line (cleared r) ≡ report_line r) × (report_checks (cleared r) ≡ report_checks r)
unfolding report_line report_checks
of_cleared r (a, t, u, d) =
    let recipient = take_cleared 290 r.tp_recipient_address.address.length r.tp_recipient_address.address.octets a in
    let discharge = take_cleared 14 r.tp_discharge_time.length r.tp_discharge_time.octets u in
    (rw (recipient, discharge), rw (recipient, discharge))

-- equal records have the same line and the same checks
pub alike : (r q : SmsStatusReport) → Typed r → Typed q → cleared r ≡ cleared q → (report_line r ≡ report_line q) × (report_checks r ≡ report_checks q)
alike r q f g e =
    let (x, y) = of_cleared r f in
    let (v, w) = of_cleared q g in
    (sym x ∙ ap report_line e ∙ v, sym y ∙ ap report_checks e ∙ w)

-- the records of two shifts are equal, one by one
abbrev pub Alike : List SmsStatusReport → List SmsStatusReport → Type 0
Alike rs ss = (k : ℕ) → k < length rs → let r = get_or rs k blank in let q = get_or ss k blank in Typed r × Typed q × (cleared r ≡ cleared q)

all_alike : (rs ss : List SmsStatusReport) → length rs ≡ length ss → Alike rs ss → (map report_line rs ≡ map report_line ss) × (reports_checks rs ≡ reports_checks ss)
unfolding reports_checks
all_alike [] [] h same = (refl, refl)
all_alike [] (q ∷ ss) h same = absurd (omega arith)
all_alike (r ∷ rs) [] h same = absurd (omega arith)
all_alike (r ∷ rs) (q ∷ ss) h same =
    let (f, g, e) = same 0 (omega arith) in
    let (x, y) = alike r q f g e in
    let (v, w) = all_alike rs ss (omega arith) (λ k l. same (suc k) (omega arith)) in
    (rw (x, v), rw (y, w))

-- so the same is made of them
pub paged_alike : (rs ss : List SmsStatusReport) → length rs ≡ length ss → Alike rs ss → paging rs ≡ paging ss
unfolding paging shift_page
paged_alike rs ss h same =
    let (x, y) = all_alike rs ss h same in
    rw (x, y, h)
