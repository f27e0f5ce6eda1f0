-- The page is lines of 38 characters, so many octets long; and what is made of records, case by case.
-- Assumes nothing.
use Rattle.std.specs.Prelude.{Err}
use Prim.Native.Nat.{ℕ, zero, suc, ◌+◌, ◌-◌, ◌*◌, ◌/◌, ◌%◌, ◌≤◌, ◌<◌}
use Prim.Native.Char.{code}
use mathlib.Core.Path.{◌≡◌, refl, ◌∙◌}
use mathlib.Core.Bool.{Bool, true, false, ◌&&◌, false≢true}
use mathlib.Core.List.{List, [], ◌∷◌, ◌++◌, map}
use native.Mathlib.Omega.{arith}
use borrow.Author.Tests.{lt-ltb, le-ltb, ltb-true, ltb-false, eqb-true, ne_eqb, leb-true}
use lib.Dec.{eqb, ltb}
use lib.ListN.{length, replicate, length-append, length-map, get_or-eq_default}
use Rattle.octets.specs.Answers.{Said, fine}
use Rattle.octets.specs.Checks.{found}
use Rattle.octets.specs.Choice.{within}
use Rattle.octets.specs.Decimal.{significant, decimal_text}
use Rattle.octets.specs.Each.{each}
use Rattle.octets.specs.Lent.{refused, made, lend}
use Rattle.octets.specs.Texts.{codes}
use Rattle.octets.specs.declared.Refusal.{Refusal}
use Rattle.octets.specs.declared.Refusal.TheVariants.{TooManyRecords}
use Rattle.octets.proofs.Checks.{both_hold, all_passed, one_against}
use Rattle.octets.proofs.Choice.{and_true}
use Rattle.octets.proofs.Laws.{lent_refused}
use Rattle.octets.proofs.Table.{below}
use Rattle.time.specs.Time.{hex_digit, in_hex, is_hex}
use Rattle.status_report.specs.declared.SmsStatusReport.{SmsStatusReport}
use Rattle.shift_page.specs.ShiftPage.{left, right, fields, heading, report_line, total_line, ended, shift_page, report_checks, reports_checks, paging}
use Rattle.shift_page.specs.Told.{in_line, number_after, total_in}
use Rattle.shift_page.proofs.Lines.{length_fields, ended_append}
use Rattle.shift_page.proofs.Checks.{recipient_of, discharge_of, fine_told}

-- ---- lines: 38 characters, none a line feed

pub record Line (text : List ℕ) : Type 0 where
  pub size : length text ≡ 38
  pub one : each in_line text ≡ true

pub data Lines : List (List ℕ) → Type 0 where
  no_more : Lines []
  one_more : {line : List ℕ} {lines : List (List ℕ)} → Line line → Lines lines → Lines (line ∷ lines)

pub lines_size : (ls : List (List ℕ)) → Lines ls → length (ended ls) ≡ 39 * length ls
unfolding ended
lines_size [] no_more = refl
lines_size (l ∷ ls) (one_more one more) = length-append l (0x0a ∷ ended ls) ∙ omega (arith, one.size, lines_size ls more)

-- a test of each character, of texts that are joined and of spaces, and by a test that says more
each_joined : (xs ys : List ℕ) → each in_line xs ≡ true → each in_line ys ≡ true → each in_line (xs ++ ys) ≡ true
unfolding each
each_joined [] ys p q = q
each_joined (x ∷ xs) ys p q = let (t, r) = and_true (in_line x) (each in_line xs) p in rw t (each_joined xs ys r q)

spaces_in_line : (n : ℕ) → each in_line (replicate n (code " ")) ≡ true
unfolding each
spaces_in_line zero = refl
spaces_in_line (suc n) = spaces_in_line n

each_by : (test : ℕ → Bool) → test 0x0a ≡ false → (xs : List ℕ) → each test xs ≡ true → each in_line xs ≡ true
unfolding each
each_by test fails [] p = refl
each_by test fails (x ∷ xs) p =
    let (t, r) = and_true (test x) (each test xs) p in
    rw (ne_eqb x 0x0a (λ e. false≢true (rw (← fails, ← e) t))) (each_by test fails xs r)

in_left : (n : ℕ) (text : List ℕ) → each in_line text ≡ true → each in_line (left n text) ≡ true
unfolding left
in_left n text p = each_joined text (replicate (n - length text) (code " ")) p (spaces_in_line (n - length text))

in_space : (text : List ℕ) → each in_line text ≡ true → each in_line (code " " ∷ text) ≡ true
unfolding each
in_space text p = p

fields_line : (r s d : List ℕ) → length r ≤ 20 → length s ≤ 2 → length d ≤ 14 → each in_line r ≡ true → each in_line s ≡ true → each in_line d ≡ true → Line (fields r s d)
unfolding fields
fields_line r s d lr ls ld ir is id = record {
  size = length_fields r s d lr ls ld;
  one = each_joined (left 20 r) _ (in_left 20 r ir) (in_space _ (each_joined (left 2 s) _ (in_left 2 s is) (in_space _ (in_left 14 d id))));
}

-- ---- those of a page

heading_line : Line heading
unfolding heading codes each
heading_line = fields_line (codes "RECIPIENT") (codes "ST") (codes "DISCHARGE") (leb-true 9 20 refl) (leb-true 2 2 refl) (leb-true 9 14 refl) refl refl refl

pub heading_size : length (ended (heading ∷ [])) ≡ 39
heading_size = lines_size (heading ∷ []) (one_more heading_line no_more)

hex_in_line : (v : ℕ) → in_line (hex_digit v) ≡ true
unfolding hex_digit codes
hex_in_line v = by (ltb v 16) refl
  where
    by : (b : Bool) → ltb v 16 ≡ b → in_line (hex_digit v) ≡ true
    by true e = below (λ v. in_line (hex_digit v)) 16 refl v (ltb-true v 16 e)
    by false e = rw (get_or-eq_default (codes "0123456789ABCDEF") 0 {n = v} (ltb-false v 16 e))

pub report_line_lem : (r : SmsStatusReport) → found (report_checks r) ≡ fine → Line (report_line r)
unfolding report_line each is_hex
report_line_lem r e =
    let p = fine_told r e in
    fields_line (recipient_of r) (in_hex r.tp_status) (discharge_of r) p.short (leb-true 2 2 refl) (omega (arith, p.long))
    (each_by (within 0x20 0x7e) refl (recipient_of r) p.shown) (rw (hex_in_line (r.tp_status / 16), hex_in_line (r.tp_status % 16))) (each_by is_hex refl (discharge_of r) p.digits)

-- of the last line three things are found by computing, number after number
total_tests : ℕ → Bool
total_tests n = eqb (length (total_line n)) 38 && (each in_line (total_line n) && eqb (total_in (total_line n)) n)

pub total_line_lem : (n : ℕ) → n ≤ 99 → Line (total_line n) × (total_in (total_line n) ≡ n)
unfolding total_tests total_line left right codes decimal_text significant each number_after
total_line_lem n h =
    let (a, more) = and_true (eqb (length (total_line n)) 38) (each in_line (total_line n) && eqb (total_in (total_line n)) n) (below total_tests 100 refl n (omega arith)) in
    let (b, c) = and_true (each in_line (total_line n)) (eqb (total_in (total_line n)) n) more in
    (record { size = eqb-true (length (total_line n)) 38 a; one = b }, eqb-true (total_in (total_line n)) n c)

report_lines : (rs : List SmsStatusReport) → found (reports_checks rs) ≡ fine → Lines (map report_line rs)
unfolding reports_checks
report_lines [] e = no_more
report_lines (r ∷ rs) e = let (f, g) = both_hold (report_checks r) (reports_checks rs) e in one_more (report_line_lem r f) (report_lines rs g)

lines_append : (ls ms : List (List ℕ)) → Lines ls → Lines ms → Lines (ls ++ ms)
lines_append [] ms no_more qs = qs
lines_append (l ∷ ls) ms (one_more p ps) qs = one_more p (lines_append ls ms ps qs)

module _ (rs : List SmsStatusReport) (e : found (reports_checks rs) ≡ fine) where
  pub reports_size : length (ended (map report_line rs)) ≡ 39 * length rs
  reports_size = lines_size (map report_line rs) (report_lines rs e) ∙ rw length-map

  module _ (h : length rs ≤ 99) where
    pub page_lines : Lines (heading ∷ (map report_line rs ++ (total_line (length rs) ∷ [])))
    page_lines = one_more heading_line (lines_append (map report_line rs) (total_line (length rs) ∷ []) (report_lines rs e) (one_more (total_line_lem (length rs) h).0 no_more))

    pub page_size : length (shift_page rs) ≡ 39 * (length rs + 2)
    unfolding shift_page
    page_size = lines_size (heading ∷ (map report_line rs ++ (total_line (length rs) ∷ []))) page_lines ∙ simp (length-append, length-map) (omega arith)

-- the lines one after the other, as they are written
pub page_is : (rs : List SmsStatusReport) → shift_page rs ≡ ended (heading ∷ []) ++ (ended (map report_line rs) ++ ended (total_line (length rs) ∷ []))
unfolding shift_page
page_is rs = ended_append (heading ∷ []) (map report_line rs ++ (total_line (length rs) ∷ [])) ∙ rw (ended_append (map report_line rs) (total_line (length rs) ∷ []))

-- ---- what is made

module _ (rs : List SmsStatusReport) where
  pub too_many : 99 < length rs → paging rs ≡ refused TooManyRecords
  unfolding paging
  too_many h = rw (lt-ltb 99 (length rs) h)

  -- and the lent buffer stays
  pub many_refused : (out : List ℕ) → 99 < length rs → ◌≡◌ {A = Said ℕ × List ℕ} (Err TooManyRecords, out) (lend (paging rs) out)
  many_refused out h = lent_refused out TooManyRecords (too_many h)

  module _ (h : length rs ≤ 99) where
    pub one_refuses : {why : Refusal} → found (reports_checks rs) ≡ Err why → paging rs ≡ refused why
    unfolding paging
    one_refuses e = rw (le-ltb 99 (length rs) h) (one_against (shift_page rs) (reports_checks rs) e)

    pub page_made : found (reports_checks rs) ≡ fine → paging rs ≡ made (shift_page rs) (length (shift_page rs))
    unfolding paging
    page_made e = rw (le-ltb 99 (length rs) h) (all_passed (shift_page rs) (reports_checks rs) e)
