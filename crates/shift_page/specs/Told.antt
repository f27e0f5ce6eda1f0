-- A page as its reader has it: line after line, and in a line column by column. The law `page_tells` says that what is written is so.
use Rattle.std.specs.Prelude.{ℕ, ◌+◌, ◌-◌, ◌*◌, ◌<◌, ◌≡◌, refl, Bool, true, not, ◌&&◌, List, [], ◌∷◌, eqb, length, get_or, take, drop, if◌then◌else◌}
use Prim.Native.Char.{code}
use Rattle.octets.specs.Each.{each}
use Rattle.octets.specs.Texts.{codes}
use Rattle.octets.specs.Held.{filled}
use Rattle.time.specs.Time.{hex_value}
use Rattle.address.specs.Address.{text_held}
use Rattle.status_report.specs.StatusReport.{blank}
use Rattle.status_report.specs.declared.SmsStatusReport.{SmsStatusReport}
use Rattle.shift_page.specs.ShiftPage.{heading}

-- ---- lines

-- line k, from 0 on: 38 characters
abbrev pub line_at : List ℕ → ℕ → List ℕ
line_at page k = take 38 (drop (39 * k) page)

-- the octet after it
abbrev pub end_at : List ℕ → ℕ → ℕ
end_at page k = get_or page (39 * k + 38) 0

-- no line feed
abbrev pub in_line : ℕ → Bool
in_line c = not (eqb c 0x0a)

-- ---- what a line tells

-- a text without the spaces at its end
unfoldable pub trimmed : List ℕ → List ℕ
trimmed [] = []
trimmed (c ∷ text) = if eqb (length (trimmed text)) 0 && eqb c (code " ") then [] else c ∷ trimmed text

-- recipient, status and discharge time
abbrev pub Told : Type 0
Told = List ℕ × ℕ × List ℕ

-- by the columns of a line
abbrev pub told_by : List ℕ → Told
told_by line = (trimmed (take 20 line), 16 * hex_value (get_or line 21 0) + hex_value (get_or line 22 0), take 14 (drop 24 line))

-- of a record: its recipient is told but for spaces at its end
abbrev pub told_of : SmsStatusReport → Told
told_of r = (trimmed (text_held r.tp_recipient_address), r.tp_status, filled r.tp_discharge_time)

-- the number that decimal digits are after n; spaces are passed over
unfoldable pub number_after : ℕ → List ℕ → ℕ
number_after n [] = n
number_after n (c ∷ cs) = number_after (if eqb c (code " ") then n else 10 * n + (c - code "0")) cs

-- the number in the last 17 columns of a line
abbrev pub total_in : List ℕ → ℕ
total_in line = number_after 0 (drop 21 line)

-- ---- a page of records

pub record Tells (page : List ℕ) (rs : List SmsStatusReport) : Type 0 where
  -- heading, record lines and total: each 38 characters, none a line feed, and a line feed
  pub size : length page ≡ 39 * (length rs + 2)
  pub lines : (k : ℕ) → k < length rs + 2 → (length (line_at page k) ≡ 38) × (each in_line (line_at page k) ≡ true) × (end_at page k ≡ 0x0a)
  pub first : line_at page 0 ≡ heading
  -- line k + 1 tells record k
  pub records : (k : ℕ) → k < length rs → told_by (line_at page (k + 1)) ≡ told_of (get_or rs k blank)
  -- the last line tells how many record lines are above it
  pub total : total_in (line_at page (length rs + 1)) ≡ length rs

known_told : (trimmed (codes " a b  ") ≡ codes " a b") × (trimmed (codes "  ") ≡ [])
    × (told_by (codes "12345                4F 240215123045fA") ≡ (codes "12345", 0x4f, codes "240215123045fA"))
    × (total_in (codes "TOTAL                               42") ≡ 42) × (total_in (codes "TOTAL                                0") ≡ 0)
unfolding codes trimmed hex_value number_after
known_told = (refl, refl, refl, refl, refl)
