-- Columns and lines: how long they are, and what the code writes of them.
-- Assumes nothing.
use Prim.Native.Nat.{ℕ, ◌+◌, ◌-◌, ◌/◌, ◌%◌, ◌≤◌, ◌<◌}
use Prim.Native.Char.{code}
use mathlib.Core.Path.{◌≡◌, refl, sym, ◌∙◌}
use mathlib.Core.Bool.{false}
use mathlib.Core.List.{List, [], ◌∷◌, ◌++◌, append_assoc, append-nil}
use native.Mathlib.Omega.{arith}
use borrow.Author.Tests.{ne_eqb}
use lib.Dec.{eqb}
use lib.ListN.{length, take, drop, replicate, length-append, length-replicate, replicate-append-replicate}
use lib.Seq.{drop_at, take_all}
use Rattle.octets.specs.Decimal.{significant, decimal_text}
use Rattle.octets.specs.Texts.{codes}
use Rattle.time.specs.Time.{hex_digit, in_hex}
use Rattle.shift_page.specs.ShiftPage.{left, right, fields, total_line, ended}

-- ---- so many columns

module _ (n : ℕ) (text : List ℕ) where
  pub length_left : length text ≤ n → length (left n text) ≡ n
  unfolding left
  length_left h = rw (length-append, length-replicate) (omega arith)

  -- with none unused
  pub left_full : length text ≡ n → left n text ≡ text
  unfolding left
  left_full e = let z : n - length text ≡ 0 = omega arith in rw z (append-nil text)

pub length_fields : (recipient status discharge : List ℕ) → length recipient ≤ 20 → length status ≤ 2 → length discharge ≤ 14 → length (fields recipient status discharge) ≡ 38
unfolding fields
length_fields recipient status discharge r s d =
    simp (length-append, length_left 20 recipient r, length_left 2 status s, length_left 14 discharge d)

-- a text, and the end of an array of spaces after it
pub left_spaces : (n : ℕ) (text : List ℕ) → length text ≤ n → text ++ take (n - length text) (drop (length text) (replicate n (code " "))) ≡ left n text
unfolding left
left_spaces n text h =
    let all : length text + (n - length text) ≡ n = omega arith in
    let split : replicate n (code " ") ≡ replicate (length text) (code " ") ++ replicate (n - length text) (code " ") = sym (replicate-append-replicate (length text) (n - length text) (code " ") ∙ rw all) in
    rw (split, drop_at (replicate (length text) (code " ")) (replicate (n - length text) (code " ")) (length text) (length-replicate (length text) (code " "))) (rw (take_all (n - length text) (replicate (n - length text) (code " ")) (rw length-replicate (omega arith))))

-- the line of a recipient, a status and a discharge time, as it is written
pub line_is : (recipient : List ℕ) (status : ℕ) (discharge : List ℕ) → length discharge ≡ 14
    → ended (fields recipient (in_hex status) discharge ∷ []) ≡ left 20 recipient ++ (((code " " ∷ hex_digit (status / 16) ∷ hex_digit (status % 16) ∷ code " " ∷ []) ++ discharge) ++ (0x0a ∷ []))
unfolding ended fields
line_is recipient status discharge e = rw (left_full 2 (in_hex status) refl, left_full 14 discharge e, append_assoc)

-- ---- the last line: the columns before its number, and those of the number

abbrev pub before_number : List ℕ
before_number = codes "TOTAL                               "

module _ (n : ℕ) where
  pub total_one : n < 10 → total_line n ≡ before_number ++ (code " " ∷ (code "0" + n % 10) ∷ [])
  unfolding total_line left right decimal_text significant codes
  total_one h = let q : n / 10 ≡ 0 = omega arith in rw q

  pub total_two : 10 ≤ n → n ≤ 99 → total_line n ≡ before_number ++ ((code "0" + n / 10) ∷ (code "0" + n % 10) ∷ [])
  unfolding total_line left right decimal_text significant codes
  total_two l h =
      let z : eqb (n / 10) 0 ≡ false = ne_eqb (n / 10) 0 (λ e. omega arith) in
      let q : n / 10 / 10 ≡ 0 = omega arith in
      let r : n / 10 % 10 ≡ n / 10 = omega arith in
      rw (z, q, r)

-- ---- lines after each other

pub ended_one : (line : List ℕ) → ended (line ∷ []) ≡ line ++ (0x0a ∷ [])
unfolding ended
ended_one line = refl

pub ended_append : (lines more : List (List ℕ)) → ended (lines ++ more) ≡ ended lines ++ ended more
unfolding ended
ended_append [] more = refl
ended_append (line ∷ lines) more = rw (ended_append lines more, append_assoc line (0x0a ∷ ended lines) (ended more))
