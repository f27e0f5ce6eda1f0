-- User data in readable form: the header and the text after it, and that there is room for them.
-- Assumes nothing.
use Prim.Native.Nat.{ℕ, ◌+◌, ◌-◌, ◌≤◌, ◌<◌}
use mathlib.Core.Path.{◌≡◌}
use mathlib.Core.Bool.{true}
use mathlib.Core.List.{List, ◌++◌}
use native.Mathlib.Nat.{le_refl, zero-add}
use native.Mathlib.Omega.{arith}
use borrow.Author.Tests.{leb-true}
use lib.ListN.{length, take, drop, replicate, length-drop, length-append}
use lib.Seq.{take_all, length-take-le}
use Rattle.octets.specs.Lent.{Wrote}
use Rattle.octets.specs.Held.{holding}
use Rattle.octets.proofs.Laws.{kept_by, wrote_then, sets_zeros}
use Rattle.coding.specs.Coding.{data_octets}
use Rattle.coding.specs.declared.UserDataCoding.{UserDataCoding}
use Rattle.coding.specs.declared.UserDataCoding.TheVariants.{Gsm7Bit, EightBit, Ucs2, Compressed}
use Rattle.septets.specs.Septets.{septets_in, header_septets, fill_bits}
use Rattle.septets.proofs.Inverse.{length_septets}
use Rattle.gsm7.specs.Reading.{text_of, replaced_in}
use Rattle.gsm7.proofs.DecodingLaws.{text_short, replaced_at_most}
use Rattle.user_data_header.specs.Header.{in_count}
use Rattle.submit.specs.Submit.{readable, data_septets, SubmitText}

-- a header of h octets, stored, and the text of the septets after it, as the code cuts them out
module _ (os : List ℕ) (h n : ℕ) (whole : h ≤ length os) (counted : header_septets h ≤ n) (few : n ≤ 255) {hs fill : ℕ} (hs-is : hs ≡ header_septets h) (fill-is : fill ≡ fill_bits h) {l l₁ : List ℕ} {at : ℕ} (w : Wrote 0 (take h os) l at l₁) where
  abbrev septets : List ℕ
  septets = septets_in (take (length os - h) (drop h os)) fill (n - hs)

  abbrev text : List ℕ
  text = text_of septets

  pub text_room : length l ≡ 510 → (fill < 8) × (n - hs ≤ 255) × (at + length text ≤ length l₁)
  text_room room =
      (omega arith, omega arith, omega (arith, w.place, kept_by w, length-take-le h os whole, text_short (take (length os - h) (drop h os)) fill (n - hs)))

  pub with_text : {next m : ℕ} {l₂ : List ℕ} → Wrote at text l₁ next l₂ × (m ≡ replaced_in septets)
      → (let ss = septets_in (drop h os) (fill_bits h) (n - header_septets h) in Wrote 0 (take h os ++ text_of ss) l next l₂ × (m ≡ replaced_in ss))
  with_text v =
      let all = take_all (length os - h) (drop h os) (rw length-drop (le_refl _)) in
      (rw (hs-is, fill-is, all) at (wrote_then w v.0), rw (hs-is, fill-is, all) at v.1)

-- the readable form fits its array
pub readable_short : (coding : UserDataCoding) (udl h : ℕ) (ud : List ℕ) → udl ≤ 255 → h ≤ length ud → in_count coding udl h ≡ true → length ud ≡ data_octets coding udl → length (readable coding udl h ud) ≤ 510
unfolding in_count readable data_octets
readable_short Gsm7Bit udl h ud few whole counted size =
    let n : header_septets h ≤ udl = leb-true _ _ counted in
    rw (length-append, length-take-le h ud whole) (omega (arith, text_short (drop h ud) (fill_bits h) (udl - header_septets h)))
readable_short EightBit udl h ud few whole counted size = omega arith
readable_short Ucs2 udl h ud few whole counted size = omega arith
readable_short Compressed udl h ud few whole counted size = omega arith

-- the readable form stored from the start of its array
pub text_stored : (coding : UserDataCoding) (udl h : ℕ) (ud : List ℕ) → udl ≤ 255 → h ≤ length ud → in_count coding udl h ≡ true → length ud ≡ data_octets coding udl
    → {n : ℕ} {array : List ℕ} → Wrote 0 (readable coding udl h ud) (replicate 510 0) n array → ◌≡◌ {A = SubmitText} (record { octets = array; length = n }) (holding 510 (readable coding udl h ud))
unfolding holding
text_stored coding udl h ud few whole counted size w = rw (w.list, w.place, zero-add, sets_zeros 510 (readable coding udl h ud) (readable_short coding udl h ud few whole counted size))

-- what is replaced in it is at most its count
pub data_replaced : (coding : UserDataCoding) (udl h : ℕ) (ud : List ℕ) → replaced_in (data_septets coding udl h ud) ≤ udl
unfolding data_septets replaced_in
data_replaced Gsm7Bit udl h ud = let ss = septets_in (drop h ud) (fill_bits h) (udl - header_septets h) in omega (arith, replaced_at_most ss, length_septets (drop h ud) (fill_bits h) (udl - header_septets h))
data_replaced EightBit udl h ud = omega arith
data_replaced Ucs2 udl h ud = omega arith
data_replaced Compressed udl h ud = omega arith
