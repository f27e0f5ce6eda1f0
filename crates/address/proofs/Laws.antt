-- Addresses: a field that was read and its canonical octets are the same address, and what was written reads back.
-- Assumes nothing.
use Prim.Native.Nat.{ℕ, ◌+◌, ◌*◌, ◌/◌, ◌<◌, ◌≤◌}
use mathlib.Core.Path.{◌≡◌, refl, sym, ap, ◌∙◌}
use mathlib.Core.Bool.{Bool, true, false}
use mathlib.Core.List.{List, [], ◌++◌}
use mathlib.Core.Option.{some}
use mathlib.Core.Logic.{◌↔◌}
use native.Mathlib.Omega.{arith}
use borrow.Author.Tests.{le-ltb}
use lib.Dec.{eqb, ltb}
use lib.ListN.{length, get_or, take, drop}
use lib.Seq.{get_or-drop}
use Rattle.octets.specs.Answers.{fine}
use Rattle.octets.specs.Checks.{Check, found, checked}
use Rattle.std.specs.Prelude.{if◌then◌else◌}
use Rattle.octets.specs.Each.{Octets}
use Rattle.octets.specs.Lent.{refused, made}
use Rattle.octets.specs.declared.Refusal.TheVariants.{LengthTooLarge, AddressTooLong}
use Rattle.octets.proofs.Checks.{made_unless}
use Rattle.octets.specs.Held.{holding}
use Rattle.octets.proofs.Holding.{filled_holding, holding_cleared, held_back}
use Rattle.septets.specs.Septets.{septets_in}
use Rattle.septets.proofs.Inverse.{length_septets}
use Rattle.gsm7.specs.Reading.{text_of, replaced_in}
use Rattle.gsm7.proofs.DecodingLaws.{replaced_at_most}
use Rattle.address.specs.Writing.{address_octets, octets_or, address_making, address_checks}
use Rattle.address.specs.Internal.{check_of}
use Rattle.address.proofs.Checks.{after_check, address_checked, octets_made, checks_passed}
use Rattle.address.specs.declared.SMSAddress.{SMSAddress}
use Rattle.address.specs.Address.{type_of_number, plan_of, value_text, value_septets, address_with, text_in, septets_read, address_in, address_size, canonical_address, text_held, encoding, cleared_address}
use Rattle.address.proofs.Shapes.{octets_read_lem, octets_octets, read_fits}
use Rattle.address.proofs.RecordWritten.{encoding_parts}

-- a whole field: octets, as many as the first of them tells
pub record Field (f : List ℕ) : Type 0 where
  pub octets : Octets f
  pub whole : address_size f ≡ length f

-- ---- a field and its canonical octets

abbrev ton_in : List ℕ → ℕ
ton_in f = type_of_number (get_or f 1 0)

abbrev npi_in : List ℕ → ℕ
npi_in f = plan_of (get_or f 1 0)

module _ (f : List ℕ) (field : Field f) where
  value_octets_lem : Octets (drop 2 f)
  value_octets_lem i = rw get_or-drop (field.octets (2 + i))

  -- what was read can be written, and the canonical octets are what is written of it
  canonical_written : (address_octets (ton_in f) (npi_in f) (text_in f) ≡ some (canonical_address f)) × (get_or (canonical_address f) 0 0 ≤ get_or f 0 0) × (length (text_in f) ≤ 290)
  unfolding canonical_address text_in
  canonical_written = let (xs, e, n, s) = read_fits (ton_in f) (npi_in f) (get_or f 0 0) (drop 2 f) (field.octets 0) value_octets_lem in (rw e, rw e n, s)

  -- there always are canonical octets
  pub canonical_is_some : (xs : List ℕ) × (address_octets (type_of_number (get_or f 1 0)) (plan_of (get_or f 1 0)) (text_in f) ≡ some xs)
  canonical_is_some = (canonical_address f, canonical_written.0)

  -- the canonical length octet is no larger
  pub canonical_shorter : get_or (canonical_address f) 0 0 ≤ get_or f 0 0
  canonical_shorter = canonical_written.1

  canonical_read : (address_size (canonical_address f) ≡ length (canonical_address f)) × (address_in (canonical_address f) ≡ address_in f)
  unfolding address_in
  canonical_read = octets_read_lem (ton_in f) (npi_in f) (text_in f) (canonical_address f) (omega arith) (omega arith) canonical_written.0

  -- a field and its canonical octets are read as the same address
  pub canonical_reads : address_in (canonical_address f) ≡ address_in f
  canonical_reads = canonical_read.1

  -- canonical octets are octets and tell their own end
  pub canonical_field : Field (canonical_address f)
  canonical_field = record {
    octets = octets_octets (ton_in f) (npi_in f) (text_in f) (canonical_address f) (omega arith) (omega arith) canonical_written.0 (omega (arith, canonical_shorter, field.octets 0));
    whole = canonical_read.0;
  }

  -- the text that is read fits its array
  pub text_short : length (text_in f) ≤ 290
  text_short = canonical_written.2

  -- an address that was read is written as its canonical octets exactly when their value has at most 10 octets, else refused with 11
  pub read_written : encoding (address_in f)
      ≡ (if ltb 12 (length (canonical_address f)) then refused AddressTooLong else made (canonical_address f) (length (canonical_address f)))
  unfolding encoding address_in address_with address_making holding
  read_written = rw (le-ltb 290 (length (text_in f)) text_short, filled_holding 290 (text_in f), le-ltb 7 (ton_in f) (omega arith), le-ltb 15 (npi_in f) (omega arith), canonical_written.0)

  -- its octets, from the parts of the record
  pub octets_again : octets_or [] (address_octets (address_in f).ton (address_in f).npi (text_held (address_in f))) ≡ canonical_address f
  unfolding address_in address_with canonical_address
  octets_again = rw filled_holding

  pub length_short : (address_in f).address.length ≤ 290
  unfolding address_in address_with holding
  length_short = text_short

  -- the same among the checks of a writer of several fields
  pub read_checked : (checks : List Check) (xs : List ℕ) → checked (address_checks (address_in f).ton (address_in f).npi (text_held (address_in f)) ++ checks) xs
      ≡ (if ltb 12 (length (canonical_address f)) then refused AddressTooLong else checked checks xs)
  read_checked checks xs =
      address_checked _ _ _ checks xs ∙ ap (λ m. after_check (check_of m) (checked checks xs)) (sym (encoding_parts (address_in f) length_short) ∙ read_written) ∙ decided (ltb 12 (length (canonical_address f)))
    where
      decided : (b : Bool) → after_check (check_of (if b then refused AddressTooLong else made (canonical_address f) (length (canonical_address f)))) (checked checks xs) ≡ (if b then refused AddressTooLong else checked checks xs)
      decided true = refl
      decided false = refl

-- two fields are read as the same address exactly when their canonical octets are the same
pub address_equal : (f g : List ℕ) → Field f → Field g → (address_in f ≡ address_in g) ↔ (canonical_address f ≡ canonical_address g)
unfolding address_in address_with canonical_address
address_equal f g p q = (
  λ e. let t = ap (λ (a : SMSAddress). a.ton) e in
      let n = ap (λ (a : SMSAddress). a.npi) e in
      let x : text_in f ≡ text_in g = sym (filled_holding 290 (text_in f)) ∙ ap text_held e ∙ filled_holding 290 (text_in g) in
      rw (t, n, x),
  λ e. sym (canonical_reads f p) ∙ ap address_in e ∙ canonical_reads g q,
)

-- an address that was read is cleared
pub address_cleared : (f : List ℕ) → cleared_address (address_in f) ≡ address_in f
unfolding address_in address_with
address_cleared f = rw (holding_cleared 290 (text_in f))

-- a cleared address, in its record
pub address_held : (a : SMSAddress) → length (text_held a) ≡ a.address.length → address_with a.ton a.npi (text_held a) ≡ cleared_address a
unfolding address_with
address_held a n = rw (held_back a.address n)

-- ---- what is read as text

-- an address of type 5 shows the text of the septets that are read as text, one of another type has none
module _ (f : List ℕ) where
  abbrev Shown : Bool → List ℕ → List ℕ → Type 0
  Shown true text ss = text ≡ text_of ss
  Shown false text ss = ss ≡ []

  pub text_shown : Shown (eqb (ton_in f) 5) (text_held (address_in f)) (septets_read f)
  unfolding address_in address_with text_in value_text septets_read value_septets
  text_shown = by_type (eqb (ton_in f) 5) refl
    where
      by_type : (t : Bool) → eqb (ton_in f) 5 ≡ t → Shown t (text_held (address_in f)) (septets_read f)
      by_type true e = filled_holding 290 (text_in f) ∙ rw e
      by_type false e = rw e

  -- at most 145 septets, so no more are replaced
  pub few_replaced : get_or f 0 0 < 256 → replaced_in (septets_read f) ≤ 145
  unfolding septets_read value_septets replaced_in
  few_replaced small = by_type (eqb (ton_in f) 5) refl
    where
      by_type : (t : Bool) → eqb (ton_in f) 5 ≡ t → replaced_in (if t then septets_in (drop 2 f) 0 (get_or f 0 0 * 4 / 7) else []) ≤ 145
      by_type true e = omega (arith, replaced_at_most (septets_in (drop 2 f) 0 (get_or f 0 0 * 4 / 7)), length_septets (drop 2 f) 0 (get_or f 0 0 * 4 / 7))
      by_type false e = omega arith

-- ---- what was written

-- what was written is a whole field, and reads back as the same record
pub written_reads : (a : SMSAddress) (xs : List ℕ) (w : ℕ) → encoding a ≡ made xs w
    → (address_size xs ≡ length xs) × (address_in xs ≡ address_with a.ton a.npi (take a.address.length a.address.octets))
unfolding encoding
written_reads a xs w e =
    let (short, m) = made_unless LengthTooLarge (ltb 290 a.address.length) e in
    let (t, p, o) = octets_made a.ton a.npi (text_held a) xs w m in
    octets_read_lem a.ton a.npi (text_held a) xs (omega arith) (omega arith) o

-- an address that passed the checks of a writer of several fields: its octets are few, tell their own end, are canonical, and read as what was written
pub record Spelled (ton npi : ℕ) (text f : List ℕ) : Type 0 where
  pub short : length f ≤ 12
  pub whole : address_size f ≡ length f
  pub again : canonical_address f ≡ f
  pub back : address_in f ≡ address_with ton npi text

pub address_passed : (ton npi : ℕ) (text : List ℕ) → found (address_checks ton npi text) ≡ fine → Spelled ton npi text (octets_or [] (address_octets ton npi text))
unfolding address_in address_with canonical_address
address_passed ton npi text e =
    let f = octets_or [] (address_octets ton npi text) in
    let (t, p, is, short) = checks_passed ton npi text e in
    let (whole, back) = octets_read_lem ton npi text f (omega arith) (omega arith) is in
    let n = ap (λ (a : SMSAddress). a.ton) back in
    let m = ap (λ (a : SMSAddress). a.npi) back in
    let x : text_in f ≡ text = sym (filled_holding 290 (text_in f)) ∙ ap text_held back ∙ filled_holding 290 text in
    record { short = short; whole = whole; again = rw (n, m, x); back = back }
