-- Relay addresses that were read and written: which are equal, what writing answers to one that was read, and what was written is read back.
-- Assumes nothing.
use Rattle.std.specs.Prelude.{Option, Some, None, Ok, Err}
use Prim.Native.Nat.{ℕ, zero, suc, ◌+◌, ◌*◌, ◌<◌, ◌≤◌}
use mathlib.Core.Path.{◌≡◌, refl, sym, ap, ◌∙◌}
use mathlib.Core.Bool.{true, ◌&&◌}
use mathlib.Core.List.{List, [], ◌∷◌, ◌++◌, map, append-nil}
use mathlib.Core.Logic.{◌↔◌, ⊎_elim, inl, inr}
use native.Mathlib.Omega.{arith}
use borrow.Author.Tests.{le-leb, leb-true}
use lib.Dec.{leb}
use lib.ListN.{length, get_or, take, drop, length-append, length-take}
use lib.Seq.{take_at, length-take-le}
use Rattle.std.proofs.lemmas.Bool.{cases_Bool}
use Rattle.std.proofs.lemmas.Option.{none-some, same_Some}
use Rattle.octets.specs.Checks.{◌unless◌}
use Rattle.octets.specs.Each.{Octets, each}
use Rattle.octets.specs.Held.{holding}
use Rattle.octets.specs.Lent.{Making, refused, made, lend}
use Rattle.octets.specs.declared.Refusal.TheVariants.{LengthTooLarge, OctetsEnd}
use Rattle.octets.proofs.Checks.{never, all_passed, one_against, made_told, made_counts, holds, no_checks}
use Rattle.octets.proofs.Choice.{chosen}
use Rattle.octets.proofs.Each.{octets_take, octets_drop}
use Rattle.octets.proofs.Places.{given}
use Rattle.octets.proofs.Holding.{filled_holding, holding_cleared, held_back}
use Rattle.octets.proofs.Laws.{take_cleared, lent_refused, lent_done, sets_start}
use Rattle.address.specs.Address.{digit_character, type_of_number, plan_of}
use Rattle.address.specs.Writing.{digit_value, is_digit}
use Rattle.address.proofs.DigitCharacters.{digits_size}
use Rattle.address.proofs.DigitTexts.{values_back, values_digits, characters_back, without_pairs}
use Rattle.relay_address.specs.declared.RelayAddress.{RelayAddress}
use Rattle.relay_address.specs.declared.RelayAddressRead.{RelayAddressRead}
use Rattle.relay_address.specs.Relay.{relay_with, counted, digits_in, relay_of, read_as, relay_read, value_of, relay_octets, relay_checks, digits_held, octets_of, relay_making, cleared_relay, Typed}
use Rattle.relay_address.specs.Claims.{Agree, Long, Rewritten}
use Rattle.relay_address.proofs.Reading.{read_ends, read_whole, digits_small, digits_few}
use Rattle.relay_address.proofs.Writing.{Writable, passed, octets_size, alphanumeric, many_digits, few_digits, makes_none, makes_checked}

-- ---- what was read

-- an answer that is no refusal: all octets are there that the length octet counts, and the address is theirs
pub record Whole (s : List ℕ) (a : Option RelayAddress) (n : ℕ) : Type 0 where
  pub there : 1 + get_or s 0 0 ≤ length s
  pub is : a ≡ relay_of (counted s)
  pub size : n ≡ 1 + get_or s 0 0

module _ (s : List ℕ) {a : Option RelayAddress} {n : ℕ} (e : relay_read s ≡ read_as a n) where
  was_read : Whole s a n
  unfolding relay_read
  was_read =
      elim (chosen (leb (1 + get_or s 0 0) (length s)) e) [
        | inl w ↦
            let is = given (sym w.1) in
            record { there = leb-true _ _ w.0; is = ap (λ (r : RelayAddressRead). r.address) is; size = ap (λ (r : RelayAddressRead). r.octets_read) is }
        | inr w ↦ absurd (never (sym w.1))
      ]

  -- no more octets are read than there are
  pub octets_within : n ≤ length s
  octets_within = omega (arith, was_read.there, was_read.size)

  -- a proper beginning is refused with 2
  pub beginning : (k : ℕ) → k < n → relay_read (take k s) ≡ Err OctetsEnd
  beginning k h = read_ends (take k s) (cut s k (omega (arith, was_read.size)) was_read.there)
    where
      cut : (s : List ℕ) (k : ℕ) → k < 1 + get_or s 0 0 → 1 + get_or s 0 0 ≤ length s → length (take k s) < 1 + get_or (take k s) 0 0
      cut [] k h there = absurd (omega arith)
      cut (x ∷ s) zero h there = omega arith
      cut (x ∷ s) (suc k) h there = omega (arith, length-take k s)

-- ---- equal addresses

digits_back : (value : List ℕ) → Octets value → map digit_value (map digit_character (digits_in value)) ≡ digits_in value
digits_back value o = values_back (digits_in value) (digits_small value o)

same : (c d : List ℕ) → Octets c → Octets d → (relay_of c ≡ relay_of d) ↔ Agree c d
unfolding relay_of relay_with
same [] [] oc od = (λ e. tt, λ h. refl)
same [] (p ∷ w) oc od = (λ e. absurd (none-some _ e), λ h. absurd h)
same (o ∷ v) [] oc od = (λ e. absurd (none-some _ (sym e)), λ h. absurd h)
same (o ∷ v) (p ∷ w) oc od = (
  λ e.
      let is = same_Some _ _ e in
      let text : map digit_character (digits_in v) ≡ map digit_character (digits_in w) = sym (filled_holding 508 (map digit_character (digits_in v))) ∙ ap digits_held is ∙ filled_holding 508 (map digit_character (digits_in w)) in (
        ap (λ (a : RelayAddress). a.ton) is,
        ap (λ (a : RelayAddress). a.npi) is,
        sym (digits_back v (λ i. oc (suc i))) ∙ ap (map digit_value) text ∙ digits_back w (λ i. od (suc i)),
      ),
  λ h. rw (h.0, h.1, h.2),
)

counted_octets : (s : List ℕ) → Octets s → Octets (counted s)
counted_octets s o = octets_take (get_or s 0 0) (drop 1 s) (octets_drop 1 s o)

-- two addresses that were read are equal exactly when both are absent, or type, plan and digits without F agree (what was read is cleared: `read_cleared`)
pub read_equal : (s t : List ℕ) → Octets s → Octets t → {a b : Option RelayAddress} {m n : ℕ} → relay_read s ≡ read_as a m → relay_read t ≡ read_as b n → (a ≡ b) ↔ Agree (counted s) (counted t)
read_equal s t o p e f = rw ((was_read s e).is, (was_read t f).is) (same (counted s) (counted t) (counted_octets s o) (counted_octets t p))

-- ---- an address that was read

-- the octets of an address are read as it is, whatever follows
pub octets_read_lem : (ton npi : ℕ) (text rest : List ℕ) → ton ≤ 7 → npi ≤ 15 → each is_digit text ≡ true
    → relay_read (relay_octets ton npi text ++ rest) ≡ read_as (Some (relay_with ton npi text)) (length (relay_octets ton npi text))
unfolding relay_octets relay_of
octets_read_lem ton npi text rest t p d =
    let kind = 128 + ton * 16 + npi in
    let value = value_of text in
    let whole = read_whole ((1 + length value) ∷ kind ∷ value ++ rest) (omega (arith, length-append value rest)) in
    let cut : take (1 + length value) (kind ∷ value ++ rest) ≡ kind ∷ value = take_at (kind ∷ value) rest (1 + length value) (omega arith) in
    let a : type_of_number kind ≡ ton = omega arith in
    let b : plan_of kind ≡ npi = omega arith in
    let size : 1 + (1 + length value) ≡ length ((1 + length value) ∷ kind ∷ value) = omega arith in
    let (characters, small) = characters_back text d in
    whole ∙ rw (cut, a, b, without_pairs (map digit_value text) small, characters, size)

-- an address in its record, as a reader leaves it
pub record Kept (a : RelayAddress) : Type 0 where
  pub type : a.ton ≤ 7
  pub plan : a.npi ≤ 15
  pub digits : each is_digit (digits_held a) ≡ true
  pub few : a.address.length ≤ 508
  pub is : a ≡ relay_with a.ton a.npi (digits_held a)

of_octets : (c : List ℕ) → Octets c → length c ≤ 255 → {a : RelayAddress} → relay_of c ≡ Some a → Kept a
unfolding relay_of relay_with holding
of_octets [] o h e = absurd (none-some _ e)
of_octets (x ∷ v) o h e =
    let text = map digit_character (digits_in v) in
    let held = filled_holding 508 text in
    rw (← same_Some _ _ e) (record { type = omega arith; plan = omega arith; digits = rw held (values_digits (digits_in v) (digits_small v (λ i. o (suc i)))); few = omega (arith, digits_few v (λ i. o (suc i))); is = rw held })

module _ (s : List ℕ) (o : Octets s) {a : RelayAddress} {n : ℕ} (e : relay_read s ≡ read_as (Some a) n) where
  -- an address that was read holds at most 508 digits
  pub read_held : Kept a
  read_held = of_octets (counted s) (counted_octets s o) (omega (arith, length-take (get_or s 0 0) (drop 1 s), o 0)) (sym (was_read s e).is)

  -- given a buffer long enough, it is refused in writing exactly when its type is 5 (32) or its value passes 10 octets (11), and else reads back as the same address
  pub read_written : (buffer : List ℕ) → length (octets_of a) ≤ length buffer → Rewritten a buffer
  read_written buffer room =
      let h = read_held in
      let checks = relay_checks a.ton a.npi (digits_held a) in
      let made_by = makes_checked a h.few in
      let small : (leb a.ton 7 && leb a.npi 15) ≡ true = rw (le-leb a.ton 7 h.type, le-leb a.npi 15 h.plan) in
      let size = digits_size (digits_held a) in
      record {
        alphanumeric = λ five. sym (lent_refused buffer _ (made_by ∙ one_against (octets_of a) checks (alphanumeric _ _ _ small five)));
        long = λ other l. sym (lent_refused buffer _ (made_by ∙ one_against (octets_of a) checks (many_digits _ _ _ small other h.digits (omega arith))));
        written = λ other l. sym (lent_done buffer (made_by ∙ all_passed (octets_of a) checks (few_digits _ _ _ small other h.digits (omega (arith, l)))) room (sym (sets_start (octets_of a) buffer room)));
        back = λ rest. octets_read_lem a.ton a.npi (digits_held a) rest h.type h.plan h.digits ∙ rw (← h.is);
      }

-- more than 20 digits are a value of more than 10 octets
pub long_means : (a : RelayAddress) → Long a ↔ (20 < length (digits_held a))
long_means a = let size = digits_size (digits_held a) in (λ h. omega arith, λ h. omega arith)

-- ---- an address that was written, or none

-- the octets that a writer stored at the start of a lent buffer
lent_octets : (m : Making ℕ) (buffer : List ℕ) (n : ℕ) → (lend m buffer).0 ≡ Ok n → (octets : List ℕ) × (m ≡ made octets n) × ((lend m buffer).1 ≡ octets ++ drop (length octets) buffer)
unfolding lend
lent_octets (refused why) buffer n e = absurd (never (sym e))
lent_octets (made octets w) buffer n e = ⊎_elim (λ t. (octets, ap (made octets) (given (rw t at e)), rw t)) (λ t. absurd (never (sym (rw t at e)))) (cases_Bool (leb (length octets) (length buffer)))

-- 00 is read as no address, whatever follows
pub none_read : (rest : List ℕ) → relay_read (0x00 ∷ rest) ≡ read_as None 1
unfolding relay_of
none_read rest = read_whole (0x00 ∷ rest) (omega arith)

-- what is known of an address that was written
pub record Made (a : RelayAddress) (octets : List ℕ) : Type 0 where
  pub writable : Writable a.ton a.npi (digits_held a)
  pub few : a.address.length ≤ 508
  pub is : octets_of a ≡ octets

was_made : (a : RelayAddress) {octets : List ℕ} {w : ℕ} → relay_making (Some a) ≡ made octets w → Made a octets
unfolding relay_making
was_made a e =
    let checks = relay_checks a.ton a.npi (digits_held a) in
    let (none, is) = made_told ((LengthTooLarge unless leb a.address.length 508) ∷ checks) (octets_of a) e in
    let (few, rest) = holds LengthTooLarge (leb a.address.length 508) checks none in
    record { writable = passed a.ton a.npi (digits_held a) rest; few = leb-true _ _ few; is = is }

none_made : {octets : List ℕ} {w : ℕ} → relay_making None ≡ made octets w → 0x00 ∷ [] ≡ octets
none_made e = let is = sym makes_none ∙ e in cc

-- what was written reads back as the same address, or none, whatever follows
pub read_back : (a : Option RelayAddress) → Typed a → {octets : List ℕ} {w : ℕ} → relay_making a ≡ made octets w → (rest : List ℕ) → relay_read (octets ++ rest) ≡ read_as (cleared_relay a) (length octets)
unfolding relay_with
read_back None typed e rest = rw (← none_made e) (none_read rest)
read_back (Some a) typed e rest =
    let m = was_made a e in
    let held = length-take-le a.address.length a.address.octets (omega (arith, typed, m.few)) in
    rw (← m.is) (octets_read_lem a.ton a.npi (digits_held a) rest m.writable.type m.writable.plan m.writable.digits ∙ rw (held_back a.address held))

-- what is answered counts it
counts : (a : Option RelayAddress) {octets : List ℕ} {w : ℕ} → relay_making a ≡ made octets w → w ≡ length octets
unfolding relay_making
counts None e = made_counts [] (0x00 ∷ []) (no_checks (0x00 ∷ []) ∙ e)
counts (Some a) e = made_counts ((LengthTooLarge unless leb a.address.length 508) ∷ relay_checks a.ton a.npi (digits_held a)) (octets_of a) e

-- at most 12 octets are written
pub at_most : (a : Option RelayAddress) {octets : List ℕ} {w : ℕ} → relay_making a ≡ made octets w → length octets ≤ 12
at_most None e = rw (← none_made e) (omega arith)
at_most (Some a) e = let m = was_made a e in rw (← m.is) (omega (arith, octets_size a.ton a.npi (digits_held a), m.writable.short))

-- one that is cleared is written as it was
of_cleared : (a : Option RelayAddress) → Typed a → relay_making (cleared_relay a) ≡ relay_making a
unfolding relay_making
of_cleared None typed = refl
of_cleared (Some a) typed = rw (take_cleared 508 a.address.length a.address.octets typed)

-- and stays so
pub cleared_once : (a : Option RelayAddress) → Typed a → cleared_relay (cleared_relay a) ≡ cleared_relay a
cleared_once None typed = refl
cleared_once (Some a) typed = rw (take_cleared 508 a.address.length a.address.octets typed)

module _ (a : Option RelayAddress) (typed : Typed a) where
  -- each proper beginning of what was written is refused with 2
  pub cut_off : {octets : List ℕ} {w : ℕ} → relay_making a ≡ made octets w → (k : ℕ) → k < length octets → relay_read (take k octets) ≡ Err OctetsEnd
  cut_off {octets} e k h = beginning octets (rw append-nil at (read_back a typed e [])) k h

  -- the same of what the public functions answer: n octets were written to a lent buffer, which is read from its start
  pub answers_back : (buffer : List ℕ) (n : ℕ) → (lend (relay_making a) buffer).0 ≡ Ok n → let after = (lend (relay_making a) buffer).1 in
      (relay_read after ≡ read_as (cleared_relay a) n) × ((k : ℕ) → k < n → relay_read (take k after) ≡ Err OctetsEnd)
  answers_back buffer n e =
      let (octets, m, after) = lent_octets (relay_making a) buffer n e in
      let count : n ≡ length octets = counts a m in
      let back = rw (← after, ← count) at (read_back a typed m (drop (length octets) buffer)) in
      (back, beginning (lend (relay_making a) buffer).1 back)

-- equal addresses are written alike
pub written_alike : (a b : Option RelayAddress) → Typed a → Typed b → cleared_relay a ≡ cleared_relay b → relay_making a ≡ relay_making b
written_alike a b f g e = sym (of_cleared a f) ∙ ap relay_making e ∙ of_cleared b g

-- what was read is cleared
pub read_cleared : (s : List ℕ) {a : Option RelayAddress} {n : ℕ} → relay_read s ≡ read_as a n → cleared_relay a ≡ a
unfolding relay_of relay_with
read_cleared s e = rw (was_read s e).is (by (counted s))
  where
    by : (c : List ℕ) → cleared_relay (relay_of c) ≡ relay_of c
    by [] = refl
    by (o ∷ v) = rw holding_cleared
