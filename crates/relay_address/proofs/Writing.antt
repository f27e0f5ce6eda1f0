-- What the checks find, and what is made of an address, or of none.
-- Assumes nothing.
use Rattle.std.specs.Prelude.{Some, None, Err}
use Prim.Native.Nat.{ℕ, ◌+◌, ◌/◌, ◌<◌, ◌≤◌}
use mathlib.Core.Path.{◌≡◌, refl}
use mathlib.Core.Bool.{true, false, not, ◌&&◌}
use mathlib.Core.List.{List, [], ◌∷◌}
use native.Mathlib.Omega.{arith}
use borrow.Author.Tests.{lt-leb, le-leb, leb-true, eq-eqb, ne_eqb, eqb-false, not-true}
use lib.Dec.{eqb, leb}
use lib.ListN.{length}
use Rattle.octets.specs.Answers.{fine}
use Rattle.octets.specs.Checks.{◌unless◌, found, checked}
use Rattle.octets.specs.Each.{each}
use Rattle.octets.specs.Lent.{refused, made}
use Rattle.octets.specs.declared.Refusal.TheVariants.{LengthTooLarge, NumberTypeOrPlanTooLarge, NotInAlphabet, AddressTooLong, AlphanumericRelayAddress}
use Rattle.octets.proofs.Checks.{holds, check_holds, check_fails}
use Rattle.octets.proofs.Choice.{and_true}
use Rattle.address.specs.Writing.{is_digit}
use Rattle.address.proofs.DigitCharacters.{digits_size}
use Rattle.relay_address.specs.declared.RelayAddress.{RelayAddress}
use Rattle.relay_address.specs.Relay.{relay_octets, relay_checks, value_of, digits_held, octets_of, relay_making}

-- ---- the checks: 9, 32, 10, 11

module _ (ton npi : ℕ) (text : List ℕ) where
  pub octets_size : length (relay_octets ton npi text) ≡ 2 + (length text + 1) / 2
  unfolding relay_octets
  octets_size = omega (arith, digits_size text)

  pub wrong_type : (leb ton 7 && leb npi 15) ≡ false → found (relay_checks ton npi text) ≡ Err NumberTypeOrPlanTooLarge
  unfolding relay_checks
  wrong_type e = rw e

  module _ (t : (leb ton 7 && leb npi 15) ≡ true) where
    pub alphanumeric : ton ≡ 5 → found (relay_checks ton npi text) ≡ Err AlphanumericRelayAddress
    unfolding relay_checks
    alphanumeric e = rw (t, eq-eqb ton 5 e)

    module _ (number : ton ≡ 5 → ⊥) where
      pub no_digits : each is_digit text ≡ false → found (relay_checks ton npi text) ≡ Err NotInAlphabet
      unfolding relay_checks
      no_digits e = rw (t, ne_eqb ton 5 number, e)

      module _ (d : each is_digit text ≡ true) where
        pub many_digits : 20 < length text → found (relay_checks ton npi text) ≡ Err AddressTooLong
        unfolding relay_checks
        many_digits h = rw (t, ne_eqb ton 5 number, d, lt-leb (length (value_of text)) 10 (omega (arith, digits_size text)))

        pub few_digits : length text ≤ 20 → found (relay_checks ton npi text) ≡ fine
        unfolding relay_checks
        few_digits h = rw (t, ne_eqb ton 5 number, d, le-leb (length (value_of text)) 10 (omega (arith, digits_size text)))

  -- what is known where they pass
  pub record Writable : Type 0 where
    pub type : ton ≤ 7
    pub plan : npi ≤ 15
    pub number : ton ≡ 5 → ⊥
    pub digits : each is_digit text ≡ true
    pub short : length text ≤ 20

  pub passed : found (relay_checks ton npi text) ≡ fine → Writable
  unfolding relay_checks
  passed e =
      let long = (AddressTooLong unless leb (length (value_of text)) 10) ∷ [] in
      let alphabet = (NotInAlphabet unless each is_digit text) ∷ long in
      let (a, e1) = holds NumberTypeOrPlanTooLarge (leb ton 7 && leb npi 15) ((AlphanumericRelayAddress unless not (eqb ton 5)) ∷ alphabet) e in
      let (b, e2) = holds AlphanumericRelayAddress (not (eqb ton 5)) alphabet e1 in
      let (c, e3) = holds NotInAlphabet (each is_digit text) long e2 in
      let (d, e4) = holds AddressTooLong (leb (length (value_of text)) 10) [] e3 in
      let (t, p) = and_true (leb ton 7) (leb npi 15) a in
      record { type = leb-true ton 7 t; plan = leb-true npi 15 p; number = eqb-false ton 5 (not-true (eqb ton 5) b); digits = c; short = omega (arith, digits_size text, leb-true (length (value_of text)) 10 d) }

-- ---- what is made of an address, or of none

pub makes_none : relay_making None ≡ made (0x00 ∷ []) 1
unfolding relay_making
makes_none = refl

module _ (a : RelayAddress) where
  pub makes_long : 508 < a.address.length → relay_making (Some a) ≡ refused LengthTooLarge
  unfolding relay_making
  makes_long h = check_fails (lt-leb a.address.length 508 h) LengthTooLarge (relay_checks a.ton a.npi (digits_held a)) (octets_of a)

  pub makes_checked : a.address.length ≤ 508 → relay_making (Some a) ≡ checked (relay_checks a.ton a.npi (digits_held a)) (octets_of a)
  unfolding relay_making
  makes_checked h = check_holds (le-leb a.address.length 508 h) LengthTooLarge (relay_checks a.ton a.npi (digits_held a)) (octets_of a)
