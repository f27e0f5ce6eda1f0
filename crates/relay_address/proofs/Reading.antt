-- What the reader answers, field by field.
-- Assumes nothing.
use Rattle.std.specs.Prelude.{Some, None, Ok, Err}
use Prim.Native.Nat.{ℕ, zero, suc, ◌+◌, ◌*◌, ◌-◌, ◌<◌, ◌≤◌}
use mathlib.Core.Path.{◌≡◌, sym, ap, ◌∙◌}
use mathlib.Core.List.{List, [], ◌∷◌, map}
use native.Mathlib.Omega.{arith}
use borrow.Author.Tests.{le-leb, lt-leb}
use lib.ListN.{length, get_or, take, drop, replicate, length-drop, length-map}
use lib.Seq.{take_all, length-take-le}
use Rattle.octets.specs.Each.{Octets}
use Rattle.octets.specs.Lent.{Wrote}
use Rattle.octets.specs.Places.{octet_at, span_at}
use Rattle.octets.specs.SemiOctets.{semi_octets}
use Rattle.octets.specs.declared.Place.{Place}
use Rattle.octets.specs.declared.Refusal.TheVariants.{OctetsEnd}
use Rattle.octets.proofs.Each.{Below, octets_take, octets_drop}
use Rattle.octets.proofs.Holding.{stored}
use Rattle.octets.proofs.Places.{start, octet_read, octet_ended, span_there, span_ended, span_inside, span_part}
use Rattle.octets.proofs.SemiOctets.{length_semi, semi_small}
use Rattle.address.specs.Address.{digit_character, without_f, type_of_number, plan_of}
use Rattle.address.proofs.DigitTexts.{without_digits}
use Rattle.relay_address.specs.Relay.{relay_with, counted, digits_in, relay_of, read_as, relay_read}

-- ---- the two cases of an answer

module _ (s : List ℕ) where
  pub read_ends : length s < 1 + get_or s 0 0 → relay_read s ≡ Err OctetsEnd
  unfolding relay_read
  read_ends h = rw (lt-leb (1 + get_or s 0 0) (length s) h)

  pub read_whole : 1 + get_or s 0 0 ≤ length s → relay_read s ≡ read_as (relay_of (counted s)) (1 + get_or s 0 0)
  unfolding relay_read
  read_whole h = rw (le-leb (1 + get_or s 0 0) (length s) h)

-- ---- digits of a value

module _ (value : List ℕ) (o : Octets value) where
  pub digits_small : Below 15 (digits_in value)
  digits_small = (without_digits (semi_octets value) (semi_small value o)).0

  -- at most two to an octet
  pub digits_few : length (map digit_character (digits_in value)) ≤ 2 * length value
  digits_few = omega (arith, length-map (digits_in value) digit_character, (without_digits (semi_octets value) (semi_small value o)).1, length_semi value)

-- ---- field by field

counted_is : (s : List ℕ) (l : ℕ) → 0 < l → 1 < length s → take l (drop 1 s) ≡ get_or s 1 0 ∷ take (l - 1) (drop 2 s)
counted_is [] l some long = absurd (omega arith)
counted_is (x ∷ []) l some long = absurd (omega arith)
counted_is (x ∷ y ∷ s) zero some long = absurd (omega arith)
counted_is (x ∷ y ∷ s) (suc k) some long = let e : suc k - 1 ≡ k = omega arith in rw e

module _ (s : List ℕ) where
  -- the length octet is missing
  pub none_there : octet_at s start ≡ Err OctetsEnd → Err OctetsEnd ≡ relay_read s
  none_there e = sym (read_ends s (omega (arith, octet_ended s start e)))

  module _ {l : ℕ} {p : Place} (first : octet_at s start ≡ Ok (l, p)) where
    -- it counts none
    pub absent : l ≡ 0 → read_as None 1 ≡ relay_read s
    unfolding relay_of
    absent e =
        let (there, is, next) = octet_read s start first in
        let none : get_or s 0 0 ≡ 0 = sym is ∙ e in
        rw none at (sym (read_whole s (omega arith)))

    module _ (some : l ≡ 0 → ⊥) where
      -- the type octet is missing
      pub type_missing : octet_at s p ≡ Err OctetsEnd → Err OctetsEnd ≡ relay_read s
      type_missing e = let (there, is, next) = octet_read s start first in sym (read_ends s (omega (arith, octet_ended s p e)))

      module _ {t : ℕ} {q : Place} (second : octet_at s p ≡ Ok (t, q)) where
        -- the value is not whole
        pub value_missing : span_at s q (l - 1) ≡ Err OctetsEnd → Err OctetsEnd ≡ relay_read s
        value_missing e =
            let (there, is, next) = octet_read s start first in
            let (there2, is2, next2) = octet_read s p second in
            sym (read_ends s (omega (arith, span_ended s q (l - 1) e, length-drop q.at s)))

        -- all is there
        module _ {a : ℕ} {r : Place} (third : span_at s q (l - 1) ≡ Ok (a, r)) where
          pub value_there : (a ≤ r.at) × (r.at ≤ length s)
          value_there =
              let (fits, from, to) = span_there s q (l - 1) third in
              let (there2, is2, next2) = octet_read s p second in
              (omega arith, (span_inside s q (l - 1) third (omega arith)).1)

          pub value_size : length (take (r.at - a) (drop a s)) ≡ l - 1
          value_size = rw (span_part s q (l - 1) third) (length-take-le (l - 1) (drop q.at s) (span_there s q (l - 1) third).0)

          pub all_there : {n : ℕ} {text : List ℕ} → Octets s → l < 256
              → Wrote 0 (map digit_character (without_f (take (2 * (l - 1)) (semi_octets (take (r.at - a) (drop a s)))))) (replicate 508 0) n text
              → read_as (Some (record { ton = type_of_number t; npi = plan_of t; address = record { octets = text; length = n } })) r.at ≡ relay_read s
          unfolding relay_of relay_with
          all_there {n} {text} o small w =
              let (there, is, next) = octet_read s start first in
              let (there2, is2, next2) = octet_read s p second in
              let (fits, from, to) = span_there s q (l - 1) third in
              let value = take (r.at - a) (drop a s) in
              let all : take (2 * (l - 1)) (semi_octets value) ≡ semi_octets value = take_all (2 * (l - 1)) (semi_octets value) (omega (arith, length_semi value, value_size)) in
              let digits = map digit_character (digits_in value) in
              let few = digits_few value (octets_take (r.at - a) (drop a s) (octets_drop a s o)) in
              let held = stored 508 digits (omega (arith, value_size)) (rw all at w) in
              let at : p.at ≡ 1 = omega arith in
              let at2 : q.at ≡ 2 = omega arith in
              let end : r.at ≡ 1 + get_or s 0 0 = omega arith in
              let value_is : value ≡ take (l - 1) (drop 2 s) = span_part s q (l - 1) third ∙ ap (λ (k : ℕ). take (l - 1) (drop k s)) at2 in
              let octets_are : counted s ≡ t ∷ value = rw (← is, counted_is s l (omega arith) (omega arith), is2, at, value_is) in
              rw (end, held, read_whole s (omega (arith, value_there)), octets_are)
