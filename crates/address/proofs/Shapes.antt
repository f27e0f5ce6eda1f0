-- What is written of an address: its octets read as what was written. What is read of an address can be written.
-- Assumes nothing.
use Prim.Native.Nat.{ℕ, ◌+◌, ◌*◌, ◌/◌, ◌<◌, ◌≤◌}
use mathlib.Core.Path.{◌≡◌, refl, sym, subst}
use mathlib.Core.Bool.{Bool, true, false}
use mathlib.Core.List.{List, ◌∷◌, map}
use mathlib.Core.Option.{Option, none, some}
use native.Mathlib.Omega.{arith}
use lib.Dec.{eqb}
use lib.ListN.{length, get_or, take, length-take, length-map}
use Rattle.std.specs.Prelude.{if◌then◌else◌}
use Rattle.octets.specs.Each.{Octets, each}
use Rattle.octets.specs.SemiOctets.{semi_octets, in_pairs}
use Rattle.octets.proofs.SemiOctets.{semi_pairs, length_pairs, pairs_octets, semi_small}
use Rattle.octets.proofs.Each.{below_cons, below_take, Below}
use Rattle.septets.specs.Septets.{septets_in, packed_septets}
use Rattle.septets.proofs.Inverse.{length_packed, length_septets, septets_septets, digits_of}
use Rattle.gsm7.specs.Writing.{septets_of}
use Rattle.gsm7.proofs.Adequate.{text_packed_text}
use Rattle.gsm7.proofs.EncodingLaws.{read_writable}
use Rattle.gsm7.proofs.DecodingLaws.{text_short}
use Rattle.address.specs.Writing.{digit_value, is_digit, field_of, text_field, address_octets}
use Rattle.address.specs.Address.{digit_character, without_f, type_of_number, plan_of, value_text, address_with, text_in, address_in, address_size}
use Rattle.address.proofs.DigitTexts.{values_digits, characters_back, without_digits, without_none}

-- ---- what is written

-- the length octet of s septets of text tells s
pub text_count : (s : ℕ) → (s * 7 + 3) / 4 * 4 / 7 ≡ s
text_count s = omega arith

-- octets that are written are L, the type octet and value octets, which read as the text
abbrev Holds : ℕ → ℕ → List ℕ → Option (List ℕ) → Type 0
Holds ton npi text none = Unit
Holds ton npi text (some xs) =
    (l : ℕ) × (value : List ℕ) × (xs ≡ field_of ton npi l value) × ((l + 1) / 2 ≡ length value) × (value_text ton l value ≡ text) × Octets value

module _ (ton npi : ℕ) (text : List ℕ) where
  holds_septets : eqb ton 5 ≡ true → (o : Option (List ℕ)) → septets_of text ≡ o → Holds ton npi text (text_field ton npi o)
  unfolding value_text packed_septets
  holds_septets t none e = tt
  holds_septets t (some ss) e =
      ((length ss * 7 + 3) / 4, packed_septets 0 ss, refl, rw length_packed (omega arith), rw (t, text_count) (text_packed_text 0 text ss e), digits_of 8 _ _)

  holds_digits : eqb ton 5 ≡ false → (t : Bool) → each is_digit text ≡ t
      → Holds ton npi text (if t then some (field_of ton npi (length text) (in_pairs (map digit_value text))) else none)
  unfolding value_text
  holds_digits t false e = tt
  holds_digits t true e =
      let b = characters_back text e in
      let ds = map digit_value text in
      let n : length text ≡ length ds = sym (length-map text digit_value) in
      let low : Below 16 ds = λ i. omega (arith, b.1 i) in
      (length text, in_pairs ds, refl, rw (n, length_pairs), rw (t, n, semi_pairs ds low, without_none ds b.1) b.0, pairs_octets ds low)

  holds : Holds ton npi text (address_octets ton npi text)
  unfolding address_octets
  holds = by (eqb ton 5) refl
    where
      by : (t : Bool) → eqb ton 5 ≡ t → Holds ton npi text (address_octets ton npi text)
      by true t = rw t (holds_septets t (septets_of text) refl)
      by false t = rw t (holds_digits t (each is_digit text) refl)

module _ (ton npi : ℕ) (text xs : List ℕ) (t : ton < 8) (p : npi < 16) (e : address_octets ton npi text ≡ some xs) where
  parts : Holds ton npi text (some xs)
  parts = subst (Holds ton npi text) e (holds ton npi text)

  -- octets that are written tell their own end, and are read as what was written
  pub octets_read_lem : (address_size xs ≡ length xs) × (address_in xs ≡ address_with ton npi text)
  unfolding address_in text_in
  octets_read_lem =
      let (l, value, x, n, v, o) = parts in
      let k : type_of_number (128 + ton * 16 + npi) ≡ ton = omega arith in
      let q : plan_of (128 + ton * 16 + npi) ≡ npi = omega arith in
      rw x (omega arith, rw (k, q, v))

  -- they are octets, where the length octet fits
  pub octets_octets : get_or xs 0 0 < 256 → Octets xs
  octets_octets h =
      let (l, value, x, n, v, o) = parts in
      let k : l < 256 = rw x at h in
      let kind = 128 + ton * 16 + npi in
      rw x (below_cons 256 l (kind ∷ value) k (below_cons 256 kind value (omega arith) o))

-- ---- what is read can be written, with a length octet that is no larger, and fits its array

module _ (ton npi l : ℕ) (value : List ℕ) where
  abbrev pub Fits : List ℕ → Type 0
  Fits text = (xs : List ℕ) × (address_octets ton npi text ≡ some xs) × (get_or xs 0 0 ≤ l) × (length text ≤ 290)

  pub read_fits : l < 256 → Octets value → Fits (value_text ton l value)
  unfolding value_text address_octets
  read_fits h o = by (eqb ton 5) refl
    where
      by : (t : Bool) → eqb ton 5 ≡ t → Fits (value_text ton l value)
      by true t =
          let ss = septets_in value 0 (l * 4 / 7) in
          let (ks, e, n) = read_writable ss (septets_septets value 0 (l * 4 / 7)) in
          let few : length ks ≤ l * 4 / 7 = omega (arith, length_septets value 0 (l * 4 / 7)) in
          (field_of ton npi ((length ks * 7 + 3) / 4) (packed_septets 0 ks), rw (t, e), omega arith, rw t (omega (arith, text_short value 0 (l * 4 / 7))))
      by false t =
          let ss = take l (semi_octets value) in
          let ds = without_f ss in
          let (low, n) = without_digits ss (below_take 16 l (semi_octets value) (omega arith) (semi_small value o)) in
          let cs = map digit_character ds in
          let few : length cs ≤ l = omega (arith, length-map ds digit_character, length-take l (semi_octets value)) in
          (field_of ton npi (length cs) (in_pairs (map digit_value cs)), rw (t, values_digits ds low), few, rw t (omega arith))
