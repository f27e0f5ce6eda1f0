-- A first octet in its canonical form: TP-MTI and the bits that the format names are as they were; and a first octet of TP-MTI and flags, which tells these.
-- Assumes nothing.
use Prim.Native.Nat.{ℕ, suc, ◌+◌, ◌-◌, ◌*◌, ◌/◌, ◌%◌, ◌^◌, ◌≤◌, ◌<◌}
use mathlib.Core.Path.{◌≡◌, refl, sym, ap, ap₂, ◌∙◌}
use mathlib.Core.Bool.{Bool, true, false, ◌&&◌, ◌||◌, false≢true}
use mathlib.Core.List.{List, [], ◌∷◌}
use mathlib.Core.Logic.Iff
use mathlib.Core.Logic.{⊎_elim}
use native.Mathlib.Nat.{mod-mod}
use native.Mathlib.Omega.{arith}
use borrow.Author.Tests.{ltb-true, leb-true, eqb-true, eqb-false, eq-eqb, ne_eqb}
use lib.Arith.{digits_lt}
use lib.Dec.{leb, ltb, eqb}
use lib.Pow.{pow_mono, high, low, field, mod-mod-pow}
use Rattle.std.specs.Prelude.{if◌then◌else◌}
use Rattle.octets.specs.Choice.{flag}
use Rattle.octets.proofs.Choice.{and_true, or_means}
use Rattle.layout.specs.Layout.{bit, is_set, message_type, kept, first_octet}

-- a format names its bits from the highest down, and none of TP-MTI's
abbrev pub descends : List ℕ → Bool
descends [] = true
descends (b ∷ []) = leb 2 b
descends (b ∷ c ∷ bits) = ltb c b && descends (c ∷ bits)

abbrev pub names : List ℕ → ℕ → Bool
names [] b = false
names (c ∷ bits) b = eqb b c || names bits b

-- the lower bits are those of what is left of the list
kept_small : (b : ℕ) (bits : List ℕ) → descends (b ∷ bits) ≡ true → (x : ℕ) → kept bits x < 2 ^ b
unfolding kept
kept_small b [] d x = let p : 2 ^ 2 ≤ 2 ^ b = pow_mono (leb-true 2 b d) in omega arith
kept_small b (c ∷ bits) d x =
    let (l, more) = and_true (ltb c b) (descends (c ∷ bits)) d in
    let p : 2 ^ suc c ≤ 2 ^ b = pow_mono (ltb-true c b l) in
    let h : bit c x * 2 ^ c + kept bits x < 2 * 2 ^ c = digits_lt (omega arith) (kept_small c bits more x) in
    omega arith

module _ (b : ℕ) (bits : List ℕ) (d : descends (b ∷ bits) ≡ true) (x : ℕ) where
  kept_low : kept (b ∷ bits) x % 2 ^ b ≡ kept bits x
  unfolding kept
  kept_low = low (bit b x) b (kept_small b bits d x)

  kept_high : bit b (kept (b ∷ bits) x) ≡ bit b x
  unfolding kept
  kept_high = rw (high (bit b x) b (kept_small b bits d x)) (mod-mod (x / 2 ^ b) 2)

-- what a list that descends says of its first bit and of the others
others : (b : ℕ) (bits : List ℕ) → descends (b ∷ bits) ≡ true → (2 ≤ b) × (descends bits ≡ true) × ((c : ℕ) → names bits c ≡ true → c < b)
others b [] d = (leb-true 2 b d, refl, λ c e. absurd (false≢true e))
others b (a ∷ bits) d =
    let (l, more) = and_true (ltb a b) (descends (a ∷ bits)) d in
    let below = ltb-true a b l in
    let (h, ds, lower) = others a bits more in
    (omega arith, more, λ c e. ⊎_elim (λ w. omega (arith, eqb-true c a w)) (λ w. omega (arith, lower c w)) ((or_means (eqb c a) (names bits c) Iff.rfl Iff.rfl).0 e))

-- bits below b are those of the remainder
bit_mod : (n b c : ℕ) → c < b → bit c (n % 2 ^ b) ≡ bit c n
bit_mod n b c h =
    let i = b - c - 1 in
    let e : b ≡ (i + 1) + c = omega arith in
    rw (e, field n (i + 1) c) (mod-mod-pow (n / 2 ^ c) i 1)

type_mod : (n b : ℕ) → 2 ≤ b → message_type (n % 2 ^ b) ≡ message_type n
type_mod n b h = let e : b ≡ (b - 2) + 2 = omega arith in rw e (mod-mod-pow n (b - 2) 2)

pub kept_type : (bits : List ℕ) → descends bits ≡ true → (x : ℕ) → message_type (kept bits x) ≡ message_type x
unfolding kept
kept_type [] d x = mod-mod x 4
kept_type (b ∷ bits) d x = let (h, ds, lower) = others b bits d in sym (type_mod (kept (b ∷ bits) x) b h) ∙ ap message_type (kept_low b bits d x) ∙ kept_type bits ds x

pub kept_bit : (bits : List ℕ) → descends bits ≡ true → (b : ℕ) → names bits b ≡ true → (x : ℕ) → bit b (kept bits x) ≡ bit b x
kept_bit [] d b e x = absurd (false≢true e)
kept_bit (a ∷ bits) d b e x =
    let (h, ds, lower) = others a bits d in
    ⊎_elim (λ w. rw (eqb-true b a w) (kept_high a bits d x))
    (λ w. sym (bit_mod (kept (a ∷ bits) x) a b (lower b w)) ∙ ap (bit b) (kept_low a bits d x) ∙ kept_bit bits ds b w x)
    ((or_means (eqb b a) (names bits b) Iff.rfl Iff.rfl).0 e)

-- ---- flags, each with its bit

abbrev pub bits_of : List (ℕ × Bool) → List ℕ
bits_of [] = []
bits_of (f ∷ flags) = f.0 ∷ bits_of flags

-- the flag of a bit
abbrev pub flag_at : List (ℕ × Bool) → ℕ → Bool
flag_at [] b = false
flag_at (f ∷ flags) b = if eqb b f.0 then f.1 else flag_at flags b

-- the flags that the bits of an octet are
abbrev pub flags_in : List ℕ → ℕ → List (ℕ × Bool)
flags_in [] x = []
flags_in (b ∷ bits) x = (b, is_set b x) ∷ flags_in bits x

-- a canonical first octet is its TP-MTI and its flags
pub kept_first : (bits : List ℕ) (x : ℕ) → kept bits x ≡ first_octet (message_type x) (flags_in bits x)
unfolding kept first_octet
kept_first [] x = refl
kept_first (b ∷ bits) x = ap₂ ◌+◌ (weight (is_set b x) refl) (kept_first bits x)
  where
    weight : (on : Bool) → is_set b x ≡ on → bit b x * 2 ^ b ≡ flag on (2 ^ b)
    weight true e = rw (eqb-true (bit b x) 1 e) (omega arith)
    weight false e = let z : bit b x ≡ 0 = omega (arith, eqb-false (bit b x) 1 e) in rw z (omega arith)

weight_of : (on : Bool) (w : ℕ) → flag on w ≡ flag on 1 * w
weight_of true w = omega arith
weight_of false w = omega arith

one_flag : (on : Bool) → flag on 1 < 2
one_flag true = omega arith
one_flag false = omega arith

is_flag : (on : Bool) → eqb (flag on 1 % 2) 1 ≡ on
is_flag true = refl
is_flag false = refl

module _ (mti : ℕ) (low-mti : mti < 4) where
  first_small : (b : ℕ) (flags : List (ℕ × Bool)) → descends (b ∷ bits_of flags) ≡ true → first_octet mti flags < 2 ^ b
  unfolding first_octet
  first_small b [] d = let p : 2 ^ 2 ≤ 2 ^ b = pow_mono (leb-true 2 b d) in omega arith
  first_small b ((c, on) ∷ flags) d =
      let (l, more) = and_true (ltb c b) (descends (c ∷ bits_of flags)) d in
      let p : 2 ^ suc c ≤ 2 ^ b = pow_mono (ltb-true c b l) in
      let h : flag on 1 * 2 ^ c + first_octet mti flags < 2 * 2 ^ c = digits_lt (one_flag on) (first_small c flags more) in
      rw (weight_of on (2 ^ c)) (omega arith)

  module _ (b : ℕ) (on : Bool) (flags : List (ℕ × Bool)) (d : descends (b ∷ bits_of flags) ≡ true) where
    first_low : first_octet mti ((b, on) ∷ flags) % 2 ^ b ≡ first_octet mti flags
    unfolding first_octet
    first_low = rw (weight_of on (2 ^ b)) (low (flag on 1) b (first_small b flags d))

    first_high : is_set b (first_octet mti ((b, on) ∷ flags)) ≡ on
    unfolding first_octet
    first_high = rw (weight_of on (2 ^ b), high (flag on 1) b (first_small b flags d)) (is_flag on)

  -- it tells TP-MTI, and each flag
  pub first_type : (flags : List (ℕ × Bool)) → descends (bits_of flags) ≡ true → message_type (first_octet mti flags) ≡ mti
  unfolding first_octet
  first_type [] d = omega arith
  first_type ((b, on) ∷ flags) d = let (h, ds, lower) = others b (bits_of flags) d in sym (type_mod (first_octet mti ((b, on) ∷ flags)) b h) ∙ ap message_type (first_low b on flags d) ∙ first_type flags ds

  pub first_flag : (flags : List (ℕ × Bool)) → descends (bits_of flags) ≡ true → (b : ℕ) → names (bits_of flags) b ≡ true → is_set b (first_octet mti flags) ≡ flag_at flags b
  first_flag [] d b e = absurd (false≢true e)
  first_flag ((a, on) ∷ flags) d b e = let (h, ds, lower) = others a (bits_of flags) d in by lower (first_flag flags ds b) (eqb b a) refl
    where
      by : ((c : ℕ) → names (bits_of flags) c ≡ true → c < a) → (names (bits_of flags) b ≡ true → is_set b (first_octet mti flags) ≡ flag_at flags b) → (t : Bool) → eqb b a ≡ t
          → is_set b (first_octet mti ((a, on) ∷ flags)) ≡ flag_at ((a, on) ∷ flags) b
      by lower more true w = rw (w, eqb-true b a w) (first_high a on flags d)
      by lower more false w =
          let n : names (bits_of flags) b ≡ true = rw w at e in
          rw w (ap (λ x. eqb x 1) (sym (bit_mod (first_octet mti ((a, on) ∷ flags)) a b (lower b n))) ∙ ap (is_set b) (first_low a on flags d) ∙ more n)

  -- and is its own canonical form
  pub first_kept : (flags : List (ℕ × Bool)) → descends (bits_of flags) ≡ true → kept (bits_of flags) (first_octet mti flags) ≡ first_octet mti flags
  first_kept flags d = kept_first (bits_of flags) (first_octet mti flags) ∙ ap₂ first_octet (first_type flags d) (again (first_octet mti flags) flags d (first_flag flags d))
    where
      again : (x : ℕ) (flags : List (ℕ × Bool)) → descends (bits_of flags) ≡ true → ((b : ℕ) → names (bits_of flags) b ≡ true → is_set b x ≡ flag_at flags b) → flags_in (bits_of flags) x ≡ flags
      again x [] d tells = refl
      again x ((b, on) ∷ flags) d tells =
          let (h, ds, lower) = others b (bits_of flags) d in
          let here : is_set b x ≡ on = (rw (eq-eqb b b refl) at (tells b)) refl in
          let rest : (c : ℕ) → names (bits_of flags) c ≡ true → is_set c x ≡ flag_at flags c = λ c n. (rw (ne_eqb c b (λ e. omega (arith, lower c n))) at (tells c)) n in
          rw (here, again x flags ds rest)

bits_in : (bits : List ℕ) (x : ℕ) → bits_of (flags_in bits x) ≡ bits
bits_in [] x = refl
bits_in (b ∷ bits) x = ap (λ (bs : List ℕ). b ∷ bs) (bits_in bits x)

-- a canonical first octet is that of the TP-MTI and the flags that it tells
pub told_first : (bits : List ℕ) → descends bits ≡ true → (x : ℕ) → first_octet (message_type (kept bits x)) (flags_in bits (kept bits x)) ≡ kept bits x
told_first bits d x =
    let again = first_kept (message_type x) (omega arith) (flags_in bits x) (ap descends (bits_in bits x) ∙ d) in
    sym (kept_first bits (kept bits x)) ∙ (rw (bits_in bits x, ← kept_first bits x) at again)
