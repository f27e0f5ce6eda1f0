-- What holds of each parameters that a format makes, and of their canonical fields.
-- Assumes nothing.
use Rattle.std.specs.Prelude.{Some, None, Option}
use Prim.Native.Nat.{ℕ, ◌+◌, ◌*◌, ◌/◌, ◌%◌, ◌≤◌, ◌<◌}
use mathlib.Core.Path.{◌≡◌, refl, sym}
use mathlib.Core.Bool.{Bool, true, false, ◌||◌, or_assoc, or-false}
use mathlib.Core.List.{List, [], ◌∷◌, ◌++◌, append-nil, append_assoc}
use native.Mathlib.Omega.{arith}
use native.Mathlib.Nat.{div-one, div-div-eq-div-mul}
use borrow.Author.Tests.{eqb-true, eqb-false}
use lib.Dec.{ltb}
use lib.ListN.{length}
use Rattle.coding.specs.Coding.{coding_of}
use Rattle.coding.proofs.Laws.{data_at_most}
use Rattle.layout.specs.Layout.{bit, is_set, Field, joined, past_limit, any_past_limit}
use Rattle.layout.proofs.Makes.{Makes, makes_then}
use Rattle.parameters.specs.Optional.{octets_held, held, or_zero}
use Rattle.parameters.specs.Parameters.{Parameters, parameters_octets}
use Rattle.parameters.proofs.Agreeing.{data_count, Agreeing}
use Rattle.parameters.specs.Layout.{announced, data_for, parameters}

-- fields one after the other
pub joined_append : (a b : List Field) → joined (a ++ b) ≡ joined a ++ joined b
joined_append [] b = refl
joined_append (f ∷ a) b = rw (joined_append a b, append_assoc)

pub past_append : (a b : List Field) → any_past_limit (a ++ b) ≡ (any_past_limit a || any_past_limit b)
past_append [] b = refl
past_append (f ∷ a) b = rw (past_append a b) (sym (or_assoc (past_limit f.kind f.stands) (any_past_limit a) (any_past_limit b)))

-- an octet that bit b of the indicator announces
pub record Announced (b pi : ℕ) (o : Option ℕ) (cs : List Field) : Type 0 where
  pub octets : octets_held o ≡ joined cs
  pub within : any_past_limit cs ≡ false
  pub holds : held o ≡ bit b pi
  pub low : or_zero o < 256

-- the user data's octets
pub record DataHeld (dcs udl : Option ℕ) (ud : List ℕ) (cs : List Field) : Type 0 where
  pub octets : ud ≡ joined cs
  pub limit : any_past_limit cs ≡ ltb 140 (length ud)
  pub counted : length ud ≡ data_count dcs udl
  pub few : length ud ≤ 255

announced_makes : (b pi : ℕ) → Makes (Announced b pi) (announced (is_set b pi))
announced_makes b pi = by (is_set b pi) refl
  where
    by : (t : Bool) → is_set b pi ≡ t → Makes (Announced b pi) (announced t)
    by true e = λ x l. record { octets = refl; within = refl; holds = sym (eqb-true (bit b pi) 1 e); low = l }
    by false e = record { octets = refl; within = refl; holds = omega (arith, eqb-false (bit b pi) 1 e); low = omega arith }

data_makes : (dcs udl : Option ℕ) → or_zero udl < 256 → Makes (DataHeld dcs udl) (data_for dcs udl)
data_makes dcs None l = record { octets = refl; limit = refl; counted = refl; few = omega arith }
data_makes dcs (Some udl) l = λ f o w. record {
  octets = sym (append-nil f);
  limit = or-false (ltb 140 (length f));
  counted = sym w;
  few = omega (arith, data_at_most (coding_of (or_zero dcs)) udl);
}

-- ---- all four

-- the indicator's three lowest bits
pub three_bits : (n : ℕ) → n % 8 ≡ bit 0 n + 2 * bit 1 n + 4 * bit 2 n
three_bits n =
    let e : n / 2 / 2 ≡ n / 4 = div-div-eq-div-mul n 2 2 in
    let d : n / 4 / 2 ≡ n / 8 = div-div-eq-div-mul n 4 2 in
    rw div-one (omega arith)

pub record Held (pi : ℕ) (p : Parameters) (cs : List Field) : Type 0 where
  pub octets : parameters_octets p ≡ joined cs
  pub limit : any_past_limit cs ≡ ltb 140 (length p.ud)
  pub agrees : Agreeing pi p
  pub few : length p.ud ≤ 255

module _ (pi : ℕ) {pid dcs udl : Option ℕ} {ud : List ℕ} {c1 c2 c3 c4 : List Field} (a1 : Announced 0 pi pid c1) (a2 : Announced 1 pi dcs c2) (a3 : Announced 2 pi udl c3) (a4 : DataHeld dcs udl ud c4) where
  all_held : Held pi (record { pid = pid; dcs = dcs; udl = udl; ud = ud }) (c1 ++ (c2 ++ (c3 ++ (c4 ++ []))))
  all_held = record {
    octets = simp (joined_append, append_assoc, append-nil) (cc (a1.octets, a2.octets, a3.octets, a4.octets));
    limit = simp (past_append, a1.within, a2.within, a3.within, append-nil) a4.limit;
    agrees = record { bits = omega (arith, three_bits pi, a1.holds, a2.holds, a3.holds); counted = a4.counted };
    few = a4.few;
  }

pub parameters_make : (pi : ℕ) → Makes (Held pi) (parameters pi)
unfolding parameters
parameters_make pi =
    makes_then _ _ (announced (is_set 0 pi)) _ (announced_makes 0 pi) λ pid c1 a1.
    makes_then _ _ (announced (is_set 1 pi)) _ (announced_makes 1 pi) λ dcs c2 a2.
    makes_then _ _ (announced (is_set 2 pi)) _ (announced_makes 2 pi) λ udl c3 a3.
    makes_then _ _ (data_for dcs udl) _ (data_makes dcs udl a3.low) λ ud c4 a4. all_held pi a1 a2 a3 a4
