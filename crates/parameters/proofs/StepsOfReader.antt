-- Steps of a reader of parameters, by what the functions that read them answer.
-- Assumes nothing.
use Rattle.std.specs.Prelude.{Ok, Err, Some, None, Option}
use Prim.Native.Nat.{ℕ, ◌-◌, ◌%◌, ◌≤◌}
use mathlib.Core.Path.{◌≡◌, refl, sym, ap, ◌∙◌}
use mathlib.Core.Bool.{Bool, true}
use mathlib.Core.List.{List, []}
use native.Mathlib.Nat.{div-one}
use native.Mathlib.Omega.{arith}
use lib.Dec.{eqb}
use lib.ListN.{length, take, drop, length-drop}
use lib.Seq.{length-take-le}
use Rattle.octets.specs.Answers.{Said}
use Rattle.octets.specs.Each.{Octets}
use Rattle.octets.specs.Places.{octet_at, span_at}
use Rattle.octets.specs.declared.Place.{Place}
use Rattle.octets.specs.declared.Refusal.{Refusal}
use Rattle.octets.specs.declared.Refusal.TheVariants.{OctetsEnd}
use Rattle.octets.proofs.Places.{given, span_there}
use Rattle.octets.proofs.Each.{octets_drop}
use Rattle.coding.specs.Coding.{coding_of, data_octets}
use Rattle.layout.specs.Layout.{up_to, is_set, Format, done, ◌then◌, Reached, reached, halted, reading, read_from, indicator_size}
use Rattle.layout.specs.Internal.{indicator_at, leading_at, placed}
use Rattle.layout.proofs.Makes.{makes}
use Rattle.layout.proofs.Fields.{indicator_positive}
use Rattle.layout.proofs.Steps.{go_on, one_by_one, octet_goes_on, octet_ends, span_goes_on, span_ends, done_reached}
use Rattle.layout.proofs.Laws.{within_from}
use Rattle.parameters.specs.Optional.{or_zero}
use Rattle.parameters.specs.Parameters.{Parameters}
use Rattle.parameters.specs.Layout.{announced, data_for, parameters}
use Rattle.parameters.specs.Internal.{counted}
use Rattle.parameters.proofs.Made.{Held, parameters_make}

-- ---- one optional octet

module _ (s : List ℕ) (p : Place) where
  pub announced_read : {x : ℕ} {q : Place} → octet_at s p ≡ Ok (x, q) → read_from (announced true) s p.at ≡ reached (Some x) q.at
  announced_read e = octet_goes_on s p e _ ∙ done_reached s _ _

  pub announced_ends : octet_at s p ≡ Err OctetsEnd → read_from (announced true) s p.at ≡ halted OctetsEnd
  announced_ends e = octet_ends s p e _

module _ {R : Type 0} (s : List ℕ) (at : ℕ) (b : Bool) (next : Option ℕ → Format R) where
  pub optional_goes_on : {o : Option ℕ} {q : Place} → placed (read_from (announced b) s at) ≡ Ok (o, q) → read_from (announced b then next) s at ≡ read_from (next o) s q.at
  optional_goes_on {o} {q} e = one_by_one s (announced b) at next ∙ go (read_from (announced b) s at) e
    where
      go : (r : Reached (Option ℕ)) → placed r ≡ Ok (o, q) → go_on r (λ a to. read_from (next a) s to) ≡ read_from (next o) s q.at
      go (reached a to) h = let d : a ≡ o = ap (λ z. z.0) (given h) in let w : to ≡ q.at = ap (λ z. z.1.at) (given h) in rw (d, w)
      go (halted why) h = let z : ◌≡◌ {A = ℕ} 0 1 = cc in absurd (omega arith)

  pub optional_ends : placed (read_from (announced b) s at) ≡ Err OctetsEnd → read_from (announced b then next) s at ≡ halted OctetsEnd
  optional_ends e = one_by_one s (announced b) at next ∙ go (read_from (announced b) s at) e
    where
      go : (r : Reached (Option ℕ)) → placed r ≡ Err OctetsEnd → go_on r (λ a to. read_from (next a) s to) ≡ halted OctetsEnd
      go (reached a to) h = let z : ◌≡◌ {A = ℕ} 0 1 = cc in absurd (omega arith)
      go (halted w) h = cc

-- ---- the parameters

module _ (s : List ℕ) (at pi : ℕ) where
  pub no_pid : placed (read_from (announced (eqb (pi % 2) 1)) s at) ≡ Err OctetsEnd → Err OctetsEnd ≡ counted (placed (read_from (parameters pi) s at))
  unfolding parameters
  no_pid e = rw (div-one pi, optional_ends s at _ _ e)

  module _ {pid : Option ℕ} {p1 : Place} (r1 : placed (read_from (announced (eqb (pi % 2) 1)) s at) ≡ Ok (pid, p1)) where
    pub no_dcs : placed (read_from (announced (is_set 1 pi)) s p1.at) ≡ Err OctetsEnd → Err OctetsEnd ≡ counted (placed (read_from (parameters pi) s at))
    unfolding parameters
    no_dcs e = rw (div-one pi, optional_goes_on s at _ _ r1, optional_ends s p1.at _ _ e)

    module _ {dcs : Option ℕ} {p2 : Place} (r2 : placed (read_from (announced (is_set 1 pi)) s p1.at) ≡ Ok (dcs, p2)) where
      pub no_udl : placed (read_from (announced (is_set 2 pi)) s p2.at) ≡ Err OctetsEnd → Err OctetsEnd ≡ counted (placed (read_from (parameters pi) s at))
      unfolding parameters
      no_udl e = rw (div-one pi, optional_goes_on s at _ _ r1, optional_goes_on s p1.at _ _ r2, optional_ends s p2.at _ _ e)

      module _ {udl : Option ℕ} {p3 : Place} (r3 : placed (read_from (announced (is_set 2 pi)) s p2.at) ≡ Ok (udl, p3)) where
        pub no_data : udl ≡ None → Ok (record { parameters = record { pid = pid; dcs = dcs; udl = udl }; octets = 0; next = p3 }) ≡ counted (placed (read_from (parameters pi) s at))
        unfolding parameters
        no_data a = rw (div-one pi, optional_goes_on s at _ _ r1, optional_goes_on s p1.at _ _ r2, optional_goes_on s p2.at _ _ r3, a, done_reached)

        module _ {n : ℕ} (h : udl ≡ Some n) {size : ℕ} (z : size ≡ data_octets (coding_of (or_zero dcs)) n) where
          pub data_short : span_at s p3 size ≡ Err OctetsEnd → Err OctetsEnd ≡ counted (placed (read_from (parameters pi) s at))
          unfolding parameters
          data_short e = rw (div-one pi, optional_goes_on s at _ _ r1, optional_goes_on s p1.at _ _ r2, optional_goes_on s p2.at _ _ r3, h, ← z, span_ends s p3 size e)

          pub whole : {a : ℕ} {p4 : Place} → span_at s p3 size ≡ Ok (a, p4) → Ok (record { parameters = record { pid = pid; dcs = dcs; udl = udl }; octets = size; next = p4 }) ≡ counted (placed (read_from (parameters pi) s at))
          unfolding parameters
          whole e =
              rw (
                div-one pi,
                optional_goes_on s at _ _ r1,
                optional_goes_on s p1.at _ _ r2,
                optional_goes_on s p2.at _ _ r3,
                h,
                ← z,
                span_goes_on s p3 size e,
                done_reached,
                length-take-le size (drop p3.at s) (span_there s p3 size e).0,
              )

-- ---- what the answer tells

module _ {A R : Type 0} (s : List ℕ) (format : Format A) (next : A → Format R) (at : ℕ) where
  then_told : {r : R} {n : ℕ} → read_from (format then next) s at ≡ reached r n → (a : A) × (to : ℕ) × (read_from format s at ≡ reached a to) × (read_from (next a) s to ≡ reached r n)
  then_told {r} {n} e = go (read_from format s at) refl (sym (one_by_one s format at next) ∙ e)
    where
      go : (x : Reached A) → read_from format s at ≡ x → go_on x (λ a to. read_from (next a) s to) ≡ reached r n → (a : A) × (to : ℕ) × (read_from format s at ≡ reached a to) × (read_from (next a) s to ≡ reached r n)
      go (reached a to) d h = (a, to, d, h)
      go (halted why) d h = let z : ◌≡◌ {A = ℕ} 0 1 = cc in absurd (omega arith)

done_told : {R : Type 0} {q r : R} {n : ℕ} (s : List ℕ) (at : ℕ) → read_from (done q) s at ≡ reached r n → (q ≡ r) × (at ≡ n)
unfolding read_from reading
done_told s at e = ((cc), (cc))

-- the user data are the last octets before the place reached
record Last (s : List ℕ) (ud : List ℕ) (n : ℕ) : Type 0 where
  pub start : length ud ≤ n
  pub is : take (length ud) (drop (n - length ud) s) ≡ ud

last_none : (s : List ℕ) (n : ℕ) → Last s [] n
last_none s n = record { start = omega arith; is = refl }

data_last : {ud : List ℕ} {n : ℕ} (s : List ℕ) (at : ℕ) (dcs udl : Option ℕ) → read_from (data_for dcs udl) s at ≡ reached ud n → Last s ud n
data_last {n = n} s at dcs None e = rw (← (done_told s at e).0) (last_none s n)
data_last {ud} {n} s at dcs (Some udl) e = by (span_at s p size) refl
  where
    p : Place
    p = record { at = at }

    size : ℕ
    size = data_octets (coding_of (or_zero dcs)) udl

    by : (r : Said (ℕ × Place)) → span_at s p size ≡ r → Last s ud n
    by (Ok (a, q)) d =
        let (same, to) = done_told s q.at (sym (span_goes_on s p size d (up_to 140) done) ∙ e) in
        let (fits, from, next) = span_there s p size d in
        let l : length ud ≡ size = ap length (sym same) ∙ length-take-le size (drop at s) fits in
        let k : n - length ud ≡ at = omega arith in
        record { start = omega arith; is = rw (k, l) same }
    by (Err why) d = let h = span_ends s p size d (up_to 140) done in let z : ◌≡◌ {A = ℕ} 0 1 = cc in absurd (omega arith)

last_of : {p q : Parameters} {n to : ℕ} (s : List ℕ) → (q ≡ p) × (to ≡ n) → Last s q.ud to → Last s p.ud n
last_of s (same, at) l = rw (← same, ← at) l

parameters_last : {p : Parameters} {n : ℕ} (s : List ℕ) (at pi : ℕ) → read_from (parameters pi) s at ≡ reached p n → Last s p.ud n
unfolding parameters
parameters_last s at pi e =
    let (pid, t1, d1, e1) = then_told s (announced (is_set 0 pi)) _ at e in
    let (dcs, t2, d2, e2) = then_told s (announced (is_set 1 pi)) _ t1 e1 in
    let (udl, t3, d3, e3) = then_told s (announced (is_set 2 pi)) _ t2 e2 in
    let (ud, t4, d4, e4) = then_told s (data_for dcs udl) _ t3 e3 in
    last_of s (done_told s t4 e4) (data_last s t3 dcs udl d4)

-- the parameters that were read, with their data right before the place
pub record Found (s : List ℕ) (at pi : ℕ) (pid dcs udl : Option ℕ) (size : ℕ) (q : Place) : Type 0 where
  pub is : read_from (parameters pi) s at ≡ reached (record { pid = pid; dcs = dcs; udl = udl; ud = take size (drop (q.at - size) s) }) q.at
  pub start : size ≤ q.at
  pub counted : length (take size (drop (q.at - size) s)) ≡ size
  pub few : size ≤ 255
  pub end : q.at ≤ length s

pub parameters_told : {pid dcs udl : Option ℕ} {size : ℕ} {q : Place} (s : List ℕ) (at pi : ℕ) → Octets s → at ≤ length s → counted (placed (read_from (parameters pi) s at)) ≡ Ok (record { parameters = record { pid = pid; dcs = dcs; udl = udl }; octets = size; next = q }) → Found s at pi pid dcs udl size q
unfolding read_from
parameters_told {pid} {dcs} {udl} {size} {q} s at pi o inside = go (read_from (parameters pi) s at) refl
  where
    go : (r : Reached Parameters) → read_from (parameters pi) s at ≡ r → counted (placed r) ≡ Ok (record { parameters = record { pid = pid; dcs = dcs; udl = udl }; octets = size; next = q }) → Found s at pi pid dcs udl size q
    go (reached p to) d h =
        let g = given h in
        let a : p.pid ≡ pid = ap (λ z. z.parameters.pid) g in
        let b : p.dcs ≡ dcs = ap (λ z. z.parameters.dcs) g in
        let c : p.udl ≡ udl = ap (λ z. z.parameters.udl) g in
        let n : length p.ud ≡ size = ap (λ z. z.octets) g in
        let w : to ≡ q.at = ap (λ z. z.next.at) g in
        let l = parameters_last s at pi d in
        let m = makes (Held pi) (parameters pi) (parameters_make pi) (drop at s) at (octets_drop at s o) d in
        record {
          is = rw (← a, ← b, ← c, ← n, ← w, l.is) d;
          start = omega (arith, l.start);
          counted = rw (← n, ← w, l.is);
          few = omega (arith, m.few);
          end = omega (arith, within_from (parameters pi) s at inside d);
        }
    go (halted why) d h = let z : ◌≡◌ {A = ℕ} 0 1 = cc in absurd (omega arith)

-- an indicator that was read ends inside the string
pub indicator_within : {x : ℕ} {q : Place} (s : List ℕ) (p : Place) → indicator_at s p ≡ Ok (x, q) → q.at ≤ length s
unfolding indicator_at
indicator_within {x} {q} s p e = go (span_at s p (indicator_size (drop p.at s))) refl e
  where
    go : (r : Said (ℕ × Place)) → span_at s p (indicator_size (drop p.at s)) ≡ r → leading_at s r ≡ Ok (x, q) → q.at ≤ length s
    go (Ok (a, t)) d h =
        let (fits, from, next) = span_there s p _ d in
        let w : t.at ≡ q.at = ap (λ z. z.1.at) (given h) in
        omega (arith, indicator_positive (drop p.at s), length-drop p.at s)
    go (Err why) d h = let z : ◌≡◌ {A = ℕ} 0 1 = cc in absurd (omega arith)

-- the parameters after it
pub parameters_after : {pi size : ℕ} {pid dcs udl : Option ℕ} {q t : Place} (s : List ℕ) (p : Place) → indicator_at s p ≡ Ok (pi, q) → Octets s
    → counted (placed (read_from (parameters pi) s q.at)) ≡ Ok (record { parameters = record { pid = pid; dcs = dcs; udl = udl }; octets = size; next = t }) → Found s q.at pi pid dcs udl size t
parameters_after {pi} {q = q} s p r o e = parameters_told s q.at pi o (indicator_within s p r) e

pub parameters_halted : {why : Refusal} (s : List ℕ) (at pi : ℕ) → counted (placed (read_from (parameters pi) s at)) ≡ Err why → read_from (parameters pi) s at ≡ halted why
parameters_halted {why} s at pi = go (read_from (parameters pi) s at)
  where
    go : (r : Reached Parameters) → counted (placed r) ≡ Err why → r ≡ halted why
    go (reached p to) h = let z : ◌≡◌ {A = ℕ} 0 1 = cc in absurd (omega arith)
    go (halted w) h = cc
