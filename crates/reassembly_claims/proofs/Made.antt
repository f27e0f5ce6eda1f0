-- What a store holds of a message depends on which of its parts were accepted since it was opened, and on nothing else.
-- Assumes nothing.
use Prim.Native.Nat.{ℕ, ◌-◌, ◌<◌}
use mathlib.Core.Path.{◌≡◌, refl, sym, ap, ◌∙◌, subst}
use mathlib.Core.Bool.{Bool, true, false, false≢true}
use mathlib.Core.List.{List, [], ◌∷◌, append-nil}
use mathlib.Core.Logic.{◌⊎◌, inl, inr, ◌↔◌}
use mathlib.Core.Option.{Option, none, some}
use native.Mathlib.Omega.{arith}
use borrow.Author.Tests.{eqb-true, eqb-false}
use lib.Dec.{eqb}
use lib.ListN.{length, get_or, set, replicate, length-set, length-replicate}
use lib.Seq.{get_or-set_same, get_or-set_other, ext_get_or}
use Rattle.octets.specs.Answers.{Said}
use Rattle.std.specs.Prelude.{if◌then◌else◌, Ok, Err, IsOk}
use Rattle.octets.specs.declared.Refusal.TheVariants.{StoreFull, NotAPart}
use Rattle.octets.proofs.Places.{given}
use Rattle.message_store.specs.Part.{Key, Named, Part, Arrived}
use Rattle.message_store.specs.Store.{begins, key_octets, slot_at, slot_of, Message, message_in, held_of}
use Rattle.reassembly.specs.declared.PartAccepted.{PartAccepted}
use Rattle.reassembly.specs.Calls.{told, emptied, accepting, taking, dropping}
use Rattle.message_store.proofs.AtStart.{begins_itself}
use Rattle.message_store.proofs.First.{true_false}
use Rattle.message_store.proofs.Keys.{one_key}
use Rattle.message_store.proofs.Shown.{length_holdings}
use Rattle.reassembly_claims.specs.Claims.{Call, accept, take, drop, after, after_all, OnlyCalls, Accepts, Accepted, Leaves, LeaveAll, adding, GoesWith, Joined, SixteenOpen, Turned, dropped_of, Dropped, Keeps}
use Rattle.reassembly_claims.proofs.Held.{Sound}
use Rattle.reassembly_claims.proofs.Step.{some_none, none_at, Valid}
use Rattle.reassembly_claims.proofs.Calls.{valid_arrival, Comes, accepting_does, taking_does, dropping_does, begun_sound}

-- ---- keys are equal or not

pub same_or_not : (j k : Key) → (j ≡ k) ⊎ (j ≡ k → ⊥)
same_or_not j k = by_test (begins (key_octets j) (key_octets k)) refl
  where
    itself : begins (key_octets k) (key_octets k) ≡ true
    itself = ap (begins (key_octets k)) (sym (append-nil (key_octets k))) ∙ begins_itself (key_octets k) []

    by_test : (t : Bool) → begins (key_octets j) (key_octets k) ≡ t → (j ≡ k) ⊎ (j ≡ k → ⊥)
    by_test true e = inl (one_key (key_octets k) j k e itself)
    by_test false e = inr (λ q. true_false itself (subst (λ (x : Key). begins (key_octets x) (key_octets k) ≡ false) q e))

-- ---- a message that parts make

-- these parts of the message, and no others, are what is held of it
abbrev pub MadeOf : Key → (Arrived → Type 0) → Option Message → Type 0
MadeOf key P none = (a : Arrived) → a.key ≡ key → P a → ⊥
MadeOf key P (some m) =
    (length m.parts ≡ key.total) × ((a : Arrived) × (a.key ≡ key) × P a)
    × ((a : Arrived) → a.key ≡ key → P a → (m.dcs ≡ a.dcs) × (get_or m.parts (a.number - 1) none ≡ some a.part))
    × ((i : ℕ) (p : Part) → get_or m.parts i none ≡ some p → (a : Arrived) × (a.key ≡ key) × P a × (a.number - 1 ≡ i) × (a.part ≡ p))

module _ (key : Key) (P Q : Arrived → Type 0) (alike : (a : Arrived) → a.key ≡ key → P a ↔ Q a) where
  made_alike : (h : Option Message) → MadeOf key P h → MadeOf key Q h
  made_alike none n = λ a e q. n a e ((alike a e).1 q)
  made_alike (some m) (size, (a, e, p), each, back) =
      (size, (a, e, (alike a e).0 p), λ a e q. each a e ((alike a e).1 q), λ i p g. let (a, e, q, n, r) = back i p g in (a, e, (alike a e).0 q, n, r))

  -- it is determined by them
  pub determined : (h g : Option Message) → MadeOf key P h → MadeOf key Q g → h ≡ g
  determined none none x y = refl
  determined none (some m) x (size, (a, e, q), each, back) = absurd (x a e ((alike a e).1 q))
  determined (some m) none (size, (a, e, p), each, back) y = absurd (y a e ((alike a e).0 p))
  determined (some m) (some k) (size, (a, e, p), each, back) (size', w, each', back') =
      let one = each a e p in
      let two = each' a e ((alike a e).0 p) in
      let parts_same : m.parts ≡ k.parts = ext_get_or none m.parts k.parts (size ∙ sym size') (λ i h. at_each i (get_or m.parts i none) refl (get_or k.parts i none) refl) in
      ap some (λ i. record { dcs = (one.0 ∙ sym two.0) i; parts = parts_same i })
    where
      at_each : (i : ℕ) (x : Option Part) → get_or m.parts i none ≡ x → (y : Option Part) → get_or k.parts i none ≡ y → get_or m.parts i none ≡ get_or k.parts i none
      at_each i none u none w = u ∙ sym w
      at_each i (some p) u y w =
          let (a, e, q, n, r) = back i p u in
          u ∙ ap some (sym r) ∙ sym (each' a e ((alike a e).0 q)).1 ∙ ap (λ (j : ℕ). get_or k.parts j none) n
      at_each i none u (some p) w =
          let (a, e, q, n, r) = back' i p w in
          some_none (sym (each a e ((alike a e).1 q)).1 ∙ ap (λ (j : ℕ). get_or m.parts j none) n ∙ u)

-- ---- one part more

module _ (P : Arrived → Type 0) (a : Arrived) (v : Valid a) where
  abbrev Also : Arrived → Type 0
  Also b = P b ⊎ (b ≡ a)

  -- the part stored among others
  module _ (ps : List (Option Part)) (size : length ps ≡ a.key.total) where
    abbrev stored : List (Option Part)
    stored = set ps (a.number - 1) (some a.part)

    inside : a.number - 1 < length ps
    inside = rw size (omega (arith, v.number_low, v.number_high))

    there : get_or stored (a.number - 1) none ≡ some a.part
    there = get_or-set_same ps (a.number - 1) (some a.part) none inside

    elsewhere : (i : ℕ) → (i ≡ a.number - 1 → ⊥) → get_or stored i none ≡ get_or ps i none
    elsewhere i ne = get_or-set_other ps (a.number - 1) i (some a.part) none ne

    -- what is at a place was there, or is the part
    found : (i : ℕ) (p : Part) → get_or stored i none ≡ some p → ((i ≡ a.number - 1) × (a.part ≡ p)) ⊎ (get_or ps i none ≡ some p)
    found i p h = by_place (eqb i (a.number - 1)) refl
      where
        by_place : (t : Bool) → eqb i (a.number - 1) ≡ t → ((i ≡ a.number - 1) × (a.part ≡ p)) ⊎ (get_or ps i none ≡ some p)
        by_place true e =
            let is = eqb-true i (a.number - 1) e in
            let q : some a.part ≡ some p = sym there ∙ rw is at h in
            let r : a.part ≡ p = cc in
            inl (is, r)
        by_place false e = inr (sym (elsewhere i (eqb-false i (a.number - 1) e)) ∙ h)

    kept : (i : ℕ) (p : Part) → (get_or ps (a.number - 1) none ≡ none) ⊎ (get_or ps (a.number - 1) none ≡ some a.part) → get_or ps i none ≡ some p → get_or stored i none ≡ some p
    kept i p d h = by_place (eqb i (a.number - 1)) refl d
      where
        by_place : (t : Bool) → eqb i (a.number - 1) ≡ t → (get_or ps (a.number - 1) none ≡ none) ⊎ (get_or ps (a.number - 1) none ≡ some a.part) → get_or stored i none ≡ some p
        by_place true e (inl n) = let is = eqb-true i (a.number - 1) e in some_none (sym (rw is at h) ∙ n)
        by_place true e (inr o) =
            let is = eqb-true i (a.number - 1) e in
            let q : some a.part ≡ some p = sym o ∙ rw is at h in
            rw is (there ∙ q)
        by_place false e d = elsewhere i (eqb-false i (a.number - 1) e) ∙ h

  made_more : (h : Option Message) → GoesWith a h → MadeOf a.key P h → MadeOf a.key Also (some (adding a h))
  unfolding adding
  made_more none g n =
      (length-set (replicate a.key.total none) (a.number - 1) (some a.part) ∙ size, (a, refl, inr refl), each, back)
    where
      ps : List (Option Part)
      ps = replicate a.key.total none

      size : length ps ≡ a.key.total
      size = length-replicate {A = Option Part} a.key.total none

      each : (b : Arrived) → b.key ≡ a.key → Also b → (a.dcs ≡ b.dcs) × (get_or (stored ps size) (b.number - 1) none ≡ some b.part)
      each b e (inl p) = absurd (n b e p)
      each b e (inr q) = rw q (refl, there ps size)

      back : (i : ℕ) (p : Part) → get_or (stored ps size) i none ≡ some p → (b : Arrived) × (b.key ≡ a.key) × Also b × (b.number - 1 ≡ i) × (b.part ≡ p)
      back i p h = by_found (found ps size i p h)
        where
          by_found : ((i ≡ a.number - 1) × (a.part ≡ p)) ⊎ (get_or ps i none ≡ some p) → (b : Arrived) × (b.key ≡ a.key) × Also b × (b.number - 1 ≡ i) × (b.part ≡ p)
          by_found (inl (is, r)) = (a, refl, inr refl, sym is, r)
          by_found (inr q) = some_none (sym q ∙ none_at a.key.total i)
  made_more (some m) (c, d) (size, (w, f, q), each, back) =
      (length-set m.parts (a.number - 1) (some a.part) ∙ size, (w, f, inl q), each_now, back_now)
    where
      each_now : (b : Arrived) → b.key ≡ a.key → Also b → (a.dcs ≡ b.dcs) × (get_or (stored m.parts size) (b.number - 1) none ≡ some b.part)
      each_now b e (inl p) = let (x, y) = each b e p in (sym c ∙ x, kept m.parts size (b.number - 1) b.part d y)
      each_now b e (inr q) = rw q (refl, there m.parts size)

      back_now : (i : ℕ) (p : Part) → get_or (stored m.parts size) i none ≡ some p → (b : Arrived) × (b.key ≡ a.key) × Also b × (b.number - 1 ≡ i) × (b.part ≡ p)
      back_now i p h = by_found (found m.parts size i p h)
        where
          by_found : ((i ≡ a.number - 1) × (a.part ≡ p)) ⊎ (get_or m.parts i none ≡ some p) → (b : Arrived) × (b.key ≡ a.key) × Also b × (b.number - 1 ≡ i) × (b.part ≡ p)
          by_found (inl (is, r)) = (a, refl, inr refl, sym is, r)
          by_found (inr q) = let (b, e, p, n, r) = back i p q in (b, e, inl p, n, r)

-- ---- one call

-- the store stays sound
pub sound_call : (c : Call) (store : List ℕ) → Sound store → Sound (after c store)
sound_call (accept octets o) store s = by_comes (accepting_does octets o store s)
  where
    by_comes : Comes octets store (accepting octets store) → Sound (accepting octets store).1
    by_comes (inl (why, e, r)) = rw r s
    by_comes (inr (a, e, inl (j, t))) = t
    by_comes (inr (a, e, inr t)) = rw t.same s
sound_call (take key n out) store s = (taking_does key n store s out).1
sound_call (drop key n) store s = (dropping_does key n store s).1

pub sound_calls : (cs : List Call) (store : List ℕ) → Sound store → Sound (after_all cs store)
sound_calls [] store s = s
sound_calls (c ∷ cs) store s = sound_calls cs (after c store) (sound_call c store s)

-- a store that only these calls wrote
pub only_sound : (store : List ℕ) → OnlyCalls store → Sound store
only_sound store w = rw w.is (sound_calls w.calls (emptied w.lent).1 (begun_sound w.lent w.room))

-- answers tell whether a part was accepted
pub joined_done : {a : Arrived} {store later : List ℕ} {answer : Said PartAccepted} → Joined a store answer later → IsOk answer
unfolding told
joined_done j = rw j.tells refl

pub turned_not : {a : Arrived} {store later : List ℕ} {answer : Said PartAccepted} → Turned a store answer later → IsOk answer → ⊥
turned_not {a} {store} {later} {answer} t e = by_why t.why
  where
    by_why : ((answer ≡ Err NotAPart) × (GoesWith a (held_of a.key store) → ⊥)) ⊎ ((answer ≡ Err StoreFull) × (held_of a.key store ≡ none) × SixteenOpen store) → ⊥
    by_why (inl (q, g)) = false≢true (rw q at e)
    by_why (inr (q, h, f)) = false≢true (rw q at e)

-- what a call that leaves a message alone does to it: nothing; or it accepts one part of it
module _ (key : Key) (named : Named key) where
  abbrev Untouched : Call → List ℕ → Type 0
  Untouched c store = (held_of key (after c store) ≡ held_of key store) × ((a : Arrived) → a.key ≡ key → Accepts a c store → ⊥)

  pub record Touched (c : Call) (store : List ℕ) (a : Arrived) : Type 0 where
    pub valid : Valid a
    pub own : a.key ≡ key
    pub goes : GoesWith a (held_of a.key store)
    pub now : held_of a.key (after c store) ≡ some (adding a (held_of a.key store))
    pub only : (b : Arrived) → Accepts b c store ↔ (b ≡ a)

  abbrev Effect : Call → List ℕ → Type 0
  Effect c store = Untouched c store ⊎ ((a : Arrived) × Touched c store a)

  left_take : (other : Key) (n : Named other) (out store : List ℕ) → Sound store → Leaves key (take other n out) store → held_of key (taking other store out).1 ≡ held_of key store
  left_take other n out store s l = by_key (same_or_not other key)
    where
      by_key : (other ≡ key) ⊎ (other ≡ key → ⊥) → held_of key (taking other store out).1 ≡ held_of key store
      by_key (inl same) = ap (held_of key) ((taking_does other n store s out).0.unchanged (l same)).0
      by_key (inr ne) = (taking_does other n store s out).0.others key named (λ q. ne (sym q))

  left_drop : (other : Key) (n : Named other) (store : List ℕ) → Sound store → Leaves key (drop other n) store → held_of key (dropping other store).1 ≡ held_of key store
  left_drop other n store s l = by_key (same_or_not other key)
    where
      does : Dropped other store (dropping other store).0 (dropping other store).1
      does = (dropping_does other n store s).0

      by_held : other ≡ key → (h : Option Message) → held_of other store ≡ h → (dropping other store).0 ≡ Ok (dropped_of h) → held_of key (dropping other store).1 ≡ held_of key store
      by_held same none e says = ap (held_of key) (does.unchanged e)
      by_held same (some m) e says = absurd (l same says)

      by_key : (other ≡ key) ⊎ (other ≡ key → ⊥) → held_of key (dropping other store).1 ≡ held_of key store
      by_key (inl same) = by_held same (held_of other store) refl does.says
      by_key (inr ne) = does.others key named (λ q. ne (sym q))

  one_arrival : {x : Said Arrived} {a b : Arrived} → x ≡ Ok a → x ≡ Ok b → b ≡ a
  one_arrival p q = given (sym q ∙ p)

  effect : (c : Call) (store : List ℕ) → Sound store → Leaves key c store → Effect c store
  effect (accept octets o) store s l = by_comes (accepting_does octets o store s)
    where
      by_comes : Comes octets store (accepting octets store) → Effect (accept octets o) store
      by_comes (inl (why, e, r)) = inl (ap (λ (x : Said PartAccepted × List ℕ). held_of key x.1) r, λ a k q. false≢true (rw r at q.1))
      by_comes (inr (a, e, inr t)) = inl (ap (held_of key) t.same, λ b k q. turned_not t q.1)
      by_comes (inr (a, e, inl (j, t))) = by_key (same_or_not a.key key)
        where
          only : (b : Arrived) → Accepts b (accept octets o) store ↔ (b ≡ a)
          only b = (λ q. one_arrival e q.0, λ q. (e ∙ ap Ok (sym q), joined_done j))

          by_key : (a.key ≡ key) ⊎ (a.key ≡ key → ⊥) → Effect (accept octets o) store
          by_key (inl same) = inr (a, record { valid = valid_arrival octets o a e; own = same; goes = j.goes; now = j.its_message; only = only })
          by_key (inr ne) = inl (j.others key named (λ q. ne (sym q)), λ b k q. ne (ap (λ (x : Arrived). x.key) (sym (one_arrival e q.0)) ∙ k))
  effect (take other n out) store s l = inl (left_take other n out store s l, λ a k q. q)
  effect (drop other n) store s l = inl (left_drop other n store s l, λ a k q. q)

  -- ---- what is held is made of the parts that were accepted

  abbrev With : (Arrived → Type 0) → Call → List ℕ → Arrived → Type 0
  With P c store a = P a ⊎ Accepts a c store

  made_call : (P : Arrived → Type 0) (c : Call) (store : List ℕ) → Effect c store → MadeOf key P (held_of key store) → MadeOf key (With P c store) (held_of key (after c store))
  made_call P c store (inl (e, none_of)) m = rw e (made_alike key P (With P c store) (λ a k. (λ p. inl p, by_with a k)) (held_of key store) m)
    where
      by_with : (a : Arrived) → a.key ≡ key → With P c store a → P a
      by_with a k (inl p) = p
      by_with a k (inr q) = absurd (none_of a k q)
  made_call P c store (inr (a, t)) m =
      let own : MadeOf a.key P (held_of a.key store) = subst (λ (k : Key). MadeOf k P (held_of k store)) (sym t.own) m in
      let more : MadeOf a.key (Also P a t.valid) (held_of a.key (after c store)) = rw t.now (made_more P a t.valid (held_of a.key store) t.goes own) in
      let as_with : MadeOf a.key (With P c store) (held_of a.key (after c store)) = made_alike a.key (Also P a t.valid) (With P c store) (λ b k. (to b, from b)) (held_of a.key (after c store)) more in
      subst (λ (k : Key). MadeOf k (With P c store) (held_of k (after c store))) t.own as_with
    where
      to : (b : Arrived) → Also P a t.valid b → With P c store b
      to b (inl p) = inl p
      to b (inr q) = inr ((t.only b).1 q)

      from : (b : Arrived) → With P c store b → Also P a t.valid b
      from b (inl p) = inl p
      from b (inr q) = inr ((t.only b).0 q)

  made_calls : (P : Arrived → Type 0) (cs : List Call) (store : List ℕ) → Sound store → LeaveAll key cs store → MadeOf key P (held_of key store)
      → MadeOf key (λ a. P a ⊎ Accepted a cs store) (held_of key (after_all cs store))
  made_calls P [] store s l m = made_alike key P _ (λ a k. (λ p. inl p, from a)) (held_of key store) m
    where
      from : (a : Arrived) → P a ⊎ ⊥ → P a
      from a (inl p) = p
      from a (inr q) = absurd q
  made_calls P (c ∷ cs) store s (l, ls) m =
      made_alike key _ _ (λ a k. (to a, from a)) (held_of key (after_all cs (after c store))) (made_calls (With P c store) cs (after c store) (sound_call c store s) ls (made_call P c store (effect c store s l) m))
    where
      to : (a : Arrived) → (P a ⊎ Accepts a c store) ⊎ Accepted a cs (after c store) → P a ⊎ (Accepts a c store ⊎ Accepted a cs (after c store))
      to a (inl (inl p)) = inl p
      to a (inl (inr q)) = inr (inl q)
      to a (inr r) = inr (inr r)

      from : (a : Arrived) → P a ⊎ (Accepts a c store ⊎ Accepted a cs (after c store)) → (P a ⊎ Accepts a c store) ⊎ Accepted a cs (after c store)
      from a (inl p) = inl (inl p)
      from a (inr (inl q)) = inl (inr q)
      from a (inr (inr r)) = inr r

  -- of a message that was not open, of those that were accepted since
  pub made_of_accepted : (cs : List Call) (store : List ℕ) → Sound store → held_of key store ≡ none → LeaveAll key cs store → MadeOf key (λ a. Accepted a cs store) (held_of key (after_all cs store))
  made_of_accepted cs store s e l =
      let start : MadeOf key (λ a. ⊥) (held_of key store) = rw e (λ a k q. q) in
      made_alike key _ _ (λ a k. (from a, λ q. inr q)) (held_of key (after_all cs store)) (made_calls (λ a. ⊥) cs store s l start)
    where
      from : (a : Arrived) → ⊥ ⊎ Accepted a cs store → Accepted a cs store
      from a (inl p) = absurd p
      from a (inr q) = q

-- ---- what is kept of a message

keeps_refl : (h : Option Message) → Keeps h h
keeps_refl none = tt
keeps_refl (some m) = (refl, λ i p e. e)

keeps_trans : (h g f : Option Message) → Keeps h g → Keeps g f → Keeps h f
keeps_trans none g f a b = tt
keeps_trans (some m) none f a b = absurd a
keeps_trans (some m) (some n) none a b = absurd b
keeps_trans (some m) (some n) (some o) (c, a) (d, b) = (c ∙ d, λ i p e. b i p (a i p e))

pub held_size : (key : Key) (store : List ℕ) (m : Message) → held_of key store ≡ some m → length m.parts ≡ key.total
unfolding held_of message_in
held_size key store m e = by_slot (eqb (slot_of key store) 16) e
  where
    by_slot : (t : Bool) → (if t then none else some (message_in key.total (slot_at (slot_of key store) store))) ≡ some m → length m.parts ≡ key.total
    by_slot true e = some_none (sym e)
    by_slot false e =
        let is : message_in key.total (slot_at (slot_of key store) store) ≡ m = cc in
        sym (ap (λ (n : Message). length n.parts) is) ∙ length_holdings 1 key.total (slot_at (slot_of key store) store)

keeps_adding : (a : Arrived) → Valid a → (store : List ℕ) → GoesWith a (held_of a.key store) → Keeps (held_of a.key store) (some (adding a (held_of a.key store)))
unfolding adding
keeps_adding a v store g = by_held (held_of a.key store) refl g
  where
    by_held : (h : Option Message) → held_of a.key store ≡ h → GoesWith a h → Keeps h (some (adding a h))
    by_held none e g = tt
    by_held (some m) e (c, d) = (c, λ i p q. kept (λ b. ⊥) a v m.parts (held_size a.key store m e) i p d q)

module _ (key : Key) (named : Named key) where
  keeps_call : (c : Call) (store : List ℕ) → Effect key named c store → Keeps (held_of key store) (held_of key (after c store))
  keeps_call c store (inl (e, none_of)) = rw e (keeps_refl (held_of key store))
  keeps_call c store (inr (a, t)) = subst (λ (k : Key). Keeps (held_of k store) (held_of k (after c store))) t.own (rw t.now (keeps_adding a t.valid store t.goes))

  pub keeps_calls : (cs : List Call) (store : List ℕ) → Sound store → LeaveAll key cs store → Keeps (held_of key store) (held_of key (after_all cs store))
  keeps_calls [] store s l = keeps_refl (held_of key store)
  keeps_calls (c ∷ cs) store s (l, ls) =
      keeps_trans (held_of key store) (held_of key (after c store)) (held_of key (after_all cs (after c store))) (keeps_call c store (effect key named c store s l)) (keeps_calls cs (after c store) (sound_call c store s) ls)
