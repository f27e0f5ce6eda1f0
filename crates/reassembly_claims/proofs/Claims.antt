-- The theorems of document 02's Ask 6, for a store that began empty and that only the calls wrote.
-- Assumes nothing.
use Prim.Native.Nat.{ℕ, zero, suc, ◌+◌, ◌-◌, ◌*◌, ◌≤◌, ◌<◌}
use mathlib.Core.Path.{◌≡◌, refl, sym, ap, ◌∙◌, subst}
use mathlib.Core.Bool.{Bool, true, false}
use mathlib.Core.List.{List, [], ◌∷◌, ◌++◌}
use mathlib.Core.Logic.{◌⊎◌, inl, inr, ◌↔◌}
use mathlib.Core.Option.{Option, none, some}
use native.Mathlib.Omega.{arith}
use borrow.Author.Tests.{ltb-true, ltb-false}
use lib.Dec.{ltb}
use lib.ListN.{length, get_or, take, drop, length-take}
use lib.Seq.{get_or-take, get_or-drop}
use Rattle.octets.specs.Answers.{Said}
use Rattle.std.specs.Prelude.{if◌then◌else◌, Ok, Err, IsOk}
use Rattle.octets.specs.Each.{Octets}
use Rattle.octets.specs.declared.Refusal.{Refusal}
use Rattle.octets.specs.declared.Refusal.TheVariants.{StoreFull, NotAPart}
use Rattle.octets.proofs.Checks.{never}
use Rattle.octets.proofs.Places.{given}
use Rattle.coding.specs.Coding.{coding_of, data_octets}
use Rattle.coding.proofs.Laws.{data_at_most}
use Rattle.address.specs.declared.SMSAddress.{SMSAddress}
use Rattle.part_number.specs.declared.Reference.{Reference}
use Rattle.message_store.specs.Part.{Key, Named, Part, Arrived, key_of, shown_in}
use Rattle.message_store.specs.Store.{is_held, coding_in, part_at, block, key_octets, part_of, holding, holdings, slot_at, slot_of, Message, message_in, missing_from, missing_of, held_of}
use Rattle.reassembly.specs.declared.MessageTaken.{MessageTaken}
use Rattle.octets.specs.Held.{holding as array_holding}
use Rattle.part_number.specs.Numbering.{numbered}
use Rattle.reassembly.specs.declared.PartAccepted.{PartAccepted}
use Rattle.reassembly.specs.Calls.{told, accepting, finding_by, taking, taking_by, dropping}
use Rattle.message_store.proofs.Shown.{length_holdings, shown_short}
use Rattle.message_store.proofs.Slots.{slot_bounds, found_has}
use Rattle.reassembly.proofs.Taking.{total_few, found_is}
use Rattle.reassembly_claims.specs.Claims.{Call, accept, after, after_all, OnlyCalls, arrival_in, Accepts, Accepted, LeaveAll, adding, GoesWith, SixteenOpen, Joined, Turned, taken_of, left_by, Took, Dropped, Keeps, Among}
use Rattle.reassembly_claims.proofs.Slot.{belongs_open, belongs_one, holding_at}
use Rattle.reassembly_claims.proofs.Held.{Sound}
use Rattle.reassembly_claims.proofs.Pigeonhole.{Shared, pigeonhole}
use Rattle.reassembly_claims.proofs.Step.{some_none, none_at, slot_inside, slot_belongs, held_slot}
use Rattle.reassembly_claims.proofs.Calls.{valid_arrival, Comes, accepting_does, taking_does, dropping_does}
use Rattle.reassembly_claims.proofs.Made.{MadeOf, determined, made_of_accepted, sound_calls, only_sound, turned_not, keeps_calls}
use Rattle.reassembly_claims.proofs.Sizes.{shown_few, small_shown, whole_is}

-- ---- a part comes

abbrev pub Becomes : Arrived → List ℕ → Said PartAccepted × List ℕ → Type 0
Becomes a store r = Joined a store r.0 r.1 ⊎ Turned a store r.0 r.1

module _ (store : List ℕ) (w : OnlyCalls store) (octets : List ℕ) (o : Octets octets) where
  by_comes : {a : Arrived} → arrival_in octets ≡ Ok a → Comes octets store (accepting octets store) → Becomes a store (accepting octets store)
  by_comes is (inl (why, e, r)) = absurd (never (sym is ∙ e))
  by_comes {a} is (inr (b, e, inl (j, t))) = subst (λ (x : Arrived). Becomes x store (accepting octets store)) (given (sym e ∙ is)) (inl j)
  by_comes {a} is (inr (b, e, inr t)) = subst (λ (x : Arrived). Becomes x store (accepting octets store)) (given (sym e ∙ is)) (inr t)

  -- octets that are a part: it is accepted or turned down
  pub becomes : (a : Arrived) → arrival_in octets ≡ Ok a → Becomes a store (accepting octets store)
  becomes a is = by_comes is (accepting_does octets o store (only_sound store w))

  -- octets that are none, by the reader, 17, 18, 24 or 28: nothing changes
  pub no_part : (why : Refusal) → arrival_in octets ≡ Err why → accepting octets store ≡ (Err why, store)
  no_part why is = by_refused (accepting_does octets o store (only_sound store w))
    where
      by_refused : Comes octets store (accepting octets store) → accepting octets store ≡ (Err why, store)
      by_refused (inl (v, e, r)) = let same : v ≡ why = refusal (sym e ∙ is) in r ∙ rw same
        where
          refusal : {x y : Refusal} → ◌≡◌ {A = Said Arrived} (Err x) (Err y) → x ≡ y
          refusal q = cc
      by_refused (inr (a, e, r)) = absurd (never (sym e ∙ is))

-- never both, whatever the answers
pub never_both : {a : Arrived} {store later later' : List ℕ} {answer answer' : Said PartAccepted} → Joined a store answer later → Turned a store answer' later' → ⊥
never_both {a} {store} {later} {later'} {answer} {answer'} j t = by_why t.why
  where
    by_why : ((answer' ≡ Err NotAPart) × (GoesWith a (held_of a.key store) → ⊥)) ⊎ ((answer' ≡ Err StoreFull) × (held_of a.key store ≡ none) × SixteenOpen store) → ⊥
    by_why (inl (q, g)) = g j.goes
    by_why (inr (q, h, f)) = j.not_full h f

-- ---- taking and dropping

module _ (store : List ℕ) (w : OnlyCalls store) (key : Key) (named : Named key) where
  pub took : (out : List ℕ) → Took key store out (taking key store out).0 (taking key store out).1 (taking key store out).2
  took out = (taking_does key named store (only_sound store w) out).0

  pub drops : Dropped key store (dropping key store).0 (dropping key store).1
  drops = (dropping_does key named store (only_sound store w)).0

  -- a message stays until it is taken whole or dropped, with every part that it holds
  pub stays : (cs : List Call) → LeaveAll key cs store → Keeps (held_of key store) (held_of key (after_all cs store))
  stays cs l = keeps_calls key named cs store (only_sound store w) l

-- ---- the order of parts

-- where the same distinct parts, and no others, of a message not yet open are accepted in two orders, with no taking or dropping of it between, what is held of it is the same; whatever other calls come between, and in whatever stores
module _ (key : Key) (named : Named key) (store₁ store₂ : List ℕ) (w₁ : OnlyCalls store₁) (w₂ : OnlyCalls store₂) (new₁ : held_of key store₁ ≡ none) (new₂ : held_of key store₂ ≡ none)
    (cs₁ cs₂ : List Call) (left₁ : LeaveAll key cs₁ store₁) (left₂ : LeaveAll key cs₂ store₂) (same_parts : (a : Arrived) → a.key ≡ key → Accepted a cs₁ store₁ ↔ Accepted a cs₂ store₂) where
  pub same_held : held_of key (after_all cs₁ store₁) ≡ held_of key (after_all cs₂ store₂)
  same_held = determined key _ _ same_parts _ _ (made_of_accepted key named cs₁ store₁ (only_sound store₁ w₁) new₁ left₁) (made_of_accepted key named cs₂ store₂ (only_sound store₂ w₂) new₂ left₂)

  -- and so is the message taken: answer and lent output
  pub same_taken : (out : List ℕ)
      → ◌≡◌ {A = Said MessageTaken × List ℕ} ((taking key (after_all cs₁ store₁) out).0, (taking key (after_all cs₁ store₁) out).2) ((taking key (after_all cs₂ store₂) out).0, (taking key (after_all cs₂ store₂) out).2)
  same_taken out =
      let one = (taking_does key named (after_all cs₁ store₁) (sound_calls cs₁ store₁ (only_sound store₁ w₁)) out).0.answers in
      let two = (taking_does key named (after_all cs₂ store₂) (sound_calls cs₂ store₂ (only_sound store₂ w₂)) out).0.answers in
      one ∙ ap (λ (h : Option Message). taken_of h out) same_held ∙ sym two

-- ---- which numbers are missing

missing_is : (k : ℕ) (ps : List (Option Part)) (n : ℕ) → Among n (missing_from k ps) → (k ≤ n) × (n < k + length ps) × (get_or ps (n - k) none ≡ none)
unfolding missing_from
missing_is k [] n e = absurd e
missing_is k (none ∷ ps) n (inl e) = let z : n - k ≡ 0 = omega arith in (omega arith, omega arith, rw z)
missing_is k (none ∷ ps) n (inr e) = let (a, b, c) = missing_is (suc k) ps n e in let z : n - k ≡ suc (n - suc k) = omega arith in (omega arith, omega arith, rw z c)
missing_is k (some p ∷ ps) n e = let (a, b, c) = missing_is (suc k) ps n e in let z : n - k ≡ suc (n - suc k) = omega arith in (omega arith, omega arith, rw z c)

is_missing : (k : ℕ) (ps : List (Option Part)) (i : ℕ) → i < length ps → get_or ps i none ≡ none → Among (k + i) (missing_from k ps)
unfolding missing_from
is_missing k [] i h e = absurd (omega arith)
is_missing k (none ∷ ps) zero h e = inl (omega arith)
is_missing k (none ∷ ps) (suc i) h e = let z : suc k + i ≡ k + suc i = omega arith in inr (subst (λ (n : ℕ). Among n (missing_from (suc k) ps)) z (is_missing (suc k) ps i (omega arith) e))
is_missing k (some p ∷ ps) zero h e = some_none e
is_missing k (some p ∷ ps) (suc i) h e = let z : k + suc i ≡ suc k + i = omega arith in rw z (is_missing (suc k) ps i (omega arith) e)

-- calls, and one more
after_one_more : (cs : List Call) (c : Call) (store : List ℕ) → after_all (cs ++ c ∷ []) store ≡ after c (after_all cs store)
after_one_more [] c store = refl
after_one_more (d ∷ cs) c store = after_one_more cs c (after d store)

leave_one_more : (key : Key) (cs : List Call) (octets : List ℕ) (o : Octets octets) (store : List ℕ) → LeaveAll key cs store → LeaveAll key (cs ++ accept octets o ∷ []) store
leave_one_more key [] octets o store l = (tt, tt)
leave_one_more key (d ∷ cs) octets o store (l, ls) = (l, leave_one_more key cs octets o (after d store) ls)

-- a part that was accepted has a number from 1 on
accepted_number_lem : (a : Arrived) (cs : List Call) (store : List ℕ) → Accepted a cs store → 1 ≤ a.number
accepted_number_lem a [] store q = absurd q
accepted_number_lem a (c ∷ cs) store (inr q) = accepted_number_lem a cs (after c store) q
accepted_number_lem a (c ∷ cs) store (inl q) = by_call c q
  where
    by_call : (c : Call) → Accepts a c store → 1 ≤ a.number
    by_call (accept octets o) (e, f) = (valid_arrival octets o a e).number_low
    by_call (Call.take key n out) q = absurd q
    by_call (Call.drop key n) q = absurd q

-- of a message that was not open, after any calls that don't take it whole or drop it: a part is accepted, and the numbers told are those from 1 to the total of which no part was accepted since
module _ (key : Key) (named : Named key) (store : List ℕ) (w : OnlyCalls store) (new : held_of key store ≡ none) (cs : List Call) (left : LeaveAll key cs store)
    (octets : List ℕ) (o : Octets octets) (a : Arrived) (is : arrival_in octets ≡ Ok a) (own : a.key ≡ key) (accepted : IsOk (accepting octets (after_all cs store)).0) where
  abbrev later : List ℕ
  later = after_all cs store

  abbrev all : List Call
  all = cs ++ accept octets o ∷ []

  -- no part with the number was accepted since
  abbrev pub Never : ℕ → Type 0
  Never n = (b : Arrived) → b.key ≡ key → b.number ≡ n → Accepted b all store → ⊥

  joins : Joined a later (accepting octets later).0 (accepting octets later).1
  joins = by_comes (accepting_does octets o later (sound_calls cs store (only_sound store w)))
    where
      by_comes : Comes octets later (accepting octets later) → Joined a later (accepting octets later).0 (accepting octets later).1
      by_comes (inl (why, e, r)) = absurd (never (sym is ∙ e))
      by_comes (inr (b, e, inl (j, t))) = subst (λ (x : Arrived). Joined x later (accepting octets later).0 (accepting octets later).1) (given (sym e ∙ is)) j
      by_comes (inr (b, e, inr t)) = absurd (turned_not t accepted)

  abbrev m : Message
  m = adding a (held_of a.key later)

  made : MadeOf key (λ b. Accepted b all store) (some m)
  made =
      let now : held_of key (after_all all store) ≡ some m = ap (held_of key) (after_one_more cs (accept octets o) store) ∙ ap (λ (k : Key). held_of k (accepting octets later).1) (sym own) ∙ joins.its_message in
      subst (MadeOf key (λ b. Accepted b all store)) now (made_of_accepted key named all store (only_sound store w) new (leave_one_more key cs octets o store left))

  missing_when : (n : ℕ) → Among n (missing_of m) ↔ ((1 ≤ n) × (n ≤ key.total) × Never n)
  missing_when n = (told_so made.0 made.2, so_told made.0 made.3)
    where
      told_so : length m.parts ≡ key.total
          → ((b : Arrived) → b.key ≡ key → Accepted b all store → (m.dcs ≡ b.dcs) × (get_or m.parts (b.number - 1) none ≡ some b.part)) → Among n (missing_of m) → (1 ≤ n) × (n ≤ key.total) × Never n
      told_so size each q =
          let (low, high, gone) = missing_is 1 m.parts n q in
          (low, omega arith, λ b k e p. some_none (sym (each b k p).1 ∙ rw (← e) at gone))

      so_told : length m.parts ≡ key.total
          → ((i : ℕ) (p : Part) → get_or m.parts i none ≡ some p → (b : Arrived) × (b.key ≡ key) × Accepted b all store × (b.number - 1 ≡ i) × (b.part ≡ p)) → (1 ≤ n) × (n ≤ key.total) × Never n → Among n (missing_of m)
      so_told size back (low, high, nobody) = by_part (get_or m.parts (n - 1) none) refl
        where
          by_part : (x : Option Part) → get_or m.parts (n - 1) none ≡ x → Among n (missing_of m)
          by_part none e = let z : 1 + (n - 1) ≡ n = omega arith in rw z at (is_missing 1 m.parts (n - 1) (omega arith) e)
          by_part (some p) e =
              let (b, k, q, i, r) = back (n - 1) p e in
              let from_one = accepted_number_lem b all store q in
              absurd (nobody b k (omega arith) q)

  pub missing_told : (missing : List ℕ)
      × ◌≡◌ {A = Said PartAccepted} (accepting octets later).0 (Ok (record { part = numbered key.reference key.total a.number; missing = array_holding 8 missing }))
      × ((n : ℕ) → Among n missing ↔ ((1 ≤ n) × (n ≤ key.total) × Never n))
  unfolding told
  missing_told = (missing_of m, joins.tells ∙ rw own, missing_when)

-- ---- at most 16 messages are open, whatever the store holds: of 17 that are open two are one

pub at_most_sixteen : (store : List ℕ) (message : ℕ → Key) → ((i : ℕ) → i ≤ 16 → held_of (message i) store ≡ none → ⊥) → (i : ℕ) × (j : ℕ) × (i < j) × (j ≤ 16) × (message i ≡ message j)
at_most_sixteen store message opened = by_shared (pigeonhole 16 place (λ i h. slot_inside (message i) store (in_slot_lem i h)))
  where
    place : ℕ → ℕ
    place i = slot_of (message i) store

    in_slot_lem : (i : ℕ) → i ≤ 16 → slot_of (message i) store ≡ 16 → ⊥
    in_slot_lem i h = held_slot store (message i) (opened i h)

    by_shared : Shared place 16 → (i : ℕ) × (j : ℕ) × (i < j) × (j ≤ 16) × (message i ≡ message j)
    by_shared (i, j, l, h, e) =
        (i, j, l, h, belongs_one (slot_at (slot_of (message j) store) store) (message i) (message j) (rw e at (slot_belongs (message i) store (in_slot_lem i (omega arith)))) (slot_belongs (message j) store (in_slot_lem j h)))

-- ---- a late copy after taking is a new part

-- a message that is open can be named
held_named : (store : List ℕ) → Sound store → (key : Key) → (held_of key store ≡ none → ⊥) → Named key
held_named store s key ne =
    let k = slot_of key store in
    let inside = slot_inside key store (held_slot store key ne) in
    let its = slot_belongs key store (held_slot store key ne) in
    let (owner, named, b) = s.owned k inside (belongs_open key (slot_at k store) its).0 in
    subst Named (belongs_one (slot_at k store) owner key b its) named

module _ (store : List ℕ) (w : OnlyCalls store) (key : Key) (named : Named key) (out : List ℕ) (dcs n : ℕ) (gone : (taking key store out).0 ≡ Ok (MessageTaken.Whole dcs n)) where
  abbrev then_store : List ℕ
  then_store = (taking key store out).1

  -- nothing is held of it
  pub taken_gone : held_of key then_store ≡ none
  taken_gone = (took store w key named out).its_message ∙ ap (λ (x : Said MessageTaken). left_by x (held_of key store)) gone

  -- it was open
  was_held : held_of key store ≡ none → ⊥
  unfolding taken_of
  was_held e = let q : Ok (MessageTaken.Whole dcs n) ≡ Ok MessageTaken.NotOpen = sym gone ∙ ap (λ (x : Said MessageTaken × List ℕ). x.0) ((took store w key named out).answers ∙ ap (λ (h : Option Message). taken_of h out) e) in let z : ◌≡◌ {A = ℕ} 0 1 = cc in omega arith

  -- and 16 others were not
  not_full : SixteenOpen then_store → ⊥
  not_full all = by_shared (at_most_sixteen store message opened)
    where
      message_if : ℕ → Bool → Key
      message_if i t = if t then all.message i else key

      message : ℕ → Key
      message i = message_if i (ltb i 16)

      sound_then : Sound then_store
      sound_then = (taking_does key named store (only_sound store w) out).1

      not_key : (i : ℕ) → i < 16 → all.message i ≡ key → ⊥
      not_key i h e = all.opened i h (ap (λ (k : Key). held_of k then_store) e ∙ taken_gone)

      opened : (i : ℕ) → i ≤ 16 → held_of (message i) store ≡ none → ⊥
      opened i h = by_test (ltb i 16) refl
        where
          by_test : (t : Bool) → ltb i 16 ≡ t → held_of (message_if i t) store ≡ none → ⊥
          by_test true e q =
              let l = ltb-true i 16 e in
              all.opened i l ((took store w key named out).others (all.message i) (held_named then_store sound_then (all.message i) (all.opened i l)) (not_key i l) ∙ q)
          by_test false e q = was_held q

      by_shared : (i : ℕ) × (j : ℕ) × (i < j) × (j ≤ 16) × (message i ≡ message j) → ⊥
      by_shared (i, j, l, h, e) = by_test (ltb i 16) refl (ltb j 16) refl e
        where
          by_test : (t : Bool) → ltb i 16 ≡ t → (u : Bool) → ltb j 16 ≡ u → message_if i t ≡ message_if j u → ⊥
          by_test true p true q e = let z = all.different i j (ltb-true i 16 p) (ltb-true j 16 q) e in omega arith
          by_test true p false q e = not_key i (ltb-true i 16 p) e
          by_test false p u q e = let z = ltb-false i 16 p in omega arith

  -- so a part of it, also one that it held, is accepted as the first of a new message
  pub late_copy : (octets : List ℕ) → Octets octets → (a : Arrived) → arrival_in octets ≡ Ok a → a.key ≡ key → Joined a then_store (accepting octets then_store).0 (accepting octets then_store).1
  late_copy octets o a is own = by_comes (accepting_does octets o then_store (taking_does key named store (only_sound store w) out).1)
    where
      free : held_of a.key then_store ≡ none
      free = ap (λ (k : Key). held_of k then_store) own ∙ taken_gone

      goes : GoesWith a (held_of a.key then_store)
      goes = subst (GoesWith a) (sym free) (tt, inl (none_at a.key.total (a.number - 1)))

      not_turned : {answer : Said PartAccepted} {late : List ℕ} → Turned a then_store answer late → ⊥
      not_turned {answer} {late} t = by_why t.why
        where
          by_why : ((answer ≡ Err NotAPart) × (GoesWith a (held_of a.key then_store) → ⊥)) ⊎ ((answer ≡ Err StoreFull) × (held_of a.key then_store ≡ none) × SixteenOpen then_store) → ⊥
          by_why (inl (q, g)) = g goes
          by_why (inr (q, h, f)) = not_full f

      by_comes : Comes octets then_store (accepting octets then_store) → Joined a then_store (accepting octets then_store).0 (accepting octets then_store).1
      by_comes (inl (why, e, r)) = absurd (never (sym is ∙ e))
      by_comes (inr (b, e, x)) = by_becomes (subst (λ (c : Arrived). (Joined c then_store (accepting octets then_store).0 (accepting octets then_store).1 × Sound (accepting octets then_store).1) ⊎ Turned c then_store (accepting octets then_store).0 (accepting octets then_store).1) (given (sym e ∙ is)) x)
        where
          by_becomes : (Joined a then_store (accepting octets then_store).0 (accepting octets then_store).1 × Sound (accepting octets then_store).1) ⊎ Turned a then_store (accepting octets then_store).0 (accepting octets then_store).1 → Joined a then_store (accepting octets then_store).0 (accepting octets then_store).1
          by_becomes (inl (j, t)) = j
          by_becomes (inr t) = absurd (not_turned t)

-- ---- how many octets a message has that is taken

get_d_past : (ps : List (Option Part)) (i : ℕ) → length ps ≤ i → get_or ps i none ≡ none
get_d_past [] i h = refl
get_d_past (p ∷ ps) zero h = absurd (omega arith)
get_d_past (p ∷ ps) (suc i) h = get_d_past ps i (omega arith)

-- a part's UDL is an octet of the store
holding_few : (store : List ℕ) → Octets store → (k n : ℕ) → n ≤ 8 → (p : Part) → holding n (slot_at k store) ≡ some p → (p.udl ≤ 255) × (length p.octets ≤ 255)
unfolding holding part_of
holding_few store o k n h p e = by_test (is_held n slot) e
  where
    slot : List ℕ
    slot = slot_at k store

    udl : ℕ
    udl = get_or (block n slot) 0 0

    udl_octet : udl < 256
    udl_octet =
        let is : udl ≡ get_or store (k * 2356 + (part_at n + 0)) 0 =
        get_or-take 256 (drop (part_at n) slot) 0 0 (omega arith) ∙ get_or-drop (part_at n) slot 0 0 ∙ get_or-take 2356 (drop (k * 2356) store) (part_at n + 0) 0 (omega arith) ∙ get_or-drop (k * 2356) store (part_at n + 0) 0 in
        rw is (o (k * 2356 + (part_at n + 0)))

    by_test : (t : Bool) → (if t then some (part_of (coding_in slot) (block n slot)) else none) ≡ some p → (p.udl ≤ 255) × (length p.octets ≤ 255)
    by_test true q =
        let is : part_of (coding_in slot) (block n slot) ≡ p = cc in
        let small : udl ≤ 255 = omega (arith, udl_octet) in
        let short : length (take (data_octets (coding_of (coding_in slot)) udl) (drop 1 (block n slot))) ≤ 255 = omega (arith, length-take (data_octets (coding_of (coding_in slot)) udl) (drop 1 (block n slot)), data_at_most (coding_of (coding_in slot)) udl, small) in
        rw (← is) (small, short)
    by_test false q = some_none (sym q)

module _ (a : SMSAddress) (r : Reference) (t : ℕ) (store out : List ℕ) (dcs n : ℕ) (taken : (taking_by a r t store out).0 ≡ Ok (MessageTaken.Whole dcs n)) where
  -- at most b of each part, and at most 8 parts
  taken_few : (b : ℕ) → ((k : ℕ) → k < 16 → Ok k ≡ finding_by a r t store → (i : ℕ) → i < 8 → (p : Part) → holding (1 + i) (slot_at k store) ≡ some p → length (shown_in (coding_of (coding_in (slot_at k store))) p) ≤ b)
      → (m : ℕ) × (m ≤ 8) × (n ≤ m * b)
  unfolding taking_by message_in
  taken_few b each =
      let (k, found, ne, size) = whole_is (finding_by a r t store) t store out dcs n taken in
      let slot = slot_at k store in
      let below : k < 16 = (let few = slot_bounds (key_octets (key_of a r t)) store in omega (arith, (found_is a r t store k found).1)) in
      let parts = total_few a r t store k found below in
      let all = shown_few (coding_in slot) b (holdings 1 t slot) (λ i p e. by_place k below found parts i p e (ltb i t) refl) in
      (length (holdings 1 t slot), omega (arith, length_holdings 1 t slot, parts), subst (λ (x : ℕ). x ≤ length (holdings 1 t slot) * b) (sym size) all)
    where
      by_place : (k : ℕ) → k < 16 → Ok k ≡ finding_by a r t store → t ≤ 8 → (i : ℕ) (p : Part) → get_or (holdings 1 t (slot_at k store)) i none ≡ some p → (u : Bool) → ltb i t ≡ u → length (shown_in (coding_of (coding_in (slot_at k store))) p) ≤ b
      by_place k below found parts i p e true q = let h = ltb-true i t q in each k below found i (omega arith) p (sym (holding_at 1 t (slot_at k store) i h) ∙ e)
      by_place k below found parts i p e false q = let h = ltb-false i t q in some_none (sym e ∙ get_d_past (holdings 1 t (slot_at k store)) i (rw length_holdings h))

  -- 3,968, from a store that only the calls wrote
  pub taken_at_most : OnlyCalls store → n ≤ 3968
  taken_at_most w =
      let (m, few, h) = taken_few 496 (λ k below found i h p e. small_shown (coding_of (coding_in (slot_at k store))) p ((only_sound store w).small k below (belongs_open (key_of a r t) (slot_at k store) (found_has (key_octets (key_of a r t)) store k (found_is a r t store k found).1 below)).0 (1 + i) (omega arith) (omega arith) p e)) in
      omega arith

  -- 4,080, whatever the store holds
  pub ever_at_most : Octets store → n ≤ 4080
  ever_at_most o =
      let (m, few, h) = taken_few 510 (λ k below found i h p e. let (u, l) = holding_few store o k (1 + i) (omega arith) p e in shown_short (coding_of (coding_in (slot_at k store))) p u l) in
      omega arith
