-- The one order of header elements: rising, none lost or added, equal identifiers in the order given; the only list that is so.
-- Assumes nothing.
use Prim.Native.Nat.{ℕ, zero, suc, ◌+◌, ◌≤◌, ◌<◌}
use mathlib.Core.Path.{◌≡◌, refl, sym, ap, ◌∙◌, subst}
use mathlib.Core.Bool.{Bool, true, false}
use mathlib.Core.List.{List, [], ◌∷◌, ◌++◌, append-nil, append_assoc}
use mathlib.Core.Logic.{◌↔◌}
use native.Mathlib.Omega.{arith}
use borrow.Author.Tests.{eqb-true, eqb-false, eq-eqb, ne_eqb, ltb-true, ltb-false, lt-ltb, le-ltb}
use lib.Dec.{eqb, ltb}
use lib.ListN.{length, length-append}
use Rattle.std.specs.Prelude.{if◌then◌else◌}
use Rattle.header_elements.specs.Elements.{Element, joined}
use Rattle.header_elements.specs.Order.{having, below, ordered, Rising}

-- every identifier is below n
abbrev pub Below : ℕ → List Element → Type 0
Below n [] = Unit
Below n (e ∷ es) = (e.identifier < n) × Below n es

-- every identifier is at least n
abbrev AtLeast : ℕ → List Element → Type 0
AtLeast n [] = Unit
AtLeast n (e ∷ es) = (n ≤ e.identifier) × AtLeast n es

-- ---- those with an identifier

-- one more element: it has the identifier or not
module _ (i : ℕ) (e : Element) (es : List Element) where
  pub having_one : e.identifier ≡ i → having i (e ∷ es) ≡ e ∷ having i es
  unfolding having
  having_one h = rw (eq-eqb e.identifier i h)

  pub having_not : (e.identifier ≡ i → ⊥) → having i (e ∷ es) ≡ having i es
  unfolding having
  having_not h = rw (ne_eqb e.identifier i h)

having_append : (i : ℕ) (xs ys : List Element) → having i (xs ++ ys) ≡ having i xs ++ having i ys
unfolding having
having_append i [] ys = refl
having_append i (x ∷ xs) ys = by_test (having_append i xs ys) (eqb x.identifier i)
  where
    by_test : having i (xs ++ ys) ≡ having i xs ++ having i ys → (t : Bool)
        → (if t then x ∷ having i (xs ++ ys) else having i (xs ++ ys)) ≡ (if t then x ∷ having i xs else having i xs) ++ having i ys
    by_test ih true = rw ih
    by_test ih false = ih

having_all : (n : ℕ) (es : List Element) → AtLeast n (having n es) × Below (suc n) (having n es)
unfolding having
having_all n [] = (tt, tt)
having_all n (e ∷ es) = by_test (having_all n es) (eqb e.identifier n) refl
  where
    by_test : AtLeast n (having n es) × Below (suc n) (having n es) → (t : Bool) → eqb e.identifier n ≡ t
        → AtLeast n (if t then e ∷ having n es else having n es) × Below (suc n) (if t then e ∷ having n es else having n es)
    by_test ih true p = let q = eqb-true e.identifier n p in ((omega arith, ih.0), (omega arith, ih.1))
    by_test ih false p = ih

-- of others there is none
having_above : (i : ℕ) (es : List Element) → AtLeast (suc i) es → having i es ≡ []
unfolding having
having_above i [] a = refl
having_above i (e ∷ es) a = having_not i e es (λ q. omega arith) ∙ having_above i es a.1

having_under : (i : ℕ) (es : List Element) → Below i es → having i es ≡ []
unfolding having
having_under i [] b = refl
having_under i (e ∷ es) b = having_not i e es (λ q. omega arith) ∙ having_under i es b.1

-- the bounds of others
least_more : (n m : ℕ) (es : List Element) → n ≤ m → AtLeast m es → AtLeast n es
least_more n m [] h a = tt
least_more n m (e ∷ es) h a = (omega arith, least_more n m es h a.1)

below_more : (n m : ℕ) (es : List Element) → n ≤ m → Below n es → Below m es
below_more n m [] h b = tt
below_more n m (e ∷ es) h b = (omega arith, below_more n m es h b.1)

below_append : (n : ℕ) (xs ys : List Element) → Below n xs → Below n ys → Below n (xs ++ ys)
below_append n [] ys a b = b
below_append n (x ∷ xs) ys a b = (a.0, below_append n xs ys a.1 b)

having_same : (i : ℕ) (es : List Element) → having i (having i es) ≡ having i es
unfolding having
having_same i [] = refl
having_same i (e ∷ es) = by_test (having_same i es) (eqb e.identifier i) refl
  where
    by_test : having i (having i es) ≡ having i es → (t : Bool) → eqb e.identifier i ≡ t
        → having i (if t then e ∷ having i es else having i es) ≡ (if t then e ∷ having i es else having i es)
    by_test ih true p = rw (p, ih)
    by_test ih false p = ih

-- ---- none lost or added

below_all : (n : ℕ) (es : List Element) → Below n (below n es)
unfolding below
below_all zero es = tt
below_all (suc n) es = below_append (suc n) (below n es) (having n es) (below_more n (suc n) (below n es) (omega arith) (below_all n es)) (having_all n es).1

having_below : (i n : ℕ) (es : List Element) → i < n → having i (below n es) ≡ having i es
unfolding below
having_below i zero es h = absurd (omega arith)
having_below i (suc n) es h = having_append i (below n es) (having n es) ∙ by_test (λ h. having_below i n es h) (eqb i n) refl
  where
    by_test : (i < n → having i (below n es) ≡ having i es) → (t : Bool) → eqb i n ≡ t → having i (below n es) ++ having i (having n es) ≡ having i es
    by_test ih true p = let q = eqb-true i n p in rw (having_under i (below n es) (below_more n i (below n es) (omega arith) (below_all n es)), ← q) (having_same i es)
    by_test ih false p =
        let q = eqb-false i n p in
        rw (ih (omega arith), having_above i (having n es) (least_more (suc i) n (having n es) (omega arith) (having_all n es).0)) (append-nil (having i es))

-- of each identifier the elements are the same list as before
pub none_lost : (es : List Element) → Below 256 es → (i : ℕ) → having i (ordered es) ≡ having i es
none_lost es b i = by_test (ltb i 256) refl
  where
    by_test : (t : Bool) → ltb i 256 ≡ t → having i (ordered es) ≡ having i es
    by_test true p = having_below i 256 es (ltb-true i 256 p)
    by_test false p = let q = ltb-false i 256 p in having_under i (ordered es) (below_more 256 i (ordered es) q (below_all 256 es)) ∙ sym (having_under i es (below_more 256 i es q b))

-- ---- rising

-- identifiers that are all n rise
flat : (n : ℕ) (es : List Element) → AtLeast n es → Below (suc n) es → Rising es
flat n [] a b = tt
flat n (e ∷ []) a b = tt
flat n (e ∷ f ∷ es) a b = (omega arith, flat n (f ∷ es) a.1 b.1)

rising_append : (n : ℕ) (xs ys : List Element) → Rising xs → Below (suc n) xs → Rising ys → AtLeast n ys → Rising (xs ++ ys)
rising_append n [] ys r b q a = q
rising_append n (x ∷ []) [] r b q a = tt
rising_append n (x ∷ []) (y ∷ ys) r b q a = (omega arith, q)
rising_append n (x ∷ z ∷ xs) ys r b q a = (r.0, rising_append n (z ∷ xs) ys r.1 b.1 q a)

rising_below : (n : ℕ) (es : List Element) → Rising (below n es)
unfolding below
rising_below zero es = tt
rising_below (suc n) es =
    let (least, most) = having_all n es in
    rising_append n (below n es) (having n es) (rising_below n es) (below_more n (suc n) (below n es) (omega arith) (below_all n es)) (flat n (having n es) least most) least

pub rising : (es : List Element) → Rising (ordered es)
rising es = rising_below 256 es

-- ---- a list already in that order is left as it is

-- those with identifiers below n, in the order given
lower : ℕ → List Element → List Element
lower n [] = []
lower n (e ∷ es) = if ltb e.identifier n then e ∷ lower n es else lower n es

rising_tail : (e : Element) (es : List Element) → Rising (e ∷ es) → Rising es
rising_tail e [] r = tt
rising_tail e (f ∷ es) r = r.1

rising_least : (e : Element) (es : List Element) → Rising (e ∷ es) → AtLeast e.identifier es
rising_least e [] r = tt
rising_least e (f ∷ es) r = (r.0, least_more e.identifier f.identifier es r.0 (rising_least f es r.1))

lower_none : (n : ℕ) (es : List Element) → AtLeast n es → lower n es ≡ []
unfolding lower
lower_none n [] a = refl
lower_none n (e ∷ es) a = rw (le-ltb e.identifier n a.0) (lower_none n es a.1)

lower_all : (n : ℕ) (es : List Element) → Below n es → lower n es ≡ es
unfolding lower
lower_all n [] b = refl
lower_all n (e ∷ es) b = rw (lt-ltb e.identifier n b.0, lower_all n es b.1)

all_least : (es : List Element) → AtLeast 0 es
all_least [] = tt
all_least (e ∷ es) = (omega arith, all_least es)

lower_step : (n : ℕ) (es : List Element) → Rising es → lower (suc n) es ≡ lower n es ++ having n es
unfolding lower having
lower_step n [] r = refl
lower_step n (e ∷ es) r = by_test (lower_step n es (rising_tail e es r)) (ltb e.identifier n) refl (eqb e.identifier n) refl
  where
    by_test : lower (suc n) es ≡ lower n es ++ having n es → (t : Bool) → ltb e.identifier n ≡ t → (u : Bool) → eqb e.identifier n ≡ u
        → (if ltb e.identifier (suc n) then e ∷ lower (suc n) es else lower (suc n) es) ≡ (if t then e ∷ lower n es else lower n es) ++ (if u then e ∷ having n es else having n es)
    by_test ih true p true q = let a = ltb-true e.identifier n p in let b = eqb-true e.identifier n q in absurd (omega arith)
    by_test ih true p false q = let a = ltb-true e.identifier n p in rw (lt-ltb e.identifier (suc n) (omega arith), ih)
    by_test ih false p true q =
        let b = eqb-true e.identifier n q in
        let more : lower n es ≡ [] = lower_none n es (rw b at (rising_least e es r)) in
        rw (lt-ltb e.identifier (suc n) (omega arith), ih, more)
    by_test ih false p false q =
        let a = ltb-false e.identifier n p in
        let b = eqb-false e.identifier n q in
        let above : AtLeast (suc n) es = least_more (suc n) e.identifier es (omega arith) (rising_least e es r) in
        rw (le-ltb e.identifier (suc n) (omega arith), lower_none (suc n) es above, lower_none n es (least_more n (suc n) es (omega arith) above), having_above n es above)

below_lower : (n : ℕ) (es : List Element) → Rising es → below n es ≡ lower n es
unfolding below
below_lower zero es r = sym (lower_none 0 es (all_least es))
below_lower (suc n) es r = rw (below_lower n es r) (sym (lower_step n es r))

-- a list stays as it is exactly when it is in that order already
pub already : (es : List Element) → Below 256 es → (ordered es ≡ es) ↔ Rising es
already es b = (λ e. subst Rising e (rising es), λ r. below_lower 256 es r ∙ lower_all 256 es b)

-- ordering twice is ordering once
pub ordered_twice : (es : List Element) → ordered (ordered es) ≡ ordered es
ordered_twice es = (already (ordered es) (below_all 256 es)).1 (rising es)

-- ---- what is rising and has of each identifier the same elements is the list so ordered

below_alike : (n : ℕ) (es fs : List Element) → ((i : ℕ) → having i fs ≡ having i es) → below n fs ≡ below n es
unfolding below
below_alike zero es fs same = refl
below_alike (suc n) es fs same = rw (below_alike n es fs same, same n)

pub only_one : (es fs : List Element) → Below 256 fs → Rising fs → ((i : ℕ) → having i fs ≡ having i es) → fs ≡ ordered es
only_one es fs b r same = sym ((already fs b).1 r) ∙ below_alike 256 es fs same

-- ---- the order takes as many octets, so 25 is the same in either

pub joined_append : (xs ys : List Element) → joined (xs ++ ys) ≡ joined xs ++ joined ys
unfolding joined
joined_append [] ys = refl
joined_append (x ∷ xs) ys = rw (joined_append xs ys, append_assoc x.value (joined xs) (joined ys))

size_joined : (xs ys : List Element) → length (joined (xs ++ ys)) ≡ length (joined xs) + length (joined ys)
size_joined xs ys = ap length (joined_append xs ys) ∙ length-append (joined xs) (joined ys)

-- what an element adds
adds : Bool → Element → ℕ
adds t e = if t then 2 + length e.value else 0

size_having : (n : ℕ) (e : Element) (es : List Element) → length (joined (having n (e ∷ es))) ≡ adds (eqb e.identifier n) e + length (joined (having n es))
unfolding having joined adds
size_having n e es = by_test (eqb e.identifier n)
  where
    by_test : (t : Bool) → length (joined (if t then e ∷ having n es else having n es)) ≡ (if t then 2 + length e.value else 0) + length (joined (having n es))
    by_test true = rw (length-append e.value (joined (having n es))) (omega arith)
    by_test false = omega arith

size_below : (n : ℕ) (e : Element) (es : List Element) → length (joined (below n (e ∷ es))) ≡ adds (ltb e.identifier n) e + length (joined (below n es))
unfolding below joined adds
size_below zero e es = rw (le-ltb e.identifier 0 (omega arith))
size_below (suc n) e es =
    rw (size_joined (below n (e ∷ es)) (having n (e ∷ es)), size_joined (below n es) (having n es), size_below n e es, size_having n e es) (by_tests (ltb e.identifier n) refl (eqb e.identifier n) refl)
  where
    by_tests : (t : Bool) → ltb e.identifier n ≡ t → (u : Bool) → eqb e.identifier n ≡ u
        → adds t e + length (joined (below n es)) + (adds u e + length (joined (having n es))) ≡ adds (ltb e.identifier (suc n)) e + (length (joined (below n es)) + length (joined (having n es)))
    by_tests true p true q = let h = ltb-true e.identifier n p in let k = eqb-true e.identifier n q in absurd (omega arith)
    by_tests true p false q = let h = ltb-true e.identifier n p in rw (lt-ltb e.identifier (suc n) (omega arith)) (omega arith)
    by_tests false p true q = let k = eqb-true e.identifier n q in rw (lt-ltb e.identifier (suc n) (omega arith)) (omega arith)
    by_tests false p false q =
        let h = ltb-false e.identifier n p in
        let k = eqb-false e.identifier n q in
        rw (le-ltb e.identifier (suc n) (omega arith)) (omega arith)

below_nil : (n : ℕ) → below n [] ≡ []
unfolding below having
below_nil zero = refl
below_nil (suc n) = rw (below_nil n)

pub same_size : (es : List Element) → Below 256 es → length (joined (ordered es)) ≡ length (joined es)
unfolding joined adds
same_size [] b = rw (below_nil 256)
same_size (e ∷ es) b = size_below 256 e es ∙ rw (lt-ltb e.identifier 256 b.0, same_size es b.1, length-append e.value (joined es)) (omega arith)
