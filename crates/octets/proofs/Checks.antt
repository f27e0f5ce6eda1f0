-- A writer's list of checks: what it comes to, and what is known where the octets were written.
-- Assumes nothing.
use Prim.Native.Nat.{ℕ, ◌≤◌}
use mathlib.Core.Path.{◌≡◌, refl, sym, ap, ◌∙◌}
use mathlib.Core.Bool.{Bool, true, false}
use mathlib.Core.List.{List, [], ◌∷◌, ◌++◌, append-nil}
use native.Mathlib.Omega.{arith}
use borrow.Author.Tests.{leb-true}
use lib.Dec.{leb}
use lib.ListN.{length}
use Rattle.octets.specs.Answers.{fine}
use Rattle.std.specs.Prelude.{if◌then◌else◌, Ok, Err}
use Rattle.octets.specs.Checks.{Check, ◌unless◌, found, checked, after_checked, all_fit}
use Rattle.octets.specs.Lent.{Making, refused, made}
use Rattle.octets.specs.declared.Refusal.{Refusal}
use Rattle.octets.proofs.Choice.{and_true}

-- what gives values is no refusal
pub never : {A : Type 0} {x : A} {why : Refusal} → Ok x ≡ Err why → ⊥
never e = let z : ◌≡◌ {A = ℕ} 0 1 = cc in omega arith

-- ---- one list behind the other: what the first finds decides

module _ (more : List Check) where
  pub passed : (checks : List Check) → found checks ≡ fine → found (checks ++ more) ≡ found more
  passed [] e = refl
  passed ((why unless true) ∷ checks) e = passed checks e
  passed ((why unless false) ∷ checks) e = absurd (never (sym e))

  pub against : {why : Refusal} (checks : List Check) → found checks ≡ Err why → found (checks ++ more) ≡ Err why
  against [] e = absurd (never e)
  against ((w unless true) ∷ checks) e = against checks e
  against ((w unless false) ∷ checks) e = e

module _ (octets : List ℕ) where
  pub checked_then : (checks more : List Check) → checked (checks ++ more) octets ≡ after_checked (found checks) (checked more octets)
  unfolding checked
  checked_then [] more = refl
  checked_then ((why unless true) ∷ checks) more = checked_then checks more
  checked_then ((why unless false) ∷ checks) more = refl

  by_found : (checks : List Check) → checked checks octets ≡ after_checked (found checks) (made octets (length octets))
  unfolding checked
  by_found checks = ap (λ (l : List Check). checked l octets) (sym (append-nil checks)) ∙ checked_then checks []

  pub all_passed : (checks : List Check) → found checks ≡ fine → checked checks octets ≡ made octets (length octets)
  all_passed checks e = by_found checks ∙ rw e

  pub one_against : {why : Refusal} (checks : List Check) → found checks ≡ Err why → checked checks octets ≡ refused why
  one_against checks e = by_found checks ∙ rw e

-- a check that holds leaves the others
pub check_holds : {holds : Bool} → holds ≡ true → (why : Refusal) (checks : List Check) (xs : List ℕ) → checked ((why unless holds) ∷ checks) xs ≡ checked checks xs
unfolding checked
check_holds e why checks xs = rw e

-- one that fails refuses
pub check_fails : {holds : Bool} → holds ≡ false → (why : Refusal) (checks : List Check) (xs : List ℕ) → checked ((why unless holds) ∷ checks) xs ≡ refused why
unfolding checked
check_fails e why checks xs = rw e

pub no_checks : (xs : List ℕ) → checked [] xs ≡ made xs (length xs)
unfolding checked
no_checks xs = refl

-- ---- where no check fails

-- the first and the others hold
pub holds : (why : Refusal) (test : Bool) (checks : List Check) → found ((why unless test) ∷ checks) ≡ fine → (test ≡ true) × (found checks ≡ fine)
holds why true checks e = (refl, e)
holds why false checks e = absurd (never (sym e))

pub both_hold : (checks more : List Check) → found (checks ++ more) ≡ fine → (found checks ≡ fine) × (found more ≡ fine)
both_hold [] more e = (refl, e)
both_hold ((why unless true) ∷ checks) more e = both_hold checks more e
both_hold ((why unless false) ∷ checks) more e = absurd (never (sym e))

-- ---- what a writer made

module _ {octets : List ℕ} {A : Type 0} {answer : A} {m : Making A} (why : Refusal) where
  -- though a test that fails refuses: it held
  pub made_if : (test : Bool) → (if test then m else refused why) ≡ made octets answer → (test ≡ true) × (m ≡ made octets answer)
  made_if true e = (refl, e)
  made_if false e = let z : ◌≡◌ {A = ℕ} 0 1 = cc in absurd (omega arith)

  -- though a test that holds refuses: it failed
  pub made_unless : (test : Bool) → (if test then refused why else m) ≡ made octets answer → (test ≡ false) × (m ≡ made octets answer)
  made_unless true e = let z : ◌≡◌ {A = ℕ} 0 1 = cc in absurd (omega arith)
  made_unless false e = (refl, e)

-- it made of octets that pass its checks
pub made_told : {octets : List ℕ} {count : ℕ} (checks : List Check) (xs : List ℕ) → checked checks xs ≡ made octets count → (found checks ≡ fine) × (xs ≡ octets)
unfolding checked
made_told [] xs e = (refl, (cc))
made_told ((why unless test) ∷ checks) xs e = let (t, f) = made_if why test e in let (g, x) = made_told checks xs f in (rw t g, x)

-- and counts them
pub made_counts : {octets : List ℕ} {count : ℕ} (checks : List Check) (xs : List ℕ) → checked checks xs ≡ made octets count → count ≡ length octets
unfolding checked
made_counts {octets} [] xs e = let same : xs ≡ octets = cc in cc
made_counts ((why unless test) ∷ checks) xs e = made_counts checks xs (made_if why test e).1

-- ---- lengths that all fit

abbrev pub Fit : List (ℕ × ℕ) → Type 0
Fit [] = Unit
Fit (l ∷ lengths) = (l.0 ≤ l.1) × Fit lengths

pub all_fit_lem : (lengths : List (ℕ × ℕ)) → all_fit lengths ≡ true → Fit lengths
all_fit_lem [] e = tt
all_fit_lem (l ∷ []) e = (leb-true l.0 l.1 e, tt)
all_fit_lem (l ∷ k ∷ lengths) e = let (a, more) = and_true (leb l.0 l.1) (all_fit (k ∷ lengths)) e in (leb-true l.0 l.1 a, all_fit_lem (k ∷ lengths) more)
