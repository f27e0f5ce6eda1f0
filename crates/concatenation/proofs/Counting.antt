-- The parts of a text counted one by one.
-- Assumes nothing.
use Rattle.std.specs.Prelude.{Ok, Err}
use Prim.Native.Nat.{ℕ, ◌+◌, ◌≤◌}
use mathlib.Core.Path.{◌≡◌, refl, sym, ◌∙◌, ap}
use mathlib.Core.List.{List}
use mathlib.Core.Option.{Option, none, some}
use native.Mathlib.Omega.{arith}
use lib.ListN.{length, drop, length-append}
use Rattle.octets.specs.Answers.{Said}
use Rattle.octets.specs.declared.Refusal.{Refusal}
use Rattle.octets.specs.declared.Refusal.TheVariants.{NotInAlphabet}
use Rattle.octets.proofs.Checks.{never}
use Rattle.octets.proofs.Places.{given}
use Rattle.gsm7.specs.Writing.{septets_of}
use Rattle.gsm7.proofs.Scanning.{scan_end}
use Rattle.concatenation.specs.Cutting.{parts_of}
use Rattle.concatenation.specs.declared.Counted.{Counted}
use Rattle.concatenation.specs.Internal.{PartAt, last_length, counted_as, those}
use Rattle.concatenation.proofs.InTurn.{no_parts}

-- what is left of a text, counted on
abbrev pub counted_on : ℕ → ℕ → ℕ → Option (List ℕ) → Said Counted
counted_on n k h none = Err NotInAlphabet
counted_on n k h (some rest) = Ok (record { septets = n + length rest; parts = k + length (parts_of rest); last = last_length h (parts_of rest) })

all : {n n' k k' h h' : ℕ} → n ≡ n' → k ≡ k' → h ≡ h' → ◌≡◌ {A = Said Counted} (Ok (record { septets = n; parts = k; last = h })) (Ok (record { septets = n'; parts = k'; last = h' }))
all p q r i = Ok (record { septets = p i; parts = q i; last = r i })

pub counted_start : (o : Option (List ℕ)) → counted_on 0 0 0 o ≡ counted_as o
counted_start none = refl
counted_start (some rest) = all (omega arith) (omega arith) refl

module _ (text : List ℕ) (from n k h : ℕ) {whole : Said Counted} (inv : counted_on n k h (septets_of (drop from text)) ≡ whole) where
  pub counted_next : (p : List ℕ) (next : ℕ) → PartAt text from p next → counted_on (n + length p) (k + 1) (length p) (septets_of (drop next text)) ≡ whole
  unfolding last_length
  counted_next p next part = by (septets_of (drop next text)) refl ∙ inv
    where
      by : (o : Option (List ℕ)) → septets_of (drop next text) ≡ o → counted_on (n + length p) (k + 1) (length p) o ≡ counted_on n k h (septets_of (drop from text))
      by none e = rw (part.septets, e)
      by (some rest) e =
          rw (part.septets, e)
          (all (rw length-append (omega arith)) (rw (part.first rest e) (omega arith)) (rw (part.first rest e)))

  pub counted_end : length text ≤ from → Ok (record { septets = n; parts = k; last = h }) ≡ whole
  unfolding last_length
  counted_end l = all (omega arith) (rw no_parts (omega arith)) (rw no_parts) ∙ rw (scan_end text from l) at inv

-- what the counts say of the septets
pub counted_all : (o : Option (List ℕ)) {c : Counted} → Ok c ≡ counted_as o
    → (o ≡ some (those o)) × (c.septets ≡ length (those o)) × (c.parts ≡ length (parts_of (those o))) × (c.last ≡ last_length 0 (parts_of (those o)))
counted_all none e = absurd (never e)
counted_all (some ss) e = let p = given e in (refl, ap (λ (x : Counted). x.septets) p, ap (λ (x : Counted). x.parts) p, ap (λ (x : Counted). x.last) p)

pub counted_not : (o : Option (List ℕ)) {why : Refusal} → Err why ≡ counted_as o → (o ≡ none) × (why ≡ NotInAlphabet)
counted_not none e = (refl, (cc))
counted_not (some ss) e = absurd (never (sym e))
