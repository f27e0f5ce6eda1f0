-- The octets of a key: how many they are, and that they tell the key.
-- Assumes nothing.
use Prim.Native.Nat.{ℕ, zero, ◌+◌, ◌/◌, ◌%◌, ◌≤◌}
use mathlib.Core.Path.{◌≡◌, refl, sym, ap, ◌∙◌}
use mathlib.Core.Bool.{true}
use mathlib.Core.List.{List, [], ◌∷◌, ◌++◌}
use native.Mathlib.Nat.{zero-add}
use native.Mathlib.Omega.{arith}
use lib.ListN.{length, get_or, take, drop, length-append, length-take, replicate, length-replicate}
use lib.Seq.{take_at, drop_at, take-take}
use Rattle.octets.specs.Lent.{Wrote}
use Rattle.octets.proofs.Laws.{kept_by, sets_zeros, take_pad}
use Rattle.part_number.specs.declared.Reference.{Reference}
use Rattle.part_number.specs.declared.Reference.TheVariants.{Eight, Sixteen}
use Rattle.octets.specs.Held.{holding, filled}
use Rattle.octets.specs.declared.Held.{Held}
use Rattle.octets.proofs.Holding.{filled_holding}
use Rattle.address.specs.Address.{text_held}
use Rattle.address.specs.declared.SMSAddress.{SMSAddress}
use Rattle.message_store.specs.Part.{Key, key_of}
use Rattle.message_store.specs.Store.{begins, reference_octets, key_octets}
use Rattle.message_store.proofs.AtStart.{begins_is}

-- one by one
pub key_octets_are : (k : Key)
    → k.total ∷ get_or (reference_octets k.reference) 0 0 ∷ get_or (reference_octets k.reference) 1 0 ∷ get_or (reference_octets k.reference) 2 0 ∷ k.ton ∷ k.npi ∷ length k.text / 256 ∷ length k.text % 256 ∷ k.text
    ≡ key_octets k
unfolding key_octets
key_octets_are k = by_reference k.reference
  where
    by_reference : (r : Reference)
        → k.total ∷ get_or (reference_octets r) 0 0 ∷ get_or (reference_octets r) 1 0 ∷ get_or (reference_octets r) 2 0 ∷ k.ton ∷ k.npi ∷ length k.text / 256 ∷ length k.text % 256 ∷ k.text
        ≡ k.total ∷ reference_octets r ++ k.ton ∷ k.npi ∷ length k.text / 256 ∷ length k.text % 256 ∷ k.text
    by_reference (Eight r) = refl
    by_reference (Sixteen r) = refl

-- the octets before the text
head_of : Key → List ℕ
head_of k = k.total ∷ reference_octets k.reference ++ k.ton ∷ k.npi ∷ length k.text / 256 ∷ length k.text % 256 ∷ []

length_head : (k : Key) → length (head_of k) ≡ 8
unfolding head_of
length_head k = by_reference k.reference
  where
    by_reference : (r : Reference) → length (k.total ∷ reference_octets r ++ k.ton ∷ k.npi ∷ length k.text / 256 ∷ length k.text % 256 ∷ []) ≡ 8
    by_reference (Eight r) = refl
    by_reference (Sixteen r) = refl

key_is : (k : Key) → key_octets k ≡ head_of k ++ k.text
unfolding key_octets head_of
key_is k = by_reference k.reference
  where
    by_reference : (r : Reference) → (k.total ∷ reference_octets r ++ k.ton ∷ k.npi ∷ length k.text / 256 ∷ length k.text % 256 ∷ k.text)
        ≡ (k.total ∷ reference_octets r ++ k.ton ∷ k.npi ∷ length k.text / 256 ∷ length k.text % 256 ∷ []) ++ k.text
    by_reference (Eight r) = refl
    by_reference (Sixteen r) = refl

pub length_key : (k : Key) → length (key_octets k) ≡ 8 + length k.text
length_key k = ap length (key_is k) ∙ length-append (head_of k) k.text ∙ rw length_head

-- a number by its two octets
two_octets_lem : (a b : ℕ) → a / 256 ≡ b / 256 → a % 256 ≡ b % 256 → a ≡ b
two_octets_lem a b h l = omega arith

-- the octets before the text tell all but the text
head_tells : (j k : Key) → head_of j ≡ head_of k → j.text ≡ k.text → j ≡ k
unfolding head_of
head_tells j k e t = by_reference j.reference refl k.reference refl e
  where
    with_all : j.total ≡ k.total → j.reference ≡ k.reference → j.ton ≡ k.ton → j.npi ≡ k.npi → j ≡ k
    with_all a r b c = λ i. record { ton = b i; npi = c i; text = t i; reference = r i; total = a i }

    at : ℕ → List ℕ → ℕ
    at i l = get_or l i 0

    by_reference : (r : Reference) → j.reference ≡ r → (s : Reference) → k.reference ≡ s
        → (j.total ∷ reference_octets r ++ j.ton ∷ j.npi ∷ length j.text / 256 ∷ length j.text % 256 ∷ []) ≡ (k.total ∷ reference_octets s ++ k.ton ∷ k.npi ∷ length k.text / 256 ∷ length k.text % 256 ∷ []) → j ≡ k
    by_reference (Eight r) p (Eight s) q e = with_all (ap (at 0) e) (p ∙ ap Eight (ap (at 3) e) ∙ sym q) (ap (at 4) e) (ap (at 5) e)
    by_reference (Eight r) p (Sixteen s) q e = let z : ◌≡◌ {A = ℕ} 8 16 = ap (at 1) e in absurd (omega arith)
    by_reference (Sixteen r) p (Eight s) q e = let z : ◌≡◌ {A = ℕ} 16 8 = ap (at 1) e in absurd (omega arith)
    by_reference (Sixteen r) p (Sixteen s) q e = with_all (ap (at 0) e) (p ∙ ap Sixteen (two_octets_lem r s (ap (at 2) e) (ap (at 3) e)) ∙ sym q) (ap (at 4) e) (ap (at 5) e)

-- of the length too
head_length : (j k : Key) → head_of j ≡ head_of k → length j.text ≡ length k.text
unfolding head_of
head_length j k e = by_reference j.reference k.reference e
  where
    at : ℕ → List ℕ → ℕ
    at i l = get_or l i 0

    by_reference : (r s : Reference)
        → (j.total ∷ reference_octets r ++ j.ton ∷ j.npi ∷ length j.text / 256 ∷ length j.text % 256 ∷ []) ≡ (k.total ∷ reference_octets s ++ k.ton ∷ k.npi ∷ length k.text / 256 ∷ length k.text % 256 ∷ [])
        → length j.text ≡ length k.text
    by_reference (Eight r) (Eight s) e = two_octets_lem _ _ (ap (at 6) e) (ap (at 7) e)
    by_reference (Eight r) (Sixteen s) e = two_octets_lem _ _ (ap (at 6) e) (ap (at 7) e)
    by_reference (Sixteen r) (Eight s) e = two_octets_lem _ _ (ap (at 6) e) (ap (at 7) e)
    by_reference (Sixteen r) (Sixteen s) e = two_octets_lem _ _ (ap (at 6) e) (ap (at 7) e)

-- what begins with a key's octets begins with no other's
module _ (s : List ℕ) where
  first_eight : (k : Key) → begins (key_octets k) s ≡ true → take 8 s ≡ head_of k
  first_eight k b =
      let e : take (length (key_octets k)) s ≡ key_octets k = begins_is (key_octets k) s b in
      sym (take-take 8 (length (key_octets k)) s (rw length_key (omega arith))) ∙ ap (take 8) (e ∙ key_is k) ∙ take_at (head_of k) k.text 8 (length_head k)

  its_text : (k : Key) → begins (key_octets k) s ≡ true → drop 8 (take (8 + length k.text) s) ≡ k.text
  its_text k b =
      let e : take (length (key_octets k)) s ≡ key_octets k = begins_is (key_octets k) s b in
      ap (drop 8) (ap (λ (n : ℕ). take n s) (sym (length_key k)) ∙ e ∙ key_is k) ∙ drop_at (head_of k) k.text 8 (length_head k)

  pub one_key : (j k : Key) → begins (key_octets j) s ≡ true → begins (key_octets k) s ≡ true → j ≡ k
  one_key j k a b =
      let h : head_of j ≡ head_of k = sym (first_eight j a) ∙ first_eight k b in
      let n : length j.text ≡ length k.text = head_length j k h in
      head_tells j k h (sym (its_text j a) ∙ ap (λ (n : ℕ). drop 8 (take (8 + n) s)) n ∙ its_text k b)

-- ---- octets written to zeros are cut out again

pub written_cut : (N : ℕ) (xs l : List ℕ) (n : ℕ) → length xs ≤ N → Wrote 0 xs (replicate N 0) n l → (n ≤ length l) × (take n l ≡ xs) × (n ≤ N)
written_cut N xs l n few w =
    let size : n ≡ length xs = w.place ∙ zero-add _ in
    let room : length l ≡ N = kept_by w ∙ length-replicate N (zero) in
    (omega arith, rw (w.list, size, sets_zeros N xs few) (take_pad N xs), omega arith)

-- ---- a key as it is held

-- an address's text is no longer than its array
pub text_short : (a : SMSAddress) → a.address.length ≤ 290 → length (text_held a) ≤ 290
text_short a few = omega (arith, length-take a.address.length a.address.octets)

-- the key of an address by its type, plan and text
pub key_named : (a : SMSAddress) (r : Reference) (t : ℕ) {ton npi : ℕ} {text : List ℕ} → (ton ≡ a.ton) × (npi ≡ a.npi) × (text ≡ text_held a)
    → {h : Held 298} → h ≡ holding 298 (key_octets (record { ton = ton; npi = npi; text = text; reference = r; total = t })) → filled h ≡ key_octets (key_of a r t)
key_named a r t (x, y, z) e = rw (e, x, y, z) (filled_holding 298 (key_octets (key_of a r t)))

pub key_few : (k : Key) → length k.text ≤ 290 → length (key_octets k) ≤ 298
key_few k few = rw length_key (omega arith)
