-- `ucs2::scan_characters` meets its contract: the septets of the characters that are left, stored too, still give the whole.
use Prim.Native.Nat.{ℕ, ◌+◌, ◌*◌, ◌/◌, ◌<◌}
use mathlib.Core.Path.{◌≡◌, refl, ap, ◌∙◌}
use mathlib.Core.List.{List, []}
use native.Mathlib.Omega.{arith}
use lib.ListN.{get_or, length}
use Rattle.std.specs.Simd.{first_chunks}
use Rattle.gsm7.specs.Writing.{code_of}
use Rattle.gsm7.proofs.Scanning.{added, not_added, scanned_none, scanned_done}
use Rattle.octets.proofs.Pairs.{pairs_at}
use Rattle.ucs2.proofs.Stepwise.{next as next_of, codes_end, codes_absent, codes_more}
use Rattle.ucs2.proofs.scan_characters.Goals as goal

-- the pair at hand is the next character
record Next (os : List ℕ) (pairs : List (List ℕ)) (i : ℕ) : Type 0 where
  within : 2 * i + 1 < length os
  whole : next_of os (2 * i) ≡ get_or (get_or pairs i []) 0 0 * 256 + get_or (get_or pairs i []) 1 0

at_pair : (os : List ℕ) (pairs : List (List ℕ)) → pairs ≡ first_chunks 2 (length os / 2) os → length pairs ≡ length os / 2 → (i : ℕ) → i < length pairs → Next os pairs i
at_pair os pairs front size i h =
    let p : (get_or (get_or pairs i []) 0 0 ≡ get_or os (2 * i) 0) × (get_or (get_or pairs i []) 1 0 ≡ get_or os (2 * i + 1) 0) = pairs_at os front (omega arith) in
    record { within = omega arith; whole = omega (arith, p) }

after_pair : (i : ℕ) → 2 * (i + 1) ≡ 2 * i + 2
after_pair i = omega arith

pub returns-in_default : goal.returns-in_default
returns-in_default c =
    let l = c.loop-pair in
    let n = at_pair _ _ c.as_chunks.ensures.front c.as_chunks.ensures.front_len l.pair-index c.loop-pair-test.true in
    let e = not_added _ _ _ _ _ c.in_default.ensures refl in
    let is : next_of c.args.ucs2.now (2 * l.pair-index) ≡ c.from_be_bytes-c.result = omega (arith, n.whole, c.from_be_bytes-c.ensures) in
    scanned_none _ l.codes _ _ l.count _ (codes_absent c.args.ucs2.now (2 * l.pair-index) n.within (ap code_of is ∙ e.1)) l.invariant.2

pub loop-pair-preserved : goal.loop-pair-preserved
loop-pair-preserved c =
    let l = c.loop-pair in
    let n = at_pair _ _ c.as_chunks.ensures.front c.as_chunks.ensures.front_len l.pair-index c.loop-pair-test.true in
    let (ks, code, w, more, few) = added _ _ _ _ _ c.in-Some.ensures refl in
    let is : next_of c.args.ucs2.now (2 * l.pair-index) ≡ c.from_be_bytes-c.result = omega (arith, n.whole, c.from_be_bytes-c.ensures) in
    (omega (arith, few), c.add_character.array_long, rw (after_pair l.pair-index) (codes_more c.args.ucs2.now (2 * l.pair-index) n.within ks (ap code_of is ∙ code) w l.invariant.2))

pub returns : goal.returns
returns c =
    let l = c.loop-pair in
    scanned_done _ l.codes _ l.count _ (codes_end _ (2 * l.pair-index) (omega (arith, c.as_chunks.ensures.front_len, c.loop-pair-test.false))) l.invariant.2
