-- SUBMITs that lie one after the other are read in turn: the reader looks at no octet after those that it takes, so each is read as if it stood alone.
-- Assumes nothing.
use Rattle.std.specs.Prelude.{Ok}
use Prim.Native.Nat.{ℕ}
use mathlib.Core.Path.{◌≡◌, refl, sym, ap, ◌∙◌}
use mathlib.Core.List.{List, ◌++◌, append_assoc}
use mathlib.Core.Logic.{⊎_elim}
use native.Mathlib.Omega.{arith}
use lib.ListN.{length, drop, length-append}
use lib.Seq.{take_at, drop_at}
use Rattle.octets.specs.declared.Refusal.TheVariants.{OctetsEnd}
use Rattle.layout.specs.Cut.{Endless}
use Rattle.layout.specs.Layout.{address, cut, reached, halted, reading, read_from, read}
use Rattle.layout.proofs.Beginnings.{fronts}
use Rattle.layout.proofs.Fields.{own}
use Rattle.layout.proofs.Laws.{sound}
use Rattle.submit.specs.Layout.{fields}
use Rattle.submit.specs.Submit.{format, submit, read_with}
use Rattle.submit.specs.declared.SmsSubmit.{SmsSubmit}
use Rattle.cursor.specs.From.{submit_from}

submit_endless : Endless format
unfolding format fields
submit_endless f mr da pid dcs vp udl ud = tt

-- the address field of a whole SUBMIT is the same with anything after it
address_alone : (s t : List ℕ) {r : SmsSubmit} {n : ℕ} → read submit s ≡ reached r n → cut address (drop 2 (s ++ t)) ≡ cut address (drop 2 s)
unfolding read read_from format fields
address_alone s t e =
    let first = sound format s 0 e in
    let mr = first.follows.1 in
    let da = mr.follows in
    let two : length (first.front ++ mr.front) ≡ 2 = omega (arith, first.whole, mr.whole, length-append first.front mr.front) in
    let own_field : (u : List ℕ) → cut address (da.front ++ u) ≡ da.front = λ u. rw (own address da.front u da.whole) (take_at da.front u _ refl) in
    let split : s ≡ (first.front ++ mr.front) ++ (da.front ++ da.rest) = first.splits ∙ ap (λ (x : List ℕ). first.front ++ x) (mr.splits ∙ ap (λ (x : List ℕ). mr.front ++ x) da.splits) ∙ sym (append_assoc first.front mr.front (da.front ++ da.rest)) in
    let split' : s ++ t ≡ (first.front ++ mr.front) ++ (da.front ++ (da.rest ++ t)) =
    ap (λ (x : List ℕ). x ++ t) split ∙ append_assoc (first.front ++ mr.front) (da.front ++ da.rest) t ∙ ap (λ (x : List ℕ). (first.front ++ mr.front) ++ x) (append_assoc da.front da.rest t) in
    ap (λ (x : List ℕ). cut address (drop 2 x)) split' ∙ ap (cut address) (drop_at (first.front ++ mr.front) (da.front ++ (da.rest ++ t)) 2 two) ∙ own_field (da.rest ++ t)
    ∙ sym (ap (λ (x : List ℕ). cut address (drop 2 x)) split ∙ ap (cut address) (drop_at (first.front ++ mr.front) (da.front ++ da.rest) 2 two) ∙ own_field da.rest)

-- s is a whole SUBMIT that lies after anything and before anything: from its place on it is read as alone, with the number of its octets, which leads to the place after it, and of the escapes replaced in it
pub in_turn : (p s t : List ℕ) {r : SmsSubmit} → read submit s ≡ reached r (length s) → submit_from (p ++ (s ++ t)) (length p) ≡ Ok (read_with s r (length s))
unfolding read read_from
in_turn p s t {r} e =
    let whole : reading format s 0 ≡ halted OctetsEnd → reading format (s ++ t) 0 ≡ reached r (length s) = λ w. let z : ◌≡◌ {A = ℕ} 0 1 = cc in absurd (omega arith) in
    let same : read submit (s ++ t) ≡ reached r (length s) = ⊎_elim whole (λ w. sym w ∙ e) (fronts format submit_endless s t 0) in
    rw (drop_at p (s ++ t) (length p) refl, same, address_alone s t e)
