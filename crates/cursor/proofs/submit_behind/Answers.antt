-- A cursor made anew, moved, and read from: the SUBMIT behind so many octets.
use Prim.Native.Nat.{ℕ, ◌+◌}
use mathlib.Core.Path.{◌≡◌, ◌∙◌, ap}
use mathlib.Core.List.{List}
use native.Mathlib.Omega.{arith}
use denote.Ref.{Bor}
use Rattle.std.proofs.lemmas.List.{drop_min}
use Rattle.cursor.specs.From.{behind_place, submit_from}
use Rattle.cursor.proofs.submit_behind.Goals as goal

pub returns : goal.returns
unfolding behind_place
returns c =
    let s = c.args.octets in
    let made = c.new.ensures in
    let moved = c.behind.ensures in
    let octets : c.behind.result.octets ≡ s = moved.0 ∙ made.0 in
    let place : c.behind.result.place ≡ behind_place s.now 0 c.args.count =
    moved.1 ∙ ap (λ (x : Bor (List ℕ)). behind_place x.now c.new.result.place c.args.count) made.0 ∙ ap (λ (n : ℕ). behind_place s.now n c.args.count) made.1 in
    let none_more : 0 + c.args.count ≡ c.args.count = omega (arith) in
    rw (c.decode_sms_submit_tpdu.ensures, octets, place, none_more) (ap (λ x. submit_from x 0) (drop_min c.args.count s.now))
