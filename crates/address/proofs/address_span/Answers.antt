-- `address::address_span` meets its contract: the length octet gives the size; where it is missing the field is not whole.
use Prim.Native.Nat.{ℕ}
use mathlib.Core.Path.{◌≡◌, sym, ◌∙◌, ap}
use native.Mathlib.Omega.{arith}
use native.Mathlib.Nat.{add-zero}
use borrow.Author.Tests.{lt-leb}
use lib.ListN.{length, get_or, drop, length-drop}
use lib.Seq.{get_or-drop}
use Rattle.octets.specs.Places.{span_at}
use Rattle.octets.proofs.Places.{octet_read, octet_ended}
use Rattle.address.specs.Address.{address_size}
use Rattle.address.specs.Internal.{address_span}
use Rattle.address.proofs.address_span.Goals as goal

pub returns-in_default : goal.returns-in_default
unfolding address_span
returns-in_default c =
    let a = c.args in
    let r = octet_ended a.«data».now a.place (sym c.in_default.ensures) in
    rw (lt-leb (address_size (drop a.place.at a.«data».now)) (length (drop a.place.at a.«data».now)) (rw length-drop (omega (arith, r))))

pub returns : goal.returns
unfolding address_span span_at
returns c =
    let a = c.args in
    let r = octet_read a.«data».now a.place (sym c.in-Some.ensures) in
    let first : c.in-Some.length ≡ get_or (drop a.place.at a.«data».now) 0 0 = r.1 ∙ sym (get_or-drop a.place.at a.«data».now 0 0 ∙ ap (λ (i : ℕ). get_or a.«data».now i 0) (add-zero _)) in
    c.span.ensures ∙ rw first
