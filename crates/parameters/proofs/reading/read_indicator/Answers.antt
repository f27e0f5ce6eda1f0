-- `parameters::reading::read_indicator` meets its contract: the first octet without bit 7 is the indicator's last.
use mathlib.Core.Path.{◌≡◌, sym, ◌∙◌}
use native.Mathlib.Omega.{arith}
use Rattle.std.proofs.Common.{rules, tests}
use Rattle.std.specs.List.{position}
use Rattle.std.proofs.lemmas.Iterator.{YieldsList-from_slice}
use Rattle.std.proofs.lemmas.Iterator.Search.{position_from_yields_List}
use Rattle.parameters.proofs.Indicator.{ends, indicator_not, none_ends, first_ends}
use Rattle.parameters.proofs.reading.read_indicator.Goals as goal

pub returns-in_err-octets : goal.returns-in_err-octets
returns-in_err-octets c = rw c.from_residual.ensures (indicator_not c.args.«data».now c.args.place (omega (arith, c.in_err-octets.ensures.lookup.0)))

pub returns-in_err-last : goal.returns-in_err-last
returns-in_err-last c =
    let h = c.in_ok-octets.ensures.lookup.0 in
    let first : c.position.result ≡ position ends c.in_ok-octets.octets.now = position_from_yields_List ends _ _ c.position.result c.position.ensures.ran (YieldsList-from_slice c.in_ok-octets.octets.now cc) (λ x b q k. search (rules, tests)) in
    rw c.from_residual-in_err-last.ensures (none_ends c.args.«data».now c.args.place h.0 h.2 (sym first ∙ c.in_err-last.was))

pub returns : goal.returns
returns c =
    let h = c.in_ok-octets.ensures.lookup.0 in
    let first : c.position.result ≡ position ends c.in_ok-octets.octets.now = position_from_yields_List ends _ _ c.position.result c.position.ensures.ran (YieldsList-from_slice c.in_ok-octets.octets.now cc) (λ x b q k. search (rules, tests)) in
    first_ends c.args.«data».now c.args.place h.0 h.2 (sym first ∙ c.in_ok-last.was)
