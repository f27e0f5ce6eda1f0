-- `deliver_report::message` meets its contract.
use Prim.Native.Nat.{◌+◌, ◌-◌}
use mathlib.Core.Path.{◌≡◌}
use native.Mathlib.Omega.{arith}
use Rattle.deliver_report.specs.DeliverReport.{deliver_reported}
use Rattle.deliver_report.proofs.message.Goals as goal

pub returns : goal.returns
unfolding deliver_reported
returns c =
    let f = c.args.f in
    let n : f.«data» + f.octets - f.«data» ≡ f.octets = omega arith in
    rw (c.hold.ensures, n)
