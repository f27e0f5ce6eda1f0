-- `submit_report::message` meets its contract.
use Prim.Native.Nat.{◌+◌, ◌-◌}
use mathlib.Core.Path.{◌≡◌}
use native.Mathlib.Omega.{arith}
use Rattle.submit_report.specs.SubmitReport.{submit_reported}
use Rattle.submit_report.proofs.message.Goals as goal

pub returns : goal.returns
unfolding submit_reported
returns c =
    let f = c.args.f in
    let n : f.«data» + f.octets - f.«data» ≡ f.octets = omega arith in
    rw (c.flag.ensures.0, c.time_if.ensures, c.hold.ensures, n)
