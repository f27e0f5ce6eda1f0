-- `time::timestamp::timestamp_digits` meets its contract: each test decides one of the definition's, and the digits are those of seven octets.
use mathlib.Core.Path.{◌≡◌, sym, ◌∙◌, ap}
use mathlib.Core.Bool.{true}
use native.Mathlib.Omega.{arith}
use borrow.Author.Tests.{lt-ltb}
use lib.IntN.{nat_abs}
use mir.Syntax.{w8}
use mir.Val.{to_z, of_z}
use mir.ValLaws.{to_z-of_z}
use Rattle.time.specs.Timestamp.{in_calendar, timestamp}
use Rattle.time.proofs.Calendar.{timestamp_octets}
use Rattle.time.proofs.timestamp.timestamp_digits.Goals as goal
use Rattle.time.proofs.timestamp.timestamp_digits.Tie as tie
use Rattle.time.proofs.timestamp.timestamp_digits.Lts as lts
use Rattle.time.proofs.timestamp.timestamp_digits.Reads as reads

-- the zone as its callees see it
zone : (s : lts.Start tie.the-claims reads.Pre reads.Post) → to_z w8 (of_z w8 s.args.time_zone_quarter_hours) ≡ s.args.time_zone_quarter_hours
zone s = to_z-of_z w8 s.args.time_zone_quarter_hours s.ranges.time_zone_quarter_hours

calendar : (c : lts.Else1 tie.the-claims reads.Pre reads.Post) → in_calendar c.args.year c.args.month c.args.day c.args.hour c.args.minute c.args.second ≡ true
calendar c = sym c.in_calendar.ensures ∙ c.if-not-in_calendar.false

quarters : (c : lts.After-quarter_hours tie.the-claims reads.Pre reads.Post) → c.quarter_hours-quarters.result ≡ nat_abs c.args.time_zone_quarter_hours
quarters c = c.quarter_hours-quarters.ensures ∙ ap nat_abs (zone c.before.before.before)

pub returns-then-not-in_calendar : goal.returns-then-not-in_calendar
unfolding timestamp
returns-then-not-in_calendar c =
    rw (← c.in_calendar.ensures, c.if-not-in_calendar.true)

pub returns-then-quarters-gt79 : goal.returns-then-quarters-gt79
unfolding timestamp
returns-then-quarters-gt79 c = rw (calendar c.before.before, ← quarters c.before, lt-ltb _ _ c.if-quarters-gt79.true)

pub returns : goal.returns
returns c =
    let q = c.before.before.before.before in
    let s = q.before.before.before in
    let a = s.args in
    rw (c.digits_of.ensures, c.decimal_octet.ensures, c.zone_sign.ensures.0, quarters q, zone s)
    (sym (timestamp_octets a.year a.month a.day a.hour a.minute a.second a.time_zone_quarter_hours (calendar q.before) (rw (← quarters q) (omega (arith, c.if-quarters-gt79.false)))))
