-- `time::timestamp::zone_sign` meets its contract: the machine's test of the zone's bits is one of the zone.
use mir.Syntax.{w8}
use mir.ValLaws.{to_z-of_z}
use Rattle.time.proofs.timestamp.zone_sign.Goals as goal

pub returns : goal.returns
returns c = rw (to_z-of_z w8 c.args.zone c.ranges.zone) at c.flag.ensures
