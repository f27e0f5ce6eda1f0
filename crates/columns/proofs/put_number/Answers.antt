-- `columns::put_number` meets its contract: one group, or two.
use mathlib.Core.Path.{ap}
use native.Mathlib.Omega.{arith}
use lib.ListN.{length}
use Rattle.octets.proofs.Laws.{wrote_then, kept_by}
use Rattle.columns.proofs.Numbers.{groups_one, groups_two}
use Rattle.columns.proofs.put_number.Goals as goal

pub put_octet-requires : goal.put_octet-requires
put_octet-requires c = omega (arith, ap length (groups_one c.args.n c.if-n-lt128.true), c.requires.1)

pub returns-then-n-lt128 : goal.returns-then-n-lt128
returns-then-n-lt128 c = rw (groups_one _ c.if-n-lt128.true) c.put_octet.ensures

pub put_octet-next-requires : goal.put_octet-next-requires
put_octet-next-requires c = omega (arith, ap length (groups_two c.args.n c.if-n-lt128.false c.requires.0), c.requires.1)

pub put_octet-requires-2 : goal.put_octet-requires-2
put_octet-requires-2 c =
    let w = c.put_octet-next.ensures in
    omega (arith, ap length (groups_two c.args.n c.if-n-lt128.false c.requires.0), c.requires.1, w.place, kept_by w)

pub returns : goal.returns
returns c =
    rw (groups_two c.args.n c.if-n-lt128.false c.requires.0) (wrote_then c.put_octet-next.ensures c.put_octet-2.ensures)
