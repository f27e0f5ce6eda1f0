-- `shift_page::put_total` meets its contract: the number has one digit, or two.
use Prim.Native.Nat.{◌<◌, ◌≤◌}
use native.Mathlib.Omega.{arith}
use Rattle.octets.specs.Texts.{codes}
use Rattle.shift_page.specs.ShiftPage.{ended}
use Rattle.shift_page.proofs.Lines.{total_one, total_two}
use Rattle.shift_page.proofs.put_total.Goals as goal
use Rattle.shift_page.proofs.put_total.Goals.{then-n-lt10, else-n-lt10}

pub returns : goal.returns
unfolding codes ended
returns c =
    let n = c.args.n in
    elim c.if-n-lt10.branch [
      | then-n-lt10 w ↦ let h : n < 10 = omega arith in rw (total_one n h) (rw w.tens-is at c.put_both.ensures)
      | else-n-lt10 w ↦ let h : 10 ≤ n = omega arith in rw (total_two n h (omega arith)) (rw w.tens-is at c.put_both.ensures)
    ]
