-- `request_line::elements::elements` is safe and ends.
use Rattle.std.proofs.Common.{◌≤◌}
use Rattle.request_line.proofs.elements.elements.Given as goal

abbrev pub invariant-loop-i : goal.invariant-loop-i
invariant-loop-i l =
    (goal.iterator-loop-i).can_next l.i-iterator × (goal.iterator-loop-i).is_finite l.i-iterator × (l.filled ≤ 253)
