-- `reassembly::join` meets its contract, case by case.
use mathlib.Core.Path.{sym, ◌∙◌}
use borrow.Author.Rules.{rules}
use Rattle.reassembly.proofs.Joining.{joins_coding, joins_new, joins_udl, joins_other, joins_again}
use Rattle.reassembly.proofs.join.Goals as goal

pub returns-then-slot-part : goal.returns-then-slot-part
returns-then-slot-part c = joins_coding _ _ _ _ c.if-slot-part.true

pub returns-then-slot-n-eq0 : goal.returns-then-slot-n-eq0
returns-then-slot-n-eq0 c = rw (c.accepted.ensures, c.put_part.ensures) (joins_new _ _ _ _ c.if-slot-part.false c.if-slot-n-eq0.true)

pub returns-then-slot-at : goal.returns-then-slot-at
returns-then-slot-at c =
    joins_udl _ _ _ _ c.if-slot-part.false c.if-slot-n-eq0.false (search rules) c.requires.1 (rw c.part_at-at.ensures at c.if-slot-at.true)

pub returns-then-not-all_same : goal.returns-then-not-all_same
returns-then-not-all_same c =
    joins_other _ _ _ _ c.if-slot-part.false c.if-slot-n-eq0.false (search rules) c.requires.1 (rw c.part_at-at.ensures at c.if-slot-at.false) (rw c.part_at-at.ensures at (sym c.all_same.ensures ∙ c.if-not-all_same.true))

pub returns : goal.returns
returns c =
    rw c.accepted-2.ensures (joins_again _ _ _ _ c.if-slot-part.false c.if-slot-n-eq0.false (search rules) c.requires.1 (rw c.part_at-at.ensures at c.if-slot-at.false) (rw c.part_at-at.ensures at (sym c.all_same.ensures ∙ c.if-not-all_same.false)))
