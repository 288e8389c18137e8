-- `tell_part` meets its contract. Assumes nothing.
use Rattle.c_walk.specs.RowLaws.{told_none, told_short, told_copied}
use Rattle.c_walk.proofs.rows.tell_part.Goals as goal

pub returns-then-part-eq0 : goal.returns-then-part-eq0
returns-then-part-eq0 c = told_none _ _ c.if-part-eq0.true

pub returns-then-out-part : goal.returns-then-out-part
returns-then-out-part c = told_short _ _ c.if-part-eq0.false c.if-out-part.true

pub returns : goal.returns
returns c =
    told_copied _ _ c.if-part-eq0.false c.if-out-part.false c.copy.ensures
