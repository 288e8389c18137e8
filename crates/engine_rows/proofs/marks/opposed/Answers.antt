-- `marks::opposed` meets its contract. Assumes nothing.
use mir.Facts.{to_z-of_z}
use Rattle.engine_rows.specs.Marking.{opposed_above, opposed_below, opposed_none}
use Rattle.engine_rows.proofs.marks.opposed.Goals as goal

pub returns-then-x-lt0 : goal.returns-then-x-lt0
returns-then-x-lt0 c =
    rw (to_z-of_z c.ranges.y) (opposed_below c.args.x c.args.y (rw (to_z-of_z c.ranges.x) at c.if-x-lt0.true))

pub returns-then-x-gt0 : goal.returns-then-x-gt0
returns-then-x-gt0 c =
    let e = to_z-of_z c.ranges.x in
    rw (to_z-of_z c.ranges.y) (opposed_above c.args.x c.args.y (rw e at c.if-x-lt0.false) (rw e at c.if-x-gt0.true))

pub returns : goal.returns
returns c =
    let e = to_z-of_z c.ranges.x in
    opposed_none c.args.x c.args.y (rw e at c.if-x-lt0.false) (rw e at c.if-x-gt0.false)
