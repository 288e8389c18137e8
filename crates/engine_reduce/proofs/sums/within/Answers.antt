use mathlib.Core.Path.{sym, ◌∙◌}
use mir.Facts.{to_z-of_z}
use Rattle.engine_reduce.specs.Sums.{within_below, within_else}
use Rattle.engine_reduce.proofs.sums.within.Goals as goal

pub returns-then-x-lt0 : goal.returns-then-x-lt0
returns-then-x-lt0 c =
    rw (to_z-of_z c.ranges.y, to_z-of_z c.ranges.x) at c.between.ensures
    ∙ sym (within_below c.args.y c.args.x (rw (to_z-of_z c.ranges.x) at c.if-x-lt0.true))

pub returns : goal.returns
returns c =
    rw (to_z-of_z c.ranges.y, to_z-of_z c.ranges.x) at c.between-2.ensures
    ∙ sym (within_else c.args.y c.args.x (rw (to_z-of_z c.ranges.x) at c.if-x-lt0.false))
