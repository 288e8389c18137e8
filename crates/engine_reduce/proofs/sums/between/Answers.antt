use Rattle.engine_reduce.specs.Sums.{between_below, between_rest}
use mir.Facts.{to_z-of_z}
use mathlib.Core.Path.{sym}
use Rattle.engine_reduce.proofs.sums.between.Goals as goal

pub returns-then-x-lo : goal.returns-then-x-lo
returns-then-x-lo c = sym (between_below c.args.x c.args.lo c.args.hi (rw (to_z-of_z c.ranges.x, to_z-of_z c.ranges.lo) at c.if-x-lo.true))

pub returns : goal.returns
returns c = rw (to_z-of_z c.ranges.x, to_z-of_z c.ranges.hi)
    (sym (between_rest c.args.x c.args.lo c.args.hi (rw (to_z-of_z c.ranges.x, to_z-of_z c.ranges.lo) at c.if-x-lo.false)))
