-- `writing::combine` meets its contract: the coefficients passed are combined, those ahead are as they were. Assumes nothing.
use mir.Facts.{to_z-of_z}
use Rattle.engine_begins.specs.Writing.{combined_at, fill_more, fill_none, next_fits, next_small, next_written}
use Rattle.engine_begins.proofs.writing.combine.Goals as goal

pub loop-j-init : goal.loop-j-init
loop-j-init c = fill_none _ _ _

pub combined-requires : goal.combined-requires
combined-requires c = let e = simp (to_z-of_z c.ranges.u, to_z-of_z c.ranges.t) at c.loop-j.invariant in
    next_small c.requires c.loop-j.j e c.loop-j-test.true c.ranges.u c.ranges.t

pub narrow-requires : goal.narrow-requires
narrow-requires c = let e = simp (to_z-of_z c.ranges.u, to_z-of_z c.ranges.t) at c.loop-j.invariant in
    next_fits c.requires c.loop-j.j e c.loop-j-test.true c.ranges.u c.ranges.t c.combined.ensures

pub loop-j-preserved : goal.loop-j-preserved
loop-j-preserved c = let e = simp (to_z-of_z c.ranges.u, to_z-of_z c.ranges.t) at c.loop-j.invariant in
    let g = next_written c.requires c.loop-j.j e c.loop-j-test.true c.ranges.u c.ranges.t c.combined.ensures
    c.narrow.ensures in
    simp (to_z-of_z c.ranges.u, to_z-of_z c.ranges.t) (fill_more c.loop-j.j c.args.equations.now c.args.x (combined_at c.args.x c.args.y c.args.u c.args.t
    c.args.equations.now) e g)
