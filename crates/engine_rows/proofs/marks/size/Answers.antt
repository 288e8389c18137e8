-- `marks::size` meets its contract. Assumes nothing.
use mathlib.Core.Path.{sym}
use native.Mathlib.Omega.{arith}
use mir.Facts.{to_z-of_z}
use Rattle.engine_rows.specs.Marking.{size_above, size_below, size_fits, size_is}
use Rattle.engine_rows.proofs.marks.size.Goals as goal

pub overflow_sub-above : goal.overflow_sub-above
overflow_sub-above c =
    let e = size_below c.args.v (rw (to_z-of_z c.ranges.v) at c.if-v-lt0.true) in
    rw (to_z-of_z c.ranges.v, e) (size_fits c.args.v c.requires)

pub overflow_cast-result : goal.overflow_cast-result
overflow_cast-result c =
    let e = size_below c.args.v (rw (to_z-of_z c.ranges.v) at c.if-v-lt0.true) in
    rw (to_z-of_z c.ranges.v, e, to_z-of_z (size_fits c.args.v c.requires)) (tt, record { fits = omega (arith, size_is c.args.v, c.requires) })

pub overflow_cast-result-else-v-lt0 : goal.overflow_cast-result-else-v-lt0
overflow_cast-result-else-v-lt0 c =
    let e = size_above c.args.v (rw (to_z-of_z c.ranges.v) at c.if-v-lt0.false) in
    rw (to_z-of_z c.ranges.v) (rw e (tt, record { fits = omega (arith, size_is c.args.v, c.requires) }))

pub returns-then-v-lt0 : goal.returns-then-v-lt0
returns-then-v-lt0 c =
    let e = size_below c.args.v (rw (to_z-of_z c.ranges.v) at c.if-v-lt0.true) in
    rw (to_z-of_z c.ranges.v, e, to_z-of_z (size_fits c.args.v c.requires))

pub returns-else-v-lt0 : goal.returns-else-v-lt0
returns-else-v-lt0 c = rw (to_z-of_z c.ranges.v) (sym (size_is c.args.v))
