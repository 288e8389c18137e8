-- `operations::combined` meets its contract: the products of a coefficient, and their sum, fit 64 bits. Assumes nothing.
use Rattle.std.proofs.Common.{refl, to_z-of_z}
use Rattle.engine_checks.specs.Operating.{wide_is, wide_products}
use Rattle.engine_checks.proofs.operations.combined.Goals as goal

pub overflow_add-result : goal.overflow_add-result
overflow_add-result c =
    let all = wide_products c.ranges.u c.ranges.x c.ranges.t c.ranges.y c.from.ensures c.from-2.ensures c.from-3.ensures c.from-4.ensures c.requires.0
    c.requires.1 in
    rw (to_z-of_z all.0, to_z-of_z all.1.0) all.1.1

pub returns : goal.returns
returns c =
    let all = wide_products c.ranges.u c.ranges.x c.ranges.t c.ranges.y c.from.ensures c.from-2.ensures c.from-3.ensures c.from-4.ensures c.requires.0
    c.requires.1 in
    rw (to_z-of_z all.0, to_z-of_z all.1.0)
    (wide_is c.ranges.u c.ranges.x c.ranges.t c.ranges.y c.from.ensures c.from-2.ensures c.from-3.ensures c.from-4.ensures
    c.requires.0 c.requires.1 refl)
