-- `sides::side_at` meets its contract. Assumes nothing.
use Rattle.std.proofs.Common.{to_z-of_z, SFits, neg_ℤ, ◌+ℤ◌}
use Rattle.std.specs.Int.{w64}
use Rattle.linear.specs.Systems.{value}
use Rattle.engine_spec.specs.Beside.{equation_at, row_at}
use Rattle.engine_beside.specs.Small.{value_read, value_small}
use Rattle.engine_checks.specs.Operating.{widened}
use Rattle.engine_checks.specs.Sides.{less_fits}
use Rattle.engine_checks.proofs.sides.side_at.Goals as goal
use Rattle.engine_checks.proofs.sides.side_at.Goals.{Start}

fits : (s : Start) → let a = s.args in SFits w64 (a.right +ℤ neg_ℤ (value (equation_at a.coefs.now a.from) a.q (row_at a.lower.now 0)))
fits s =
    less_fits s.args.right (value (equation_at s.args.coefs.now s.args.from) s.args.q (row_at s.args.lower.now 0)) s.ranges.right
    (value_small (row_at s.args.lower.now 0) s.requires.0 s.requires.1.small)

pub overflow_sub-result : goal.overflow_sub-result
overflow_sub-result c =
    rw (widened c.ranges.right c.from.ensures, value_read c.requires.0 c.requires.1 c.value_at.ensures) (fits (goal.at.overflow_sub-result c).Start)

pub returns : goal.returns
returns c =
    rw (widened c.ranges.right c.from.ensures, value_read c.requires.0 c.requires.1 c.value_at.ensures) (to_z-of_z (fits (goal.at.returns c).Start))
