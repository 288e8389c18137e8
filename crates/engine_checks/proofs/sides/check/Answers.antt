-- `sides::check` meets its contract: the shape decides, else the numbers. Assumes nothing.
use Rattle.std.proofs.Common.{◌∙◌}
use Rattle.calls.proofs.CallLaws.{handed_on, passes}
use Rattle.checks.specs.CheckLaws.{passed_first, refused_first}
use Rattle.engine_checks.specs.Sides.{shaped, sides_checks_by}
use Rattle.engine_checks.proofs.sides.check.Goals as goal

pub returns-in_err-check_shape : goal.returns-in_err-check_shape
unfolding sides_checks_by
returns-in_err-check_shape c = rw (handed_on c.from_residual.ensures) (refused_first _ c.in_err-check_shape.was c.check_shape.ensures)

pub check_range-requires : goal.check_range-requires
check_range-requires c = (shaped _ _ _ _ _ _ _ _ (passes c.check_shape.ensures c.in_ok-check_shape.was)).0

pub returns : goal.returns
unfolding sides_checks_by
returns c = c.check_range.ensures ∙ passed_first _ c.in_ok-check_shape.was c.check_shape.ensures
