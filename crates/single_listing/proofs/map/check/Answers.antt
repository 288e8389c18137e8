-- `map::check` meets its contract. The shape decides, else the coefficients and columns do. Assumes nothing.
use native.Mathlib.Omega.{arith}
use lib.ListN.{length}
use mathlib.Core.Path.{◌∙◌}
use Rattle.calls.proofs.CallLaws.{handed_on, passes}
use Rattle.checks.specs.CheckLaws.{refused_first, passed_first}
use Rattle.single_listing.specs.Passes.{map_checks, shape_whole}
use Rattle.single_listing.proofs.map.check.Goals as goal

pub check_columns-requires : goal.check_columns-requires
check_columns-requires c =
    let a = c.args in
    let (few, same, rows) = shape_whole a.p a.q (length a.coefs.now) a.list a.found
    (passes c.check_shape.ensures c.in_ok-check_shape.was) in
    omega (arith, same)

pub returns-in_err-check_shape : goal.returns-in_err-check_shape
unfolding map_checks
returns-in_err-check_shape c = rw (handed_on c.from_residual.ensures) (refused_first _ c.in_err-check_shape.was c.check_shape.ensures)

pub returns : goal.returns
unfolding map_checks
returns c = c.check_columns.ensures ∙ passed_first _ c.in_ok-check_shape.was c.check_shape.ensures
