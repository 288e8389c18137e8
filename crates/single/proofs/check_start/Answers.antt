-- `check_start` meets its contract. The checks of the plain call decide, else the columns do. Assumes nothing.
use mathlib.Core.Path.{◌∙◌}
use native.Mathlib.Omega.{arith}
use Rattle.laws.proofs.RefusalLaws.{start_shaped}
use Rattle.calls.proofs.CallLaws.{handed_on, passes}
use Rattle.checks.specs.CheckLaws.{passed_first, refused_first}
use Rattle.single_spec.specs.Calls.{single_start_checks}
use Rattle.single.proofs.check_start.Goals as goal

pub check-requires : goal.check-requires
check-requires c = let g = start_shaped _ _ (passes c.check_start.ensures c.in_ok-check_start.was) in omega (arith, g.coefs)

pub returns-in_err-check_start : goal.returns-in_err-check_start
unfolding single_start_checks
returns-in_err-check_start c = rw (handed_on c.from_residual.ensures) (refused_first _ c.in_err-check_start.was c.check_start.ensures)

pub returns : goal.returns
unfolding single_start_checks
returns c = c.check.ensures ∙ passed_first _ c.in_ok-check_start.was c.check_start.ensures
