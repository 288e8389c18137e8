-- `checks::coefficients::check_both` meets its contract: a coefficient out of range decides, else the right sides do. Assumes nothing.
use mathlib.Core.Path.{◌∙◌}
use Rattle.calls.proofs.CallLaws.{handed_on}
use Rattle.checks.specs.CheckLaws.{refused_first, passed_first}
use Rattle.checks.proofs.coefficients.check_both.Goals as goal

pub returns-in_err-check : goal.returns-in_err-check
returns-in_err-check c = rw (handed_on c.from_residual.ensures) (refused_first _ c.in_err-check.was c.check.ensures)

pub returns : goal.returns
returns c = c.check_sides.ensures ∙ passed_first _ c.in_ok-check.was c.check.ensures
