-- `map::check_columns` meets its contract. A coefficient out of range decides, else the columns do. Assumes nothing.
use Rattle.definitions.specs.Refusals.{check7}
use Rattle.calls.proofs.CallLaws.{handed_on}
use Rattle.checks.specs.CheckLaws.{refused_first, passed_first}
use mathlib.Core.Path.{◌∙◌}
use Rattle.single_listing.proofs.map.check_columns.Goals as goal

pub returns-in_err-check : goal.returns-in_err-check
unfolding check7
returns-in_err-check c = rw (handed_on c.from_residual.ensures) (refused_first _ c.in_err-check.was c.check.ensures)

pub returns : goal.returns
unfolding check7
returns c = c.check-2.ensures ∙ passed_first _ c.in_ok-check.was c.check.ensures
