-- `desk_checks::check_tables` meets its contract: the shape decides, else the generators do. Assumes nothing.
use mathlib.Core.Path.{sym, ◌∙◌}
use Rattle.calls.proofs.CallLaws.{handed_on}
use Rattle.checks.specs.CheckLaws.{passed_first, refused_first}
use Rattle.definitions.specs.Answers.{refuse_with}
use Rattle.desk_checks.specs.Shape.{table_checks}
use Rattle.desk_checks.proofs.check_tables.Goals as goal

pub returns-in_err-check : goal.returns-in_err-check
unfolding table_checks
returns-in_err-check c = rw (handed_on c.from_residual.ensures) (refused_first _ c.in_err-check.was c.check.ensures)

pub returns-then-not-small : goal.returns-then-not-small
unfolding table_checks refuse_with
returns-then-not-small c = rw (← passed_first _ c.in_ok-check.was c.check.ensures, sym c.small.ensures ∙ c.if-not-small.true)

pub returns : goal.returns
unfolding table_checks refuse_with
returns c = rw (← passed_first _ c.in_ok-check.was c.check.ensures, sym c.small.ensures ∙ c.if-not-small.false)
