-- `ranges::check` meets its contract: a coefficient decides, else the images do. Assumes nothing.
use mathlib.Core.Path.{sym, ◌∙◌}
use Rattle.calls.proofs.CallLaws.{handed_on, passes}
use Rattle.checks.specs.CheckLaws.{passed_first, refused_first}
use Rattle.definitions.specs.Answers.{refuse_with}
use Rattle.definitions.specs.Refusals.{check7}
use Rattle.desk_checks.specs.Shape.{handed_small}
use Rattle.desk_checks.proofs.ranges.check.Goals as goal

pub is_wide-requires : goal.is_wide-requires
unfolding check7
is_wide-requires c =
    handed_small c.args.p c.args.q c.args.coefs.now c.args.generators.now c.requires (passes c.check.ensures c.in_ok-check.was)

pub returns-in_err-check : goal.returns-in_err-check
unfolding check7
returns-in_err-check c = rw (handed_on c.from_residual.ensures) (refused_first _ c.in_err-check.was c.check.ensures)

pub returns-then-is_wide : goal.returns-then-is_wide
unfolding check7 refuse_with
returns-then-is_wide c = rw (← passed_first _ c.in_ok-check.was c.check.ensures, sym c.is_wide.ensures ∙ c.if-is_wide.true)

pub returns : goal.returns
unfolding check7 refuse_with
returns c = rw (← passed_first _ c.in_ok-check.was c.check.ensures, sym c.is_wide.ensures ∙ c.if-is_wide.false)
