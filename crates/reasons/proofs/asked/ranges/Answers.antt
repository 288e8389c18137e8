-- `reasons::asked::ranges` meets its contract: the coefficients decide first. Assumes nothing.
use Rattle.std.proofs.Common.{sym, ◌∙◌}
use Rattle.calls.proofs.CallLaws.{handed_on}
use Rattle.reasons.proofs.Refusals.{all_small, coefficient_off, one_large}
use Rattle.reasons.proofs.asked.ranges.Goals as goal

pub returns-in_err-check : goal.returns-in_err-check
returns-in_err-check c = rw (handed_on c.from_residual.ensures) (coefficient_off _ _ c.check.ensures c.in_err-check.was)

pub returns-then-above_limit : goal.returns-then-above_limit
returns-then-above_limit c = one_large _ _ c.check.ensures c.in_ok-check.was (sym c.above_limit.ensures ∙ c.if-above_limit.true)

pub returns : goal.returns
returns c = all_small _ _ c.check.ensures c.in_ok-check.was (sym c.above_limit.ensures ∙ c.if-above_limit.false)
