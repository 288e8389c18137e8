-- `checks::check_start_from` meets its contract: a refusal of the shape decides, else the lower bound and the coefficients do. Assumes nothing.
use Rattle.definitions.specs.Answers.{◌then◌}
use Rattle.definitions.specs.Refusals.{lower_checks, check5, check7, check8}
use Rattle.definitions.specs.Input.{alone, input_with}
use Rattle.calls.specs.Paper.{state_with}
use Rattle.calls.proofs.CallLaws.{handed_on}
use Rattle.checks.specs.CheckLaws.{shape_refused, shape_passed}
use Rattle.checks.proofs.check_start_from.Goals as goal

pub returns-in_err-check : goal.returns-in_err-check
unfolding lower_checks
returns-in_err-check c =
    let a = c.args in
    let s = state_with a.stack.now a.list.now a.second.now a.r in
    rw (handed_on c.from_residual.ensures)
    (shape_refused alone a.limit a.p a.q a.coefs.now s _ c.in_err-check.was c.check.ensures)

pub returns : goal.returns
unfolding lower_checks
returns c =
    let a = c.args in
    let i = input_with alone a.limit a.p a.q a.coefs.now in
    let s = state_with a.stack.now a.list.now a.second.now a.r in
    shape_passed alone a.limit a.p a.q a.coefs.now s (check5 i a.lower.now then check7 i then check8 i a.lower.now)
    c.in_ok-check.was c.check.ensures (c.check_lower.ensures a.p)
