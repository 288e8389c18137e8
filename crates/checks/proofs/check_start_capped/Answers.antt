-- `checks::check_start_capped` meets its contract: a refusal of the shape decides, else the coefficients and the right sides do. Assumes nothing.
use Rattle.definitions.specs.Answers.{◌then◌}
use Rattle.definitions.specs.Refusals.{start_checks, check7, check15}
use Rattle.definitions.specs.Input.{input_with, rights}
use Rattle.calls.specs.Paper.{state_with}
use Rattle.calls.proofs.CallLaws.{handed_on}
use Rattle.checks.specs.CheckLaws.{shape_refused, shape_passed}
use Rattle.checks.proofs.check_start_capped.Goals as goal

pub returns-in_err-check : goal.returns-in_err-check
unfolding start_checks
returns-in_err-check c limit =
    let a = c.args in
    let s = state_with a.stack.now a.list.now a.second.now a.r in
    rw (handed_on c.from_residual.ensures)
    (shape_refused (rights a.rights.now) limit a.p a.q a.coefs.now s _ c.in_err-check.was c.check.ensures)

pub returns : goal.returns
unfolding start_checks check7
returns c limit =
    let a = c.args in
    let b = a.rights.now in
    let s = state_with a.stack.now a.list.now a.second.now a.r in
    shape_passed (rights b) limit a.p a.q a.coefs.now s (check7 (input_with (rights b) limit a.p a.q a.coefs.now) then check15 b)
    c.in_ok-check.was c.check.ensures c.check_both.ensures
