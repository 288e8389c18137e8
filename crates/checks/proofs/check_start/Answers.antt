-- `checks::check_start` meets its contract: a refusal of the shape decides, else the coefficients do. Assumes nothing.
use Rattle.definitions.specs.Refusals.{start_checks, check7}
use Rattle.definitions.specs.Input.{alone, input_of}
use Rattle.definitions.specs.System.{most_component}
use Rattle.calls.specs.Paper.{state_of}
use Rattle.calls.proofs.CallLaws.{handed_on}
use Rattle.checks.specs.CheckLaws.{shape_refused, shape_passed}
use Rattle.checks.proofs.check_start.Goals as goal

pub returns-in_err-check : goal.returns-in_err-check
unfolding start_checks
returns-in_err-check c =
    let a = c.args in
    let s = state_of a.stack.now a.list.now a.r in
    rw (handed_on c.from_residual.ensures)
    (shape_refused alone most_component a.p a.q a.coefs.now s _ c.in_err-check.was c.check.ensures)

pub returns : goal.returns
unfolding start_checks check7
returns c =
    let a = c.args in
    let i = input_of a.p a.q a.coefs.now in
    let s = state_of a.stack.now a.list.now a.r in
    shape_passed alone most_component a.p a.q a.coefs.now s (check7 i) c.in_ok-check.was
    c.check.ensures c.check-2.ensures
