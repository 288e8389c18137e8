-- `checks::check_resume` meets its contract: a refusal of the shape decides, else the run record, the tables and the coefficients do. Assumes nothing.
use mathlib.Core.Path.{sym, ap, ◌∙◌}
use Rattle.definitions.specs.Answers.{◌then◌}
use Rattle.definitions.specs.Input.{alone, input_with, system_of}
use Rattle.definitions.specs.Refusals.{resume_checks, check6, check7}
use Rattle.calls.specs.Paper.{state_of, check_of}
use Rattle.calls.proofs.CallLaws.{handed_on}
use Rattle.checks.specs.CheckLaws.{shape_refused, shape_passed}
use Rattle.checks.specs.Shape.{alone_fits}
use Rattle.checks.proofs.check_resume.Goals as goal

pub check-requires-2 : goal.check-requires-2
check-requires-2 c =
    let a = c.args in
    alone_fits a.p a.q _ _ _ (sym c.check.ensures ∙ ap check_of c.in_ok-check.was)

pub returns-in_err-check : goal.returns-in_err-check
unfolding resume_checks
returns-in_err-check c =
    let a = c.args in
    let s = state_of a.stack.now a.list.now a.r in
    rw (handed_on c.from_residual.ensures)
    (shape_refused alone a.limit a.p a.q a.coefs.now s _ c.in_err-check.was c.check.ensures)

pub returns : goal.returns
unfolding resume_checks
returns c =
    let a = c.args in
    let i = input_with alone a.limit a.p a.q a.coefs.now in
    let s = state_of a.stack.now a.list.now a.r in
    shape_passed alone a.limit a.p a.q a.coefs.now s (check6 (system_of i) s then check7 i) c.in_ok-check.was
    c.check.ensures (c.check-2.ensures a.p)
