-- `checks::check_resume_from` meets its contract: a refusal of the shape decides, else the lower bound, the run record, the tables and the coefficients do.
-- Assumes nothing.
use mathlib.Core.Path.{sym, ap, ◌∙◌}
use Rattle.definitions.specs.Answers.{◌then◌}
use Rattle.definitions.specs.Input.{alone, input_with}
use Rattle.definitions.specs.Refusals.{check5, check6_from, check7, check8, resume_from_checks}
use Rattle.calls.specs.Paper.{state_with, check_of}
use Rattle.calls.proofs.CallLaws.{handed_on}
use Rattle.checks.specs.CheckLaws.{shape_refused, shape_passed}
use Rattle.checks.specs.Shape.{alone_fits}
use Rattle.checks.proofs.check_resume_from.Goals as goal

pub check_from-requires : goal.check_from-requires
check_from-requires c =
    let a = c.args in
    alone_fits a.p a.q _ _ _ (sym c.check.ensures ∙ ap check_of c.in_ok-check.was)

pub returns-in_err-check : goal.returns-in_err-check
unfolding resume_from_checks
returns-in_err-check c =
    let a = c.args in
    let s = state_with a.stack.now a.list.now a.second.now a.r in
    rw (handed_on c.from_residual.ensures)
    (shape_refused alone a.limit a.p a.q a.coefs.now s _ c.in_err-check.was c.check.ensures)

pub returns : goal.returns
unfolding resume_from_checks
returns c =
    let a = c.args in
    let i = input_with alone a.limit a.p a.q a.coefs.now in
    let s = state_with a.stack.now a.list.now a.second.now a.r in
    shape_passed alone a.limit a.p a.q a.coefs.now s
    (check5 i a.lower.now then check6_from a.lower.now i s then check7 i then check8 i a.lower.now)
    c.in_ok-check.was c.check.ensures (c.check_from.ensures a.p)
