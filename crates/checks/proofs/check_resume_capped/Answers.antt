-- `checks::check_resume_capped` meets its contract: a refusal of the shape decides, else the run record, the tables, the coefficients and the right sides do.
-- Assumes nothing.
use mathlib.Core.Path.{sym, ap, ◌∙◌}
use native.Mathlib.Omega.{arith}
use Rattle.definitions.specs.Answers.{◌then◌}
use Rattle.definitions.specs.Input.{input_with, rights, system_of}
use Rattle.definitions.specs.Refusals.{resume_checks, check6, range_checks}
use Rattle.calls.specs.Paper.{state_with, check_of}
use Rattle.calls.proofs.CallLaws.{handed_on}
use Rattle.checks.specs.CheckLaws.{shape_refused, shape_passed}
use Rattle.checks.specs.Shape.{shape_fits}
use Rattle.checks.proofs.check_resume_capped.Goals as goal

pub check_capped-requires : goal.check_capped-requires
check_capped-requires c =
    let a = c.args in
    shape_fits a.p a.q 1 _ _ _ (omega arith) (sym c.check.ensures ∙ ap check_of c.in_ok-check.was)

pub returns-in_err-check : goal.returns-in_err-check
unfolding resume_checks
returns-in_err-check c =
    let a = c.args in
    let s = state_with a.stack.now a.list.now a.second.now a.r in
    rw (handed_on c.from_residual.ensures)
    (shape_refused (rights a.rights.now) a.limit a.p a.q a.coefs.now s _ c.in_err-check.was
    c.check.ensures)

pub returns : goal.returns
unfolding resume_checks
returns c =
    let a = c.args in
    let b = rights a.rights.now in
    let i = input_with b a.limit a.p a.q a.coefs.now in
    let s = state_with a.stack.now a.list.now a.second.now a.r in
    shape_passed b a.limit a.p a.q a.coefs.now s (check6 (system_of i) s then range_checks b i) c.in_ok-check.was
    c.check.ensures (c.check_capped.ensures a.p)
