-- `check_resume` meets its contract. The checks of the plain call decide, else the columns do. Assumes nothing.
use mathlib.Core.Path.{◌∙◌}
use native.Mathlib.Omega.{arith}
use Rattle.laws.proofs.RefusalLaws.{resume_valid}
use Rattle.calls.proofs.CallLaws.{handed_on, passes}
use Rattle.checks.specs.CheckLaws.{passed_first, refused_first}
use Rattle.single_spec.specs.Calls.{single_resume_checks}
use Rattle.single.proofs.check_resume.Goals as goal

pub check-requires : goal.check-requires
check-requires c = let g = resume_valid _ _ (passes c.check_resume.ensures c.in_ok-check_resume.was) in omega (arith, g.shaped.coefs)

pub returns-in_err-check_resume : goal.returns-in_err-check_resume
unfolding single_resume_checks
returns-in_err-check_resume c = rw (handed_on c.from_residual.ensures) (refused_first _ c.in_err-check_resume.was c.check_resume.ensures)

pub returns : goal.returns
unfolding single_resume_checks
returns c = c.check.ensures ∙ passed_first _ c.in_ok-check_resume.was c.check_resume.ensures
