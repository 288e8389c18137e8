-- `resumed` meets its contract. The check decides, and then the plain call does the work. Assumes nothing.
use Rattle.calls.proofs.CallLaws.{call_passed, call_refused}
use Rattle.single_spec.specs.Calls.{single_resume}
use Rattle.single.proofs.resumed.Goals as goal

pub returns-in-Err : goal.returns-in-Err
unfolding single_resume
returns-in-Err c =
    rw c.refused.ensures (call_refused c.check_resume.ensures _ _ c.in-Err.is)

pub returns : goal.returns
unfolding single_resume
returns c =
    call_passed c.check_resume.ensures _ _ c.in_default.is c.resumed.ensures
