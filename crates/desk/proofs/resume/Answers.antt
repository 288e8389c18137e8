-- `resume` meets its contract: the check decides, and the walk does the rest. Assumes nothing.
use Rattle.definitions.specs.Machine.{call}
use Rattle.calls.proofs.CallLaws.{call_passed, call_refused, passes}
use Rattle.calls.specs.Paper.{state_of}
use Rattle.desk_spec.specs.Desks.{desk_of}
use Rattle.desk_spec.proofs.Valid.{resume_valid}
use Rattle.desk.proofs.resume.Goals as goal

pub walk_desk-requires : goal.walk_desk-requires
walk_desk-requires c =
    let a = c.args in
    resume_valid (desk_of a.p a.q a.coefs.now a.generators.now) (state_of a.stack.now a.list.now a.r)
    (passes c.check_resume.ensures c.in-Ok.is)

pub returns-in-Err : goal.returns-in-Err
unfolding call
returns-in-Err c =
    rw c.refused.ensures (call_refused c.check_resume.ensures _ _ c.in-Err.is)

pub returns-in-Ok : goal.returns-in-Ok
unfolding call
returns-in-Ok c =
    call_passed c.check_resume.ensures _ _ c.in-Ok.is c.walk_desk.ensures
