-- `resumed_from` meets its contract: the check decides, else the walks of the run go on. Assumes nothing.
use mathlib.Core.Path.{refl}
use Rattle.definitions.specs.Machine.{call}
use Rattle.laws.proofs.LowerLaws.{resume_from_valid}
use Rattle.calls.proofs.CallLaws.{call_refused, call_passed, passes}
use Rattle.walk.proofs.resumed_from.Goals as goal

pub walk_from-requires : goal.walk_from-requires
walk_from-requires c =
    (resume_from_valid _ _ _ refl (passes c.check_resume_from.ensures c.in_default.is)).1

pub returns-in-Err : goal.returns-in-Err
unfolding call
returns-in-Err c =
    rw c.refused.ensures (call_refused c.check_resume_from.ensures _ _ c.in-Err.is)

pub returns : goal.returns
unfolding call
returns c =
    call_passed c.check_resume_from.ensures _ _ c.in_default.is c.walk_from.ensures
