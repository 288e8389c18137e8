-- `started` meets its contract. The check decides, and then the plain call does the work. Assumes nothing.
use Rattle.definitions.specs.System.{most_component}
use Rattle.calls.proofs.CallLaws.{call_passed, call_refused}
use Rattle.single_spec.specs.Calls.{single_start}
use Rattle.single.proofs.started.Goals as goal

pub returns-in-Err : goal.returns-in-Err
unfolding single_start
returns-in-Err c =
    rw c.refused.ensures (call_refused c.check_start.ensures _ _ c.in-Err.is)

pub returns : goal.returns
unfolding single_start
returns c =
    call_passed c.check_start.ensures _ _ c.in_default.is (c.started.ensures most_component)
