-- `started` meets its contract: the seat's own check decides, and then the core's start does the work. Assumes nothing.
use Rattle.definitions.specs.System.{most_component}
use Rattle.seat.specs.Seat.{start_passed, start_refused}
use Rattle.seat.proofs.started.Goals as goal

pub returns-in-Err : goal.returns-in-Err
returns-in-Err c =
    rw c.refused.ensures (start_refused _ _ _ _ c.check.ensures c.in-Err.is)

pub returns : goal.returns
returns c =
    start_passed _ _ _ _ c.check.ensures c.in_default.is (c.started.ensures most_component)
