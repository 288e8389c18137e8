-- `started_from` meets its contract: the seat's own check decides, and then the core's start does the work. Assumes nothing.
use Rattle.seat.specs.Seat.{start_from_passed, start_from_refused}
use Rattle.seat.proofs.started_from.Goals as goal

pub returns-in-Err : goal.returns-in-Err
returns-in-Err c =
    rw c.refused.ensures (start_from_refused _ _ _ _ c.check.ensures c.in-Err.is _)

pub returns : goal.returns
returns c =
    start_from_passed _ _ _ _ c.check.ensures c.in_default.is _ c.started_from.ensures
