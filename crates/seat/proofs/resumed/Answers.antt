-- `resumed` meets its contract: the seat's own check decides, and then the core's continuing call does the work. Assumes nothing.
use Rattle.seat.specs.Seat.{resume_passed, resume_refused}
use Rattle.seat.proofs.resumed.Goals as goal

pub returns-in-Err : goal.returns-in-Err
returns-in-Err c =
    rw c.refused.ensures (resume_refused _ _ _ _ c.check.ensures c.in-Err.is _)

pub returns : goal.returns
returns c =
    resume_passed _ _ _ _ c.check.ensures c.in_default.is _ c.resumed-o.ensures (c.seat_outcome.ensures _ _ _)
