-- `resumed_from` meets its contract: the seat's own check decides, and then the core's continuing call does the work. Assumes nothing.
use Rattle.seat.specs.Seat.{resume_from_passed, resume_from_refused}
use Rattle.seat.proofs.resumed_from.Goals as goal

pub returns-in-Err : goal.returns-in-Err
returns-in-Err c =
    rw c.refused.ensures (resume_from_refused _ _ _ _ c.check.ensures c.in-Err.is _ _)

pub returns : goal.returns
returns c =
    resume_from_passed _ _ _ _ c.check.ensures c.in_default.is _ _ c.resumed_from-o.ensures (c.seat_outcome.ensures _ _ _)
